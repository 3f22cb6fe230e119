-- What a part begins with and what follows its leaves, part by part, with a row that goes on at the ends: the equations that code goes by.
-- Assumes nothing.
use mathlib.Core.Path.{◌≡◌, refl, sym, ap, ◌∙◌}
use mathlib.Core.Logic.{◌≢◌}
use Prim.Native.Nat.{ℕ}
use mathlib.Core.Bool.{Bool}
use mathlib.Core.List.{List, [], ◌∷◌, ◌++◌, append-nil, append_assoc}
use borrow.Author.Tests.{eq-eqb, ne_eqb}
use Rattle.theory.specs.Pattern.{Manner, eager, lazy, Re, empty, leaf, seq, alt, star, field, opt}
use Rattle.theory.specs.Outcomes.{empty_turn}
use Rattle.traces.specs.Traces.{opened, Carried, ends_at, wants, end, want, replace, and_then, carry, then_leave, close}
use Rattle.traces.specs.Code.Rows.{start, follow}
use Rattle.traces.specs.Code.Pass.{Sets, neither, note, mapped, firsts}
use Rattle.traces.specs.Code.Sets.{join, joined, splice, closing, into, after}
use Rattle.traces.proofs.Lists.{replace_append, replace_replace}
use Rattle.traces.proofs.Natural.{mapped_append, mapped_firsts, natural_start, natural_follow}
use Rattle.traces.proofs.Firsts.{firsts_once, firsts_both}

-- One way and then two others; no way.
join_assoc : (s u v : Sets) → join (join s u) v ≡ join s (join u v)
join_assoc s u v = λ j. record { opens = sym (append_assoc v.opens u.opens s.opens) j; closes = sym (append_assoc v.closes u.closes s.closes) j }

join_neither : (s : Sets) → join neither s ≡ s
join_neither s = λ j. record { opens = append-nil s.opens j; closes = append-nil s.closes j }

joined_joined : (s u : Sets) (m : List (Carried Sets)) → joined s (joined u m) ≡ joined (join s u) m
joined_joined s u [] = refl
joined_joined s u (ends_at k v ∷ m) = rw (joined_joined s u m, join_assoc s u v)
joined_joined s u (wants p v ∷ m) = rw (joined_joined s u m, join_assoc s u v)

pub joined_neither : (m : List (Carried Sets)) → joined neither m ≡ m
joined_neither [] = refl
joined_neither (ends_at k v ∷ m) = rw (joined_neither m, join_neither v)
joined_neither (wants p v ∷ m) = rw (joined_neither m, join_neither v)

-- A row from the sets s is the row from neither, joined.
module _ (r : Re) (n : ℕ) (s : Sets) where
  pub start_joined : start note r n s ≡ joined s (start note r n neither)
  start_joined = sym (natural_start (λ k. k) (join s) note note (λ f k v. refl) (λ f k v. refl) r n neither)

  pub follow_joined : (p : ℕ) → follow note r p n s ≡ joined s (follow note r p n neither)
  follow_joined p = sym (natural_follow (λ k. k) (join s) note note (λ f k v. refl) (λ f k v. refl) r p n neither)

-- A list whose ends are taken for empty turns is itself.
and_then_empty_turn : {C : Type 0} (l : List (Carried C)) → and_then l (λ k v. carry v (empty_turn k)) ≡ l
unfolding empty_turn
and_then_empty_turn [] = refl
and_then_empty_turn (ends_at k v ∷ l) = ap (λ m. ends_at k v ∷ m) (and_then_empty_turn l)
and_then_empty_turn (wants p v ∷ l) = ap (λ m. wants p v ∷ m) (and_then_empty_turn l)

-- The end alone changes nothing but places.
splice_end : (l : List (Carried Sets)) → splice (end 0 neither) l ≡ mapped (λ k. 0) (λ s. s) l
splice_end [] = refl
splice_end (ends_at k s ∷ l) = ap (λ m. ends_at 0 s ∷ m) (splice_end l)
splice_end (wants p s ∷ l) = ap (λ m. wants p s ∷ m) (splice_end l)

module _ (m : List (Carried Sets)) where
  splice_append : (l k : List (Carried Sets)) → splice m (l ++ k) ≡ splice m l ++ splice m k
  splice_append l k = replace_append (λ j s. joined s m) want l k

  splice_joined : (π : ℕ → ℕ) (s : Sets) (l : List (Carried Sets)) → splice m (mapped π (join s) l) ≡ joined s (splice m l)
  splice_joined π s [] = refl
  splice_joined π s (ends_at k u ∷ l) = rw (mapped_append, joined_joined s u m, splice_joined π s l)
  splice_joined π s (wants p u ∷ l) = rw (splice_joined π s l)

  -- A list that goes on by the part y, and then by m; and one that closes the field f there.
  splice_then : (y : Re) (l : List (Carried Sets)) → splice m (and_then l (start note y)) ≡ splice (into m neither y) l
  splice_then y l = replace_replace (start note y) want (λ k s. joined s m) want l ∙ (λ j. replace (λ k s. on k s j) want l)
    where
      on : (k : ℕ) (s : Sets) → splice m (start note y k s) ≡ joined s (into m neither y)
      on k s = ap (splice m) (sym (natural_start (λ _. k) (join s) note note (λ f k v. refl) (λ f k v. refl) y 0 neither)) ∙ splice_joined (λ _. k) s (start note y 0 neither)

  splice_close : (f : ℕ) (l : List (Carried Sets)) → splice m (and_then l (close note f)) ≡ splice (joined (closing f) m) l
  splice_close f l = replace_replace (close note f) want (λ k s. joined s m) want l ∙ (λ j. replace (λ k s. on s j) want l)
    where
      on : (s : Sets) → joined (join s (closing f)) m ++ [] ≡ joined s (joined (closing f) m)
      on s = append-nil _ ∙ sym (joined_joined s (closing f) m)

  -- The row m may have each outcome once.
  splice_once : (l : List (Carried Sets)) (seen : List ℕ) → firsts seen (splice (firsts [] m) l) ≡ firsts seen (splice m l)
  splice_once [] seen = refl
  splice_once (ends_at k s ∷ l) seen =
      firsts_both seen (joined s (firsts [] m)) (joined s m) (splice (firsts [] m) l) (splice m l)
      (ap (firsts seen) (mapped_firsts (λ k. k) (join s) [] m) ∙ firsts_once seen (joined s m)) (splice_once l)
  splice_once (wants p s ∷ l) seen = firsts_both seen (want p s) (want p s) (splice (firsts [] m) l) (splice m l) refl (splice_once l)

  -- What a part begins with after the sets s, then m.
  module _ (s : Sets) where
    pub into_empty : into m s empty ≡ joined s m
    unfolding start
    into_empty = append-nil (joined s m)

    pub into_leaf : (p : ℕ) (c : ℕ → Bool) → into m s (leaf p c) ≡ wants p s ∷ []
    unfolding start
    into_leaf p c = refl

    pub into_seq : (x y : Re) → into m s (seq x y) ≡ into (into m neither y) s x
    unfolding start
    into_seq x y = splice_then y (start note x 0 s)

    pub into_alt : (x y : Re) → into m s (alt x y) ≡ into m s x ++ into m s y
    unfolding start
    into_alt x y = splice_append (start note x 0 s) (start note y 0 s)

    -- At one place a repeat is one turn or none.
    pub into_star : (how : Manner) (x : Re) → into m s (star how x) ≡ into m s (opt how x)
    unfolding start then_leave
    into_star eager x = rw (and_then_empty_turn (start note x 0 s))
    into_star lazy x = rw (and_then_empty_turn (start note x 0 s))

    pub into_field : (f : ℕ) (x : Re) → into m s (field f x) ≡ into (joined (closing f) m) (note (opened f 0) s) x
    unfolding start
    into_field f x = splice_close f (start note x 0 (note (opened f 0) s))

    pub into_once : (r : Re) (seen : List ℕ) → firsts seen (into (firsts [] m) s r) ≡ firsts seen (into m s r)
    into_once r = splice_once (start note r 0 s)

  -- What follows its leaf p, then m.
  module _ (p : ℕ) where
    pub after_empty : after m empty p ≡ []
    unfolding follow
    after_empty = refl

    pub after_leaf : (c : ℕ → Bool) → after m (leaf p c) p ≡ m
    unfolding follow
    after_leaf c = rw (eq-eqb p p refl) (append-nil (joined neither m) ∙ joined_neither m)

    pub after_other : (q : ℕ) (c : ℕ → Bool) → p ≢ q → after m (leaf q c) p ≡ []
    unfolding follow
    after_other q c n = rw (ne_eqb p q n)

    pub after_seq : (x y : Re) → after m (seq x y) p ≡ after (into m neither y) x p ++ after m y p
    unfolding follow
    after_seq x y = splice_append (and_then (follow note x p 0 neither) (start note y)) (follow note y p 0 neither) ∙ rw (splice_then y (follow note x p 0 neither))

    pub after_alt : (x y : Re) → after m (alt x y) p ≡ after m x p ++ after m y p
    unfolding follow
    after_alt x y = splice_append (follow note x p 0 neither) (follow note y p 0 neither)

    pub after_star : (how : Manner) (x : Re) → after m (star how x) p ≡ after (into m neither (star how x)) x p
    unfolding follow
    after_star how x = splice_then (star how x) (follow note x p 0 neither)

    pub after_field : (f : ℕ) (x : Re) → after m (field f x) p ≡ after (joined (closing f) m) x p
    unfolding follow
    after_field f x = splice_close f (follow note x p 0 neither)

    pub after_once : (r : Re) (seen : List ℕ) → firsts seen (after (firsts [] m) r p) ≡ firsts seen (after m r p)
    after_once r = splice_once (follow note r p 0 neither)

-- Then nothing but the end: the rows.
pub into_end : (s : Sets) (r : Re) → into (end 0 neither) s r ≡ start note r 0 s
into_end s r = splice_end (start note r 0 s) ∙ natural_start (λ k. 0) (λ u. u) note note (λ f k v. refl) (λ f k v. refl) r 0 s

pub after_end : (r : Re) (p : ℕ) → after (end 0 neither) r p ≡ follow note r p 0 neither
after_end r p = splice_end (follow note r p 0 neither) ∙ natural_follow (λ k. 0) (λ u. u) note note (λ f k v. refl) (λ f k v. refl) r p 0 neither
