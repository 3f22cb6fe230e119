-- A list of outcomes after another, in an array: outcome by outcome, each after the fields that come first.
-- Assumes nothing.
use mathlib.Core.Path.{◌≡◌, refl, sym, ap, ◌∙◌, subst}
use Prim.Native.Nat.{ℕ, zero, suc, ◌+◌, ◌≤◌, ◌<◌}
use mathlib.Core.Bool.{Bool, true, false, ◌||◌, cond}
use mathlib.Core.List.{List, [], ◌∷◌, ◌++◌, append_assoc, append-nil, map-append}
use native.Mathlib.Omega.{arith}
use native.Mathlib.Numerals.{add-one}
use lib.ListN.{length, get_or, take}
use lib.Seq.{take-suc, take_all}
use lib.Dec.{T, eqb, eqb_refl}
use lib.Bits.{bit_or}
use Rattle.theory.specs.Standing.{member, gather, once}
use Rattle.theory.proofs.Tests.{or_left, or_right}
use Rattle.theory.proofs.Members.{member_append}
use Rattle.theory.proofs.Closure.{gather_once}
use Rattle.traces.specs.Traces.{Carried}
use Rattle.traces.specs.Code.Pass.{Sets, items}
use Rattle.traces.specs.Code.Sets.{join, joined}
use Rattle.traces.specs.Code.Marks.{Shows, sets_of}
use Rattle.follow.specs.declared.outcomes.Outcomes.{Outcomes}
use Rattle.follow.specs.Outcomes.{listed, Lists, Added, Joined}
use Rattle.follow.proofs.Masks.{shows_join}
use Rattle.follow.proofs.Items.{items_append, items_joined, once_append, sets_append, sets_joined, outcome, outcome_item, outcome_sets, outcomes, outcomes_items, outcomes_sets}
use Rattle.follow.proofs.Lists.{member_is}

-- A list that goes on by k is one that goes on by m, if k and m have the same outcomes with the same fields.
again : {x : Outcomes} (l k m : List (Carried Sets)) → once (items k) ≡ once (items m) → ((q : ℕ) → T (member q (items k)) → sets_of q k ≡ sets_of q m) → Lists x (l ++ k) → Lists x (l ++ m)
again {x} l k m e d is =
    record {
      are = is.are ∙ once_append l k ∙ sym (gather_once (once (items l)) (items k)) ∙ ap (gather (once (items l))) e ∙ gather_once (once (items l)) (items m) ∙ sym (once_append l m);
      marked = λ q t. subst (Shows (get_or x.fields q 0)) (sets_append q l k ∙ go q (member q (items l)) (has q t) ∙ sym (sets_append q l m)) (is.marked q t);
    }
  where
    has : (q : ℕ) → T (member q (listed x)) → T (member q (items l) || member q (items k))
    has q t = rw (member_is is q, items_append l k, member_append q (items l) (items k)) at t

    go : (q : ℕ) (c : Bool) → T (c || member q (items k)) → cond c (sets_of q l) (sets_of q k) ≡ cond c (sets_of q l) (sets_of q m)
    go q true t = refl
    go q false t = d q t

member_get_d : (l : List ℕ) (i : ℕ) → i < length l → T (member (get_or l i 0) l)
member_get_d [] i h = absurd (omega arith)
member_get_d (p ∷ l) zero h = or_left (eqb p p) (member p l) (eqb_refl p)
member_get_d (p ∷ l) (suc i) h = or_right (eqb (get_or l i 0) p) (member (get_or l i 0) l) (member_get_d l i (omega arith))

-- The fields s, and then those of the first outcome p of m.
abbrev way_to : Sets → List (Carried Sets) → ℕ → Sets
way_to s m p = join s (sets_of p m)

-- r is x, and then the first i outcomes of y after the fields that the mask b has.
abbrev pub JoinedTo : Outcomes → Outcomes → ℕ → ℕ → Outcomes → Type 0
JoinedTo x y b i r = (l m : List (Carried Sets)) (s : Sets) → Lists x l → Lists y m → Shows b s → Lists r (l ++ outcomes (way_to s m) (take i (listed y)))

pub join_begin : (x y : Outcomes) (b : ℕ) → JoinedTo x y b 0 x
join_begin x y b l m s a c d = rw (append-nil l) a

module _ (y : Outcomes) where
  pub item_small : (i : ℕ) → i < length (listed y) → get_or (listed y) i 0 ≤ 64
  item_small i h = y.good.small _ (member_get_d (listed y) i h)

  module _ {x : Outcomes} {b : ℕ} (i : ℕ) {r : Outcomes} (before : JoinedTo x y b i r) where
    pub join_turn : {r' : Outcomes} → i < length (listed y) → Added r (get_or (listed y) i 0) (bit_or b (get_or y.fields (get_or (listed y) i 0) 0)) r' → JoinedTo x y b (i + 1) r'
    join_turn h added l m s a c d =
        let p = get_or (listed y) i 0 in
        let o = outcome p (way_to s m p) in
        let e : take (i + 1) (listed y) ≡ take i (listed y) ++ (p ∷ []) = rw (add-one i, take-suc (listed y) i 0 h) in
        rw (e, map-append (λ q. outcome q (way_to s m q)) (take i (listed y)) (p ∷ []), ← append_assoc l (outcomes (way_to s m) (take i (listed y))) (o ∷ []))
        (added.lists _ o (before l m s a c d) (outcome_item p (way_to s m p)) (rw (outcome_sets p (way_to s m p)) (shows_join d (c.marked p (member_get_d (listed y) i h)))))

    pub join_done : length (listed y) ≤ i → Joined x y b r
    join_done h = record { lists = lists }
      where
        lists : (l m : List (Carried Sets)) (s : Sets) → Lists x l → Lists y m → Shows b s → Lists r (l ++ joined s m)
        lists l m s a c d = again l (outcomes (way_to s m) (listed y)) (joined s m) once_same sets_same (rw (take_all i (listed y) h) at (before l m s a c d))
          where
            once_same : once (items (outcomes (way_to s m) (listed y))) ≡ once (items (joined s m))
            once_same = rw (outcomes_items (way_to s m) (listed y), c.are, items_joined s m) (gather_once [] (items m))

            sets_same : (q : ℕ) → T (member q (items (outcomes (way_to s m) (listed y)))) → sets_of q (outcomes (way_to s m) (listed y)) ≡ sets_of q (joined s m)
            sets_same q t =
                let k : T (member q (listed y)) = rw (outcomes_items (way_to s m) (listed y)) at t in
                outcomes_sets (way_to s m) q (listed y) k ∙ sym (sets_joined q s m (rw (member_is c q) at k))
