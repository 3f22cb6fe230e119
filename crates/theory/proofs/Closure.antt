-- The closures are the lists at the line's end with each outcome once: what comes a second time counts for nothing, however the lists are put together.
-- Assumes nothing.
use mathlib.Core.Path.{◌≡◌, refl, sym, ap, ◌∙◌}
use Prim.Native.Nat.{ℕ, zero, suc}
use mathlib.Core.Bool.{Bool, true, false, cond}
use mathlib.Core.List.{List, [], ◌∷◌, ◌++◌, append-nil, append_assoc}
use lib.Dec.{T, eqb, eqb→eq, eqb-suc-suc, eqb-zero-suc, eqb-suc-zero}
use Rattle.theory.specs.Pattern.{Manner, eager, lazy, Re, empty, leaf, seq, alt, star, field, has, count}
use Rattle.theory.specs.Outcomes.{ends_at, wants, and_then, when, then_leave}
use Rattle.theory.specs.Code.Follow.{Next, start, follow, after, has_end}
use Rattle.theory.specs.Standing.{fronts, wanted, member, gather, once, from, filter, set_of, Standing}
use Rattle.theory.specs.Code.Next.{afters, next}
use Rattle.theory.specs.Code.Closure.{flat, item, items, at0, splice, leaving, closure, closure_after, takes, moves, front}
use Rattle.theory.proofs.Turns.{and_then_empty_turn}
use Rattle.theory.proofs.Tests.{true_T, or_left, or_right, or_cases, either}
use Rattle.theory.proofs.Members.{Within, member_append, gather_append, gather_absorb, gather_member, filter_same}

flat_append : (f : ℕ → List ℕ) (l m : List ℕ) → flat f (l ++ m) ≡ flat f l ++ flat f m
flat_append f [] m = refl
flat_append f (p ∷ l) m = rw (flat_append f l m, append_assoc)

flat_within : (f : ℕ → List ℕ) (p : ℕ) (l : List ℕ) → T (member p l) → Within (f p) (flat f l)
flat_within f p [] m q t = absurd m
flat_within f p (x ∷ l) m q t =
    rw (member_append q (f x) (flat f l))
    (either (λ e. or_left (member q (f x)) (member q (flat f l)) (rw (← eqb→eq p x e) t))
    (λ i. or_right (member q (f x)) (member q (flat f l)) (flat_within f p l i q t))
    (or_cases (eqb p x) (member p l) m))

module _ (f : ℕ → List ℕ) (s : List ℕ) where
  -- A number that was there before adds nothing.
  flat_again : (u : List ℕ) (p : ℕ) (l : List ℕ) → T (member p u) → gather s (flat f (u ++ (p ∷ l))) ≡ gather s (flat f (u ++ l))
  flat_again u p l m =
      let seen : Within (f p) (gather s (flat f u)) =
      λ q t. rw (gather_member q s (flat f u)) (or_right (member q s) (member q (flat f u)) (flat_within f p u m q t)) in
      rw (
        flat_append f u (p ∷ l),
        flat_append f u l,
        gather_append s (flat f u) (f p ++ flat f l),
        gather_append (gather s (flat f u)) (f p) (flat f l),
        gather_absorb (gather s (flat f u)) (f p) seen,
        gather_append s (flat f u) (flat f l),
      )

  flat_forget : (u l : List ℕ) → gather s (flat f (gather u l)) ≡ gather s (flat f (u ++ l))
  flat_forget u [] = rw append-nil
  flat_forget u (p ∷ l) = flat_forget (cond (member p u) u (u ++ (p ∷ []))) l ∙ go (member p u) refl
    where
      go : (c : Bool) → member p u ≡ c → gather s (flat f (cond c u (u ++ (p ∷ [])) ++ l)) ≡ gather s (flat f (u ++ (p ∷ l)))
      go true e = sym (flat_again u p l (true_T (member p u) e))
      go false e = rw append_assoc

flat_one : (l : List ℕ) → flat (λ p. p ∷ []) l ≡ l
flat_one [] = refl
flat_one (p ∷ l) = ap (λ x. p ∷ x) (flat_one l)

-- `gather` looks only at the first appearances,
pub gather_once : (s l : List ℕ) → gather s (once l) ≡ gather s l
gather_once s l = rw (flat_one (once l), flat_one l) at (flat_forget (λ p. p ∷ []) s [] l)

-- and so may each list that is put in for a number.
flat_same : (f g : ℕ → List ℕ) → ((p : ℕ) → once (f p) ≡ once (g p)) → (s l : List ℕ) → gather s (flat f l) ≡ gather s (flat g l)
flat_same f g e s [] = refl
flat_same f g e s (p ∷ l) =
    rw (gather_append s (f p) (flat f l), gather_append s (g p) (flat g l))
    (ap (λ x. gather x (flat f l)) (sym (gather_once s (f p)) ∙ ap (gather s) (e p) ∙ gather_once s (g p)) ∙ flat_same f g e (gather s (g p)) l)

pub items_append : (l m : List Next) → items (l ++ m) ≡ items l ++ items m
items_append [] m = refl
items_append (o ∷ l) m = ap (λ x. item o ∷ x) (items_append l m)

pub items_and_then : (l m : List Next) → items (and_then l (λ _. m)) ≡ splice (items m) (items l)
items_and_then [] m = refl
items_and_then (ends_at u ∷ l) m = rw (items_append m, items_and_then l m)
items_and_then (wants p ∷ l) m = ap (λ x. suc p ∷ x) (items_and_then l m)

at0_same : (m n : List ℕ) → once m ≡ once n → (p : ℕ) → once (at0 m p) ≡ once (at0 n p)
at0_same m n e zero = e
at0_same m n e (suc p) = refl

-- A list put in at the ends of another, both with each number once.
splice_once : (s l m : List ℕ) → gather s (splice (once m) (once l)) ≡ gather s (splice m l)
splice_once s l m = flat_forget (at0 (once m)) s [] l ∙ flat_same (at0 (once m)) (at0 m) (at0_same (once m) m (gather_once [] m)) s l

append_once : (s l m : List ℕ) → gather s (once l ++ once m) ≡ gather s (l ++ m)
append_once s l m = rw (gather_append s (once l) (once m), gather_once s l, gather_once (gather s l) m, ← gather_append s l m)

pub closure_right : (r : Re) → closure r ≡ once (items (start r))
unfolding closure start then_leave
closure_right empty = refl
closure_right (leaf p s) = refl
closure_right (seq x y) = rw (closure_right x, closure_right y, items_and_then (start x) (start y)) (splice_once [] (items (start x)) (items (start y)))
closure_right (alt x y) = rw (closure_right x, closure_right y, items_append) (append_once [] (items (start x)) (items (start y)))
closure_right (star how x) = rw (closure_right x, and_then_empty_turn) (go how)
  where
    go : (how : Manner) → once (leaving how (once (items (start x)))) ≡ once (items (then_leave how (start x) tt))
    go eager = rw (items_append (start x)) (append_once [] (items (start x)) (0 ∷ []))
    go lazy = gather_once (0 ∷ []) (items (start x))
closure_right (field f x) = closure_right x

pub closure_after_right : (r : Re) (p : ℕ) → closure_after r p ≡ once (items (follow r p))
unfolding closure_after follow
closure_after_right empty p = refl
closure_after_right (leaf q s) p = go (eqb p q)
  where
    go : (c : Bool) → cond c (0 ∷ []) [] ≡ once (items (when c (ends_at tt ∷ [])))
    go true = refl
    go false = refl
closure_after_right (seq x y) p =
    rw (
      closure_after_right x p,
      closure_after_right y p,
      closure_right y,
      items_append,
      items_and_then (follow x p) (start y),
      gather_append [] (splice (once (items (start y))) (once (items (follow x p)))) (once (items (follow y p))),
      splice_once [] (items (follow x p)) (items (start y)),
      gather_once (once (splice (items (start y)) (items (follow x p)))) (items (follow y p)),
    )
    (sym (gather_append [] (splice (items (start y)) (items (follow x p))) (items (follow y p))))
closure_after_right (alt x y) p = rw (closure_after_right x p, closure_after_right y p, items_append) (append_once [] (items (follow x p)) (items (follow y p)))
closure_after_right (star how x) p = rw (closure_after_right x p, closure_right (star how x), items_and_then (follow x p) (start (star how x))) (splice_once [] (items (follow x p)) (items (start (star how x))))
closure_after_right (field f x) p = closure_after_right x p

moves_right : (r : Re) (b : ℕ) (l : List ℕ) → moves r b l ≡ once (items (afters r b l))
unfolding moves
moves_right r b l = flat_same (takes r b) (λ p. items (after r b p)) same [] l ∙ ap once (sym (joined l))
  where
    same : (p : ℕ) → once (takes r b p) ≡ once (items (after r b p))
    same p = go (has r p b)
      where
        go : (c : Bool) → once (cond c (closure_after r p) []) ≡ once (items (when c (follow r p)))
        go true = rw (closure_after_right r p) (gather_once [] (items (follow r p)))
        go false = refl

    joined : (m : List ℕ) → items (afters r b m) ≡ flat (λ p. items (after r b p)) m
    joined [] = refl
    joined (p ∷ m) = rw (items_append, joined m)

-- The numbers of wanted leaves.
abbrev pub up : List ℕ → List ℕ
up [] = []
up (p ∷ l) = suc p ∷ up l

front_up : (u v : List ℕ) → front (up u ++ (0 ∷ v)) ≡ u
front_up [] v = refl
front_up (p ∷ u) v = ap (λ x. p ∷ x) (front_up u v)

front_only : (u : List ℕ) → front (up u) ≡ u
front_only [] = refl
front_only (p ∷ u) = ap (λ x. p ∷ x) (front_only u)

pub up_append : (u v : List ℕ) → up (u ++ v) ≡ up u ++ up v
up_append [] v = refl
up_append (p ∷ u) v = ap (λ x. suc p ∷ x) (up_append u v)

pub member_up : (p : ℕ) (u : List ℕ) → member (suc p) (up u) ≡ member p u
member_up p [] = refl
member_up p (q ∷ u) = rw (eqb-suc-suc p q, member_up p u)

pub zero_up : (u : List ℕ) → member 0 (up u) ≡ false
zero_up [] = refl
zero_up (p ∷ u) = rw (eqb-zero-suc p, zero_up u)

-- `gather` only adds at the end.
pub gather_more : (s l : List ℕ) → (v : List ℕ) × (gather s l ≡ s ++ v)
gather_more s [] = ([], sym (append-nil s))
gather_more s (p ∷ l) = go (member p s) (gather_more s l) (gather_more (s ++ (p ∷ [])) l)
  where
    go : (c : Bool) → (v : List ℕ) × (gather s l ≡ s ++ v) → (v : List ℕ) × (gather (s ++ (p ∷ [])) l ≡ s ++ (p ∷ []) ++ v) → (v : List ℕ) × (gather (cond c s (s ++ (p ∷ []))) l ≡ s ++ v)
    go true x y = x
    go false x (v, e) = (p ∷ v, e ∙ append_assoc s (p ∷ []) v)

front_items : (u : List ℕ) (l : List Next) → front (gather (up u) (items l)) ≡ gather u (fronts l)
front_items u [] = front_only u
front_items u (ends_at c ∷ l) =
    let (v, e) = gather_more (up u ++ (0 ∷ [])) (items l) in
    ap (λ t. front (gather (cond t (up u) (up u ++ (0 ∷ []))) (items l))) (zero_up u)
    ∙ ap front (e ∙ append_assoc (up u) (0 ∷ []) v)
    ∙ front_up u v
front_items u (wants p ∷ l) =
    ap (λ t. front (gather (cond t (up u) (up u ++ (suc p ∷ []))) (items l))) (member_up p u)
    ∙ go (member p u) (front_items u l) (rw (up_append u (p ∷ [])) at (front_items (u ++ (p ∷ [])) l))
  where
    go : (c : Bool) → front (gather (up u) (items l)) ≡ gather u (fronts l) → front (gather (up u ++ (suc p ∷ [])) (items l)) ≡ gather (u ++ (p ∷ [])) (fronts l)
        → front (gather (cond c (up u) (up u ++ (suc p ∷ []))) (items l)) ≡ gather (cond c u (u ++ (p ∷ []))) (fronts l)
    go true x y = x
    go false x y = y

pub member_zero : (l : List Next) → member 0 (items l) ≡ has_end l
member_zero [] = refl
member_zero (ends_at u ∷ l) = refl
member_zero (wants p ∷ l) = rw (eqb-zero-suc p) (member_zero l)

pub member_wants : (p : ℕ) (l : List Next) → member (suc p) (items l) ≡ member p (wanted l)
member_wants p [] = refl
member_wants p (ends_at u ∷ l) = rw (eqb-suc-zero p) (member_wants p l)
member_wants p (wants q ∷ l) = rw (eqb-suc-suc p q, member_wants p l)

-- THE NEXT STANDING from the moves of (a) and those of (c).
pub next_moves : (r : Re) (s : Standing) (b : ℕ)
    → next r s b ≡ record {
      order = front (moves r b s.order);
      first = member 0 (moves r b s.order);
      all = filter (λ p. member (suc p) (moves r b s.all)) (from 0 (count r));
      some = member 0 (moves r b s.all);
    }
unfolding next
next_moves r s b = λ i. record {
  order = order i;
  first = ended s.order i;
  all = all i;
  some = ended s.all i;
}
  where
    order : once (fronts (afters r b s.order)) ≡ front (moves r b s.order)
    order = rw (moves_right r b s.order) (sym (front_items [] (afters r b s.order)))

    ended : (l : List ℕ) → has_end (afters r b l) ≡ member 0 (moves r b l)
    ended l = rw (moves_right r b l, gather_member 0 [] (items (afters r b l))) (sym (member_zero (afters r b l)))

    all : set_of r (wanted (afters r b s.all)) ≡ filter (λ p. member (suc p) (moves r b s.all)) (from 0 (count r))
    all = filter_same _ _ (from 0 (count r)) λ p. rw (moves_right r b s.all, gather_member (suc p) [] (items (afters r b s.all))) (sym (member_wants p (afters r b s.all)))
