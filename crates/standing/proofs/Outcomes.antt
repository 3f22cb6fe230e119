-- The outcomes of the theory as numbers: what is read off them, and that a wanted leaf is one of the pattern's.
-- Assumes nothing.
use mathlib.Core.Path.{◌≡◌, refl, sym, ap, ◌∙◌}
use Prim.Native.Nat.{ℕ, zero, suc, ◌<◌}
use mathlib.Core.Bool.{Bool, true, false, cond}
use mathlib.Core.List.{List, [], ◌∷◌, ◌++◌, append-nil, append_assoc}
use native.Mathlib.Omega.{arith}
use lib.Dec.{T, eqb, eqb_refl, eqb-suc-suc}
use borrow.Author.Tests.{lt-ltb}
use Rattle.theory.specs.Pattern.{Re, count, has, Numbered}
use Rattle.theory.specs.Outcomes.{ends_at, wants}
use Rattle.theory.specs.Standing.{member, gather, once, fronts}
use Rattle.theory.specs.Code.Follow.{Next, start, follow}
use Rattle.theory.specs.Code.Closure.{items, closure, closure_after, front, flat, takes}
use Rattle.theory.proofs.Tests.{or_left, or_right, or_cases, either}
use Rattle.theory.proofs.Members.{member_append, gather_member}
use Rattle.theory.proofs.Extend.{leaf_range}
use Rattle.theory.proofs.Nexts.{Leaves, start_all, follow_all}
use Rattle.theory.proofs.Step.{wanted_in}
use Rattle.theory.proofs.Closure.{closure_right, closure_after_right, up, up_append, member_up, zero_up, gather_more, member_wants}
use Rattle.standing.specs.Reads.{leaves}

-- What is read off the numbers.
pub front_items : (l : List Next) → front (items l) ≡ fronts l
front_items [] = refl
front_items (ends_at u ∷ l) = refl
front_items (wants p ∷ l) = ap (λ x. p ∷ x) (front_items l)

-- The numbers of wanted leaves are at most n.
abbrev pub Within : ℕ → List ℕ → Type 0
Within n l = (q : ℕ) → T (member (suc q) l) → q < n

module _ (r : Re) (d : Numbered 0 r) where
  items_within : (l : List Next) → Leaves r l → Within (count r) (once (items l))
  items_within l h q t =
      let c = leaf_range 0 d (wanted_in h q (rw (gather_member (suc q) [] (items l), member_wants q l) at t)) in
      omega arith

  pub closure_within : Within (count r) (closure r)
  closure_within = rw (closure_right r) (items_within (start r) (start_all r))

  pub after_within : (p : ℕ) → Within (count r) (closure_after r p)
  after_within p = rw (closure_after_right r p) (items_within (follow r p) (follow_all r p))

  pub flat_within : (b : ℕ) (l : List ℕ) → Within (count r) (flat (takes r b) l)
  flat_within b [] q t = absurd t
  flat_within b (p ∷ l) q t =
      either (go (has r p b)) (flat_within b l q) (or_cases (member (suc q) (takes r b p)) (member (suc q) (flat (takes r b) l)) (rw (member_append (suc q) (takes r b p) (flat (takes r b) l)) at t))
    where
      go : (c : Bool) → T (member (suc q) (cond c (closure_after r p) [])) → q < count r
      go true i = after_within p q i
      go false i = absurd i

-- The leaves before the first end.
pub leaves_front : (l : List ℕ) → Within 64 l → leaves l ≡ front l
leaves_front [] h = refl
leaves_front (zero ∷ l) h = refl
leaves_front (suc p ∷ l) h =
    rw (lt-ltb p 64 (h p (or_left (eqb (suc p) (suc p)) (member (suc p) l) (eqb_refl (suc p)))), leaves_front l (λ q t. h q (or_right (eqb (suc q) (suc p)) (member (suc q) l) t)))

pub front_member : (q : ℕ) (l : List ℕ) → T (member q (front l)) → T (member (suc q) l)
front_member q [] t = t
front_member q (zero ∷ l) t = absurd t
front_member q (suc p ∷ l) t = rw (eqb-suc-suc q p) (either (or_left (eqb q p) (member (suc q) l)) (λ i. or_right (eqb q p) (member (suc q) l) (front_member q l i)) (or_cases (eqb q p) (member q (front l)) t))

-- Each once, and then the leaves before the first end, is the same as the other way round.
front_up : (u v : List ℕ) → front (up u ++ v) ≡ u ++ front v
front_up [] v = refl
front_up (p ∷ u) v = ap (λ x. p ∷ x) (front_up u v)

front_gather : (u l : List ℕ) → front (gather (up u) l) ≡ gather u (front l)
front_gather u [] = ap (λ x. front x) (sym (append-nil (up u))) ∙ front_up u [] ∙ append-nil u
front_gather u (zero ∷ l) =
    let (v, e) = gather_more (up u ++ (0 ∷ [])) l in
    ap (λ t. front (gather (cond t (up u) (up u ++ (0 ∷ []))) l)) (zero_up u)
    ∙ ap front (e ∙ append_assoc (up u) (0 ∷ []) v)
    ∙ front_up u (0 ∷ v)
    ∙ append-nil u
front_gather u (suc p ∷ l) =
    ap (λ t. front (gather (cond t (up u) (up u ++ (suc p ∷ []))) l)) (member_up p u)
    ∙ go (member p u) (front_gather u l) (rw (up_append u (p ∷ [])) at (front_gather (u ++ (p ∷ [])) l))
  where
    go : (c : Bool) → front (gather (up u) l) ≡ gather u (front l) → front (gather (up u ++ (suc p ∷ [])) l) ≡ gather (u ++ (p ∷ [])) (front l)
        → front (gather (cond c (up u) (up u ++ (suc p ∷ []))) l) ≡ gather (cond c u (u ++ (p ∷ []))) (front l)
    go true x y = x
    go false x y = y

pub front_once : (l : List ℕ) → front (once l) ≡ once (front l)
front_once l = front_gather [] l
