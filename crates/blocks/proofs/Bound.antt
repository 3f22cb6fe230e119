-- There are no more blocks than the pattern has leaves: their sets are not empty, and no leaf is in two.
-- Assumes nothing.
use mathlib.Core.Path.{◌≡◌, refl}
use Prim.Native.Nat.{ℕ, suc, ◌≤◌, ◌<◌}
use mathlib.Core.Bool.{Bool, true, false, not, cond}
use mathlib.Core.List.{List, [], ◌∷◌, ◌++◌, append-nil}
use native.Mathlib.Omega.{arith}
use lib.ListN.{length, length-append}
use lib.Dec.{T, eqb, eqb_refl}
use Rattle.theory.specs.Pattern.{Re, count}
use Rattle.theory.specs.Standing.{wanted, member, from, set_of}
use Rattle.theory.specs.Spans.{Span, span}
use Rattle.theory.specs.Code.Follow.{has_end}
use Rattle.theory.specs.Code.Next.{afters}
use Rattle.theory.specs.Code.Members.{Once, nil, cons}
use Rattle.theory.proofs.Tests.{T_true, or_left, or_right, or_cases, either}
use Rattle.theory.proofs.Members.{member_append, filter_in, filter_passes, member_from, from_range, length_from, once_from, once_filter, once_size}
use Rattle.blocks.specs.Blocks.{Block, State, carried, keep, onto, carry, opening, step}
use Rattle.blocks.specs.Invariants.{leaves_of, Full, Apart}

-- Lists that have each number once.
once_append : {l m : List ℕ} → Once l → Once m → ((p : ℕ) → T (member p l) → T (member p m) → ⊥) → Once (l ++ m)
once_append nil o h = o
once_append {m = m} (cons {p = p} {l = l} a u) o h =
    cons {p = p} {l = l ++ m}
    (λ t. either a (λ c. h p (or_left (eqb p p) (member p l) (eqb_refl p)) c) (or_cases (member p l) (member p m) (rw (member_append p l m) at t)))
    (once_append u o (λ q t c. h q (or_right (eqb q p) (member q l) t) c))

module _ (r : Re) where
  set_once : (l : List ℕ) → Once (set_of r l)
  set_once l = once_filter (λ p. member p l) (once_from 0 (count r))

  set_below : (l : List ℕ) (p : ℕ) → T (member p (set_of r l)) → p < count r
  set_below l p t = let c = from_range p 0 (count r) (filter_in (λ q. member q l) (from 0 (count r)) p t) in omega arith

  no_blocks : Apart r []
  no_blocks = record { full = tt; once = nil; below = λ p t. absurd t }

  -- A block before others without its leaves.
  apart_keep : (i : ℕ) (s : List ℕ) (m : List Block) → Once s → ((p : ℕ) → T (member p s) → p < count r) → ((p : ℕ) → T (member p s) → T (member p (leaves_of m)) → ⊥) → Apart r m → Apart r (keep i s ++ m)
  apart_keep i [] m o below h c = c
  apart_keep i (p ∷ l) m o below h c =
      record {
        full = (omega arith, c.full);
        once = once_append o c.once h;
        below = λ q t. either (λ u. below q u) (λ u. c.below q u) (or_cases (member q (p ∷ l)) (member q (leaves_of m)) (rw (member_append q (p ∷ l) (leaves_of m)) at t));
      }

  keep_leaves : (i : ℕ) (s : List ℕ) (m : List Block) → leaves_of (keep i s ++ m) ≡ s ++ leaves_of m
  keep_leaves i [] m = refl
  keep_leaves i (p ∷ l) m = refl

  -- Blocks without the leaves of a list.
  abbrev Free : List ℕ → List Block → Type 0
  Free taken l = (p : ℕ) → T (member p (leaves_of l)) → T (member p taken) → ⊥

  carry_apart : (b j : ℕ) (best : Span) (taken : List ℕ) (l : List Block) → Apart r (carry r b j best taken l).blocks × Free taken (carry r b j best taken l).blocks
  unfolding carry
  carry_apart b j best taken [] = (no_blocks, λ p t u. absurd t)
  carry_apart b j best taken (x ∷ l) = go (has_end (afters r b x.leaves)) (carry_apart b j best (taken ++ set) l)
    where
      set : List ℕ
      set = carried r b taken x.leaves

      free : (p : ℕ) → T (member p set) → T (member p taken) → ⊥
      free p t u = rw (T_true (member p taken) u) at (filter_passes (λ q. not (member q taken)) (set_of r (wanted (afters r b x.leaves))) p t)

      kept : (m : List Block) → Apart r m → Free (taken ++ set) m → Apart r (keep x.from set ++ m) × Free taken (keep x.from set ++ m)
      kept m c f = (
        apart_keep x.from set m
            (once_filter (λ q. not (member q taken)) (set_once (wanted (afters r b x.leaves))))
            (λ p t. set_below (wanted (afters r b x.leaves)) p (filter_in (λ q. not (member q taken)) (set_of r (wanted (afters r b x.leaves))) p t))
            (λ p t u. f p u (rw (member_append p taken set) (or_right (member p taken) (member p set) t))) c,
        λ p t u. either (λ v. free p v u) (λ v. f p v (rw (member_append p taken set) (or_left (member p taken) (member p set) u)))
            (or_cases (member p set) (member p (leaves_of m)) (rw (member_append p set (leaves_of m)) at (rw (keep_leaves x.from set m) at t))),
      )

      go : (c : Bool) → Apart r (carry r b j best (taken ++ set) l).blocks × Free (taken ++ set) (carry r b j best (taken ++ set) l).blocks
          → Apart r (cond c (record { blocks = keep x.from set; best = span x.from (suc j) }) (onto (keep x.from set) (carry r b j best (taken ++ set) l))).blocks
          × Free taken (cond c (record { blocks = keep x.from set; best = span x.from (suc j) }) (onto (keep x.from set) (carry r b j best (taken ++ set) l))).blocks
      go true below = rw (append-nil (keep x.from set)) at (kept [] no_blocks (λ p t u. absurd t))
      go false below = kept (carry r b j best (taken ++ set) l).blocks below.0 below.1

  -- AFTER EACH STEP the sets are not empty and no leaf is in two.
  pub step_apart : (b j : ℕ) (s : State) → Apart r (step r b j s).blocks
  unfolding step
  step_apart b j s = (carry_apart b j s.best [] (s.blocks ++ opening r j s.best)).0

  full_size : (l : List Block) → Full l → length l ≤ length (leaves_of l)
  full_size [] f = omega arith
  full_size (x ∷ l) f = let c = full_size l f.1 in omega (arith, length-append x.leaves (leaves_of l))

  -- THE BOUND: the blocks have at most as many leaves as the pattern,
  pub apart_leaves : (l : List Block) → Apart r l → length (leaves_of l) ≤ count r
  apart_leaves l c = rw (length_from 0 (count r)) at (once_size c.once (from 0 (count r)) (λ p t. member_from p 0 (count r) (omega arith) (omega (arith, c.below p t))))

  -- and so there are no more blocks than that.
  pub apart_size : (l : List Block) → Apart r l → length l ≤ count r
  apart_size l c = omega (arith, full_size l c.full, apart_leaves l c)
