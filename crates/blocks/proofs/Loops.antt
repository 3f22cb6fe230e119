-- For code: the step block by block, a block's set as a test of the leaf numbers, and blocks in arrays that are written over from the front.
-- Assumes nothing.
use mathlib.Core.Path.{◌≡◌, refl, sym, ap, ap₂, ◌∙◌}
use mathlib.Core.Logic.{◌⊎◌, inl, inr, ◌≢◌}
use Prim.Native.Nat.{ℕ, zero, suc, ◌+◌, ◌≤◌, ◌<◌}
use mathlib.Core.Bool.{Bool, true, false, not, ◌&&◌, cond}
use mathlib.Core.List.{List, [], ◌∷◌, ◌++◌, append_assoc}
use native.Mathlib.Omega.{arith}
use lib.ListN.{length, get_or, set}
use lib.Seq.{get_or-set_same, get_or-set_other}
use Rattle.theory.specs.Pattern.{Re, count}
use Rattle.theory.specs.Spans.{Span, span}
use Rattle.theory.specs.Standing.{wanted, member, from, filter}
use Rattle.theory.specs.Code.Follow.{has_end}
use Rattle.theory.specs.Code.Next.{afters}
use Rattle.theory.proofs.Tests.{either}
use Rattle.blocks.specs.Blocks.{Block, State, carried, keep, onto, carry}
use Rattle.blocks.specs.Arrays.{blocks_at}

filter_filter : (f g : ℕ → Bool) (l : List ℕ) → filter g (filter f l) ≡ filter (λ p. f p && g p) l
filter_filter f g [] = refl
filter_filter f g (p ∷ l) = go (f p) (filter_filter f g l)
  where
    go : (c : Bool) → filter g (filter f l) ≡ filter (λ q. f q && g q) l → filter g (cond c (p ∷ filter f l) (filter f l)) ≡ cond (c && g p) (p ∷ filter (λ q. f q && g q) l) (filter (λ q. f q && g q) l)
    go true e = ap (λ m. cond (g p) (p ∷ m) m) e
    go false e = e

module _ (r : Re) (b : ℕ) where
  -- The carried set, leaf by leaf.
  pub carried_set : (taken l : List ℕ) → carried r b taken l ≡ filter (λ p. member p (wanted (afters r b l)) && not (member p taken)) (from 0 (count r))
  carried_set taken l = filter_filter (λ p. member p (wanted (afters r b l))) (λ p. not (member p taken)) (from 0 (count r))

  -- A loop over the blocks, with those that it has carried on so far.
  module _ (j : ℕ) (best : Span) (done : List Block) (taken : List ℕ) (x : Block) (l : List Block) where
    pub carry_end : has_end (afters r b x.leaves) ≡ true
        → onto done (carry r b j best taken (x ∷ l)) ≡ record { blocks = done ++ keep x.from (carried r b taken x.leaves); best = span x.from (suc j) }
    unfolding carry
    carry_end e = rw e

    pub carry_on : has_end (afters r b x.leaves) ≡ false
        → onto done (carry r b j best taken (x ∷ l)) ≡ onto (done ++ keep x.from (carried r b taken x.leaves)) (carry r b j best (taken ++ carried r b taken x.leaves) l)
    unfolding carry
    carry_on e = rw e (ap (λ m. record { blocks = m; best = on.best }) (sym (append_assoc done (keep x.from (carried r b taken x.leaves)) on.blocks)))
      where
        on : State
        on = carry r b j best (taken ++ carried r b taken x.leaves) l

pub keep_some : (i : ℕ) (l : List ℕ) → 0 < length l → keep i l ≡ record { from = i; leaves = l } ∷ []
keep_some i [] h = absurd (omega arith)
keep_some i (p ∷ l) h = refl

abbrev block : (ℕ → List ℕ) → ℕ → ℕ → Block
block leaves i x = record { from = i; leaves = leaves x }

-- One more block.
pub blocks_snoc : (leaves : ℕ → List ℕ) (starts sets : List ℕ) (q d k : ℕ) → k ≡ q + d → blocks_at leaves starts sets q (suc d) ≡ blocks_at leaves starts sets q d ++ (block leaves (get_or starts k 0) (get_or sets k 0) ∷ [])
blocks_snoc leaves starts sets q zero k e = let f : q ≡ k = omega arith in ap (λ n. block leaves (get_or starts n 0) (get_or sets n 0) ∷ []) f
blocks_snoc leaves starts sets q (suc d) k e = ap (λ l. block leaves (get_or starts q 0) (get_or sets q 0) ∷ l) (blocks_snoc leaves starts sets (suc q) d k (omega arith))

module _ (leaves : ℕ → List ℕ) (starts sets : List ℕ) (k i x : ℕ) where
  -- A store outside of a part keeps it,
  pub store_keeps : (q d : ℕ) → (k < q) ⊎ (q + d ≤ k) → blocks_at leaves (set starts k i) (set sets k x) q d ≡ blocks_at leaves starts sets q d
  store_keeps q zero h = refl
  store_keeps q (suc d) h =
      let n : q ≢ k = either (λ l. omega arith) (λ l. omega arith) h in
      ap₂ (λ (y : Block) (m : List Block). y ∷ m)
      (ap₂ (block leaves) (get_or-set_other starts k q i 0 n) (get_or-set_other sets k q x 0 n))
      (store_keeps (suc q) d (either (λ l. inl (omega arith)) (λ l. inr (omega arith)) h))

  -- and a store behind it adds a block.
  pub store_adds : k < length starts → k < length sets → blocks_at leaves (set starts k i) (set sets k x) 0 (suc k) ≡ blocks_at leaves starts sets 0 k ++ (block leaves i x ∷ [])
  store_adds g h =
      blocks_snoc leaves (set starts k i) (set sets k x) 0 k k (omega arith)
      ∙ ap₂ (λ (l : List Block) (y : Block). l ++ (y ∷ []))
      (store_keeps 0 k (inr (omega arith)))
      (ap₂ (block leaves) (get_or-set_same starts k i 0 g) (get_or-set_same sets k x 0 h))
