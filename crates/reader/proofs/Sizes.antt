-- Sizes: the weight and the lengths of a part, from those of its parts.
-- Assumes nothing.
use mathlib.Core.Path.{◌≡◌, ap, ◌∙◌}
use Prim.Native.Nat.{ℕ, suc, ◌+◌, ◌*◌, ◌≤◌, ◌<◌, max, min}
use native.Mathlib.Omega.{arith}
use native.Mathlib.Nat.{one-mul}
use Rattle.grammar.specs.Grammar.{Repeat, once, many, more, maybe, exactly, at_least, between, Digits, digits_value}
use Rattle.grammar.specs.Limits.{times, repeated}
use Rattle.lengths.specs.Lengths.{Extent, in_row, one_of, up_to, or_more, under_repeat}
use Rattle.lengths.specs.Code.{meaning, capped}
use Rattle.lengths.proofs.Capped.{row_counted, one_counted, up_to_counted, or_more_counted}
use Rattle.reader.specs.declared.size.Size.{Size}
use Rattle.reader.specs.Steps.{load_of, Sized, SizeOf}
use Rattle.reader.proofs.Weights.{weighs_plus, weighs_again, weighs_times, one_load}

-- An alternative with no part weighs 1.
pub one_size : {c : Size} {w h : ℕ} {y : Extent} (r : Size) → Sized r (max 1 c.weight) (meaning c.lengths) → SizeOf c w h y → SizeOf r (max 1 w) (max (max 1 w) h) y
one_size r e s = record { load = one_load r.weight e.weighs s.load; lengths = e.lasts ∙ s.lengths }

-- Two parts in a row and two alternatives, for a whole that weighs u, its heaviest part j.
module _ {a b : Size} {w v h k : ℕ} {x y : Extent} (r : Size) (u j : ℕ) (d : u ≡ w + v) (s : SizeOf a w h x) (t : SizeOf b v k y)
    (l : u ≤ 64 → h ≤ 64 → k ≤ 64 → j ≤ 64) (m : 64 < max (w + v) (max h k) → 64 < max u j) where
  pub row_size : Sized r (min 65 (a.weight + b.weight)) (capped (in_row (meaning a.lengths) (meaning b.lengths))) → SizeOf r u j (in_row x y)
  row_size e = record { load = weighs_plus r.weight u j e.weighs d s.load t.load l m; lengths = row_counted x y s.lengths t.lengths e.lasts }

  pub either_size : Sized r (min 65 (a.weight + b.weight)) (capped (one_of (meaning a.lengths) (meaning b.lengths))) → SizeOf r u j (one_of x y)
  either_size e = record { load = weighs_plus r.weight u j e.weighs d s.load t.load l m; lengths = one_counted x y s.lengths t.lengths e.lasts }

-- A repeat x makes a part of the size v one of the size c.
abbrev pub Sizes : Size → Size → Repeat → Type 0
Sizes v c x = (w h : ℕ) (y : Extent) → w ≤ h → SizeOf v w h y → SizeOf c (repeated x w) (max h (repeated x w)) (under_repeat x y)

pub once_sizes : (v : Size) → Sizes v v once
once_sizes v w h y k s = record { load = weighs_again k s.load; lengths = s.lengths }

module _ {v c : Size} where
  up_to_size : (m n : ℕ) → Sized c (load_of n v.weight) (capped (up_to m n (meaning v.lengths))) → (w h : ℕ) (y : Extent) → w ≤ h → SizeOf v w h y
      → SizeOf c (times n w) (max h (times n w)) (up_to m n y)
  up_to_size m n e w h y k s = record { load = weighs_times n c.weight e.weighs k s.load; lengths = up_to_counted y s.lengths m n e.lasts }

  or_more_size : (m : ℕ) → Sized c (load_of (m + 1) v.weight) (capped (or_more m (meaning v.lengths))) → (w h : ℕ) (y : Extent) → w ≤ h → SizeOf v w h y
      → SizeOf c (suc m * w) (max h (suc m * w)) (or_more m y)
  or_more_size m e w h y k s =
      let n : m + 1 ≡ suc m = omega arith in
      record { load = weighs_times (suc m) c.weight (e.weighs ∙ ap (λ n. load_of n v.weight) n) k s.load; lengths = or_more_counted y s.lengths m e.lasts }

  pub many_sizes : Sized c (load_of 1 v.weight) (capped (or_more 0 (meaning v.lengths))) → Sizes v c many
  many_sizes e w h y k s = rw (one-mul w) at (or_more_size 0 e w h y k s)

  pub more_sizes : Sized c (load_of 2 v.weight) (capped (or_more 1 (meaning v.lengths))) → Sizes v c more
  more_sizes e w h y k s = or_more_size 1 e w h y k s

  pub maybe_sizes : Sized c (load_of 1 v.weight) (capped (up_to 0 1 (meaning v.lengths))) → Sizes v c maybe
  maybe_sizes e w h y k s = rw (one-mul w) at (up_to_size 0 1 e w h y k s)

  pub exactly_sizes : (d : Digits) (t : ℕ) → digits_value d ≡ t → Sized c (load_of t v.weight) (capped (up_to t t (meaning v.lengths))) → Sizes v c (exactly d)
  exactly_sizes d t g e w h y k s = rw g (up_to_size t t e w h y k s)

  pub at_least_sizes : (d : Digits) (t : ℕ) → digits_value d ≡ t → Sized c (load_of (t + 1) v.weight) (capped (or_more t (meaning v.lengths))) → Sizes v c (at_least d)
  at_least_sizes d t g e w h y k s = rw g (or_more_size t e w h y k s)

  pub between_sizes : (d d' : Digits) (t u : ℕ) → digits_value d ≡ t → digits_value d' ≡ u → Sized c (load_of u v.weight) (capped (up_to t u (meaning v.lengths))) → Sizes v c (between d d')
  between_sizes d d' t u g g' e w h y k s = rw (g, g') (up_to_size t u e w h y k s)
