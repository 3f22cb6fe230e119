-- "The limits belong to the pattern: 255 bytes, depth 16, weight 64", and the patterns that are accepted.
-- Assumes nothing.
use Rattle.std.specs.Prelude.{ℕ, zero, suc, ◌+◌, ◌*◌, ◌≤◌, max, List, [], length, ◌≡◌}
use Rattle.grammar.specs.Grammar.{Repeat, once, many, more, maybe, exactly, at_least, between, lazily, digits_value, Alternation, last, or, Sequence, nothing, part, Atom, byte, dot, class, group, alternation, WfAlternation}

-- The limits: bytes, brackets open together, weight.
abbrev pub max_bytes : ℕ
max_bytes = 255

abbrev pub max_depth : ℕ
max_depth = 16

abbrev pub max_weight : ℕ
max_weight = 64

-- "Depth counts brackets open together."
abbrev mutual
  pub depth : Alternation → ℕ
  depth (last q) = depth_sequence q
  depth (or q t) = max (depth_sequence q) (depth t)

  pub depth_sequence : Sequence → ℕ
  depth_sequence nothing = 0
  depth_sequence (part a r q) = max (depth_atom a) (depth_sequence q)

  pub depth_atom : Atom → ℕ
  depth_atom (byte x) = 0
  depth_atom dot = 0
  depth_atom (class c x l) = 0
  depth_atom (group t) = suc (depth t)

-- The weight of n copies. "`{0}` and `{0,0}` weigh 1."
abbrev pub times : ℕ → ℕ → ℕ
times zero w = 1
times (suc n) w = suc n * w

-- "`*` and `?` keep the weight, `+` doubles it, `{m}` multiplies by m, `{m,}` by m+1, `{m,n}` by n."
abbrev pub repeated : Repeat → ℕ → ℕ
repeated once w = w
repeated many w = w
repeated more w = 2 * w
repeated maybe w = w
repeated (exactly m) w = times (digits_value m) w
repeated (at_least m) w = suc (digits_value m) * w
repeated (between m n) w = times (digits_value n) w
repeated (lazily r) w = repeated r w

-- "A leaf weighs 1, an empty sequence 1; sequences and alternations add up." A part weighs at least 1, so the largest of 1 and the sum is the sum unless there is no part.
unfoldable mutual
  pub weight : Alternation → ℕ
  weight (last q) = max 1 (weights q)
  weight (or q t) = max 1 (weights q) + weight t

  pub weights : Sequence → ℕ
  weights nothing = 0
  weights (part a r q) = repeated r (weight_atom a) + weights q

  pub weight_atom : Atom → ℕ
  weight_atom (byte x) = 1
  weight_atom dot = 1
  weight_atom (class c x l) = 1
  weight_atom (group t) = weight t

-- "No part may weigh above 64, not even under `{0}`": the weight of the heaviest part, the whole included. A sequence and an atom with its repeat weigh no
-- more than the alternation that holds them, so the alternations and the atoms are enough.
unfoldable mutual
  pub heaviest : Alternation → ℕ
  heaviest (last q) = max (weight (last q)) (heaviest_within q)
  heaviest (or q t) = max (weight (or q t)) (max (heaviest_within q) (heaviest t))

  pub heaviest_within : Sequence → ℕ
  heaviest_within nothing = 0
  heaviest_within (part a r q) = max (heaviest_atom a) (heaviest_within q)

  pub heaviest_atom : Atom → ℕ
  heaviest_atom (byte x) = 1
  heaviest_atom dot = 1
  heaviest_atom (class c x l) = 1
  heaviest_atom (group t) = heaviest t

-- The pattern p is in the grammar with the tree t, and within the limits.
pub record Reads (p : List ℕ) (t : Alternation) : Type 0 where
  pub text : alternation t [] ≡ p
  pub formed : WfAlternation t
  pub short : length p ≤ max_bytes
  pub shallow : depth t ≤ max_depth
  pub light : heaviest t ≤ max_weight
