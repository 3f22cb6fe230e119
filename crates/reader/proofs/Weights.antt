-- Weights as the code counts them: 65 for any above 64.
-- Assumes nothing.
use mathlib.Core.Path.{◌≡◌, refl, sym, ap, ◌∙◌}
use Prim.Native.Nat.{ℕ, zero, suc, ◌+◌, ◌*◌, ◌≤◌, ◌<◌, max, min}
use mathlib.Core.Bool.{Bool, true, false, not, cond}
use mathlib.Core.Logic.{◌≢◌}
use native.Mathlib.Omega.{arith}
use native.Mathlib.Nat.{one-le-mul, mul-le-mul}
use lib.Dec.{T, eqb, eqb→eq, leb, leb→le, nleb→lt}
use Rattle.grammar.specs.Grammar.{Repeat, once, many, more, maybe, exactly, at_least, between, lazily, digits_value, last, or, Atom, byte, dot, class, group}
use Rattle.grammar.specs.Limits.{times, repeated, weight, weight_atom, heaviest, heaviest_atom}
use Rattle.grammar.proofs.Size.{weight_heaviest}
use Rattle.reader.specs.Steps.{Weighs, light, heavy, load_of}

pub weighs_65 : {c w h : ℕ} → Weighs c w h → c ≤ 65
weighs_65 (light e f g) = omega arith
weighs_65 (heavy e f) = omega arith

-- A count up to 64 is the weight, and 65 says that it is above.
capped : (c w h : ℕ) → h ≤ 64 → c ≡ min 65 w → Weighs c w (max h w)
capped c w h k e = go (leb w 64) (leb→le w 64) (nleb→lt w 64)
  where
    go : (d : Bool) → (T d → w ≤ 64) → (T (not d) → 64 < w) → Weighs c w (max h w)
    go true f g = let x = f tt in light (omega arith) x (omega arith)
    go false f g = let x = g tt in heavy (omega arith) (omega arith)

pub weighs_plus : {a b w v h k : ℕ} (r u j : ℕ) → r ≡ min 65 (a + b) → u ≡ w + v → Weighs a w h → Weighs b v k → (u ≤ 64 → h ≤ 64 → k ≤ 64 → j ≤ 64) → (64 < max (w + v) (max h k) → 64 < max u j) → Weighs r u j
weighs_plus r u j e d (light x x₁ x₂) (light y y₁ y₂) l m = go (leb u 64) (leb→le u 64) (nleb→lt u 64)
  where
    go : (c : Bool) → (T c → u ≤ 64) → (T (not c) → 64 < u) → Weighs r u j
    go true f g = let z = f tt in light (omega arith) z (l z x₂ y₂)
    go false f g = let z = g tt in heavy (omega arith) (omega arith)
weighs_plus r u j e d (light x x₁ x₂) (heavy y y₁) l m = heavy (omega arith) (m (omega arith))
weighs_plus r u j e d (heavy x x₁) y l m = heavy (omega arith) (m (omega arith))

pub weighs_again : {c w h : ℕ} → w ≤ h → Weighs c w h → Weighs c w (max h w)
weighs_again k (light x y z) = light x y (omega arith)
weighs_again k (heavy x y) = heavy x (omega arith)

-- n copies.
pub weighs_times : {v w h : ℕ} (n r : ℕ) → r ≡ load_of n v → w ≤ h → Weighs v w h → Weighs r (times n w) (max h (times n w))
weighs_times {v} {w} {h} n r e k (light x y z) = capped r (times n w) h z (e ∙ go (eqb v 65) (eqb→eq v 65) ∙ ap (λ u. min 65 (times n u)) x)
  where
    go : (d : Bool) → (T d → v ≡ 65) → cond d 65 (min 65 (times n v)) ≡ min 65 (times n v)
    go true f = let g = f tt in absurd (omega arith)
    go false f = refl
weighs_times {v} {w} {h} n r e k (heavy x y) = heavy (e ∙ ap (load_of n) x) (omega arith)

-- An alternative with no part weighs 1.
pub one_load : {c w h : ℕ} (r : ℕ) → r ≡ max 1 c → Weighs c w h → Weighs r (max 1 w) (max (max 1 w) h)
one_load r e (light x y z) = light (omega arith) (omega arith) (omega arith)
one_load r e (heavy x y) = heavy (omega arith) (omega arith)

pub or_light : (a v h k : ℕ) → a + v ≤ 64 → max a h ≤ 64 → k ≤ 64 → max (a + v) (max h k) ≤ 64
or_light a v h k x y z = omega arith

pub or_heavy : (a v h k : ℕ) → 64 < max (a + v) (max (max a h) k) → 64 < max (a + v) (max (a + v) (max h k))
or_heavy a v h k x = omega arith

-- Weights are at least 1, and no part is heavier than its heaviest.
times_pos : (n w : ℕ) → 1 ≤ w → 1 ≤ times n w
times_pos zero w h = omega arith
times_pos (suc n) w h = one-le-mul (omega arith) h

pub repeated_pos : (x : Repeat) (w : ℕ) → 1 ≤ w → 1 ≤ repeated x w
repeated_pos once w h = h
repeated_pos many w h = h
repeated_pos more w h = omega arith
repeated_pos maybe w h = h
repeated_pos (exactly m) w h = times_pos (digits_value m) w h
repeated_pos (at_least m) w h = one-le-mul (omega arith) h
repeated_pos (between m n) w h = times_pos (digits_value n) w h
repeated_pos (lazily r) w h = repeated_pos r w h

pub atom_pos : (a : Atom) → 1 ≤ weight_atom a
unfolding weight
atom_pos (byte x) = omega arith
atom_pos dot = omega arith
atom_pos (class c x l) = omega arith
atom_pos (group (last q)) = omega arith
atom_pos (group (or q t)) = omega arith

pub atom_heaviest : (a : Atom) → weight_atom a ≤ heaviest_atom a
unfolding weight heaviest
atom_heaviest (byte x) = omega arith
atom_heaviest dot = omega arith
atom_heaviest (class c x l) = omega arith
atom_heaviest (group t) = weight_heaviest t

-- The load is 0 exactly for the empty sequence.
pub load_none : {c h : ℕ} → Weighs c 0 h → h ≤ 0 → c ≡ 0
load_none (light x y z) k = x
load_none (heavy x y) k = absurd (omega arith)

pub load_some : {c w h : ℕ} → Weighs c w h → 1 ≤ w → c ≡ 0 → ⊥
load_some (light x y z) k e = omega arith
load_some (heavy x y) k e = omega arith

-- `load_of` case by case, as the code finds it.
pub load_65 : (n v : ℕ) → v ≡ 65 → 65 ≡ load_of n v
load_65 n v e = rw e refl

load_other : (n v : ℕ) → v ≢ 65 → load_of n v ≡ min 65 (times n v)
load_other n v e = go (eqb v 65) (eqb→eq v 65)
  where
    go : (d : Bool) → (T d → v ≡ 65) → cond d 65 (min 65 (times n v)) ≡ min 65 (times n v)
    go true f = absurd (e (f tt))
    go false f = refl

pub load_zero : (n v : ℕ) → v ≢ 65 → n ≡ 0 → 1 ≡ load_of n v
load_zero n v e h = rw h (sym (load_other 0 v e))

times_some : (n w : ℕ) → n ≢ 0 → times n w ≡ n * w
times_some zero w h = absurd (h refl)
times_some (suc n) w h = refl

pub load_least : (n v : ℕ) → v ≢ 65 → n ≢ 0 → min (n * v) 65 ≡ load_of n v
load_least n v e h = sym (load_other n v e ∙ ap (min 65) (times_some n v h) ∙ omega arith)

pub load_small : (n v : ℕ) → n ≤ 64 → v ≤ 65 → n * v ≤ 4160
load_small n v h k = mul-le-mul h k
