-- The leaf numbers of (a), four to three bytes.
-- Assumes nothing.
use mathlib.Core.Path.{◌≡◌, refl, sym, ap, ◌∙◌}
use mathlib.Core.List.{List, [], ◌∷◌, ◌++◌}
use Prim.Native.Nat.{ℕ, zero, suc, ◌+◌, ◌-◌, ◌*◌, ◌/◌, ◌%◌, ◌≤◌, ◌<◌}
use native.Mathlib.Nat.{add-zero}
use native.Mathlib.Omega.{arith}
use lib.ListN.{length, get_or, set, take, drop, drop_of_length-le, length-append, length-drop, length-take, replicate}
use Rattle.std.proofs.lemmas.List.{get_or_append_left, get_or-take}
use lib.Seq.{sets, drop_at, set-get_or, get_or-drop, drop-drop, get_or-set_other}
use Rattle.theory.specs.Lines.{Below}
use Rattle.verdict.proofs.Packed.{six_bytes}
use Rattle.records.specs.Bytes.{three, threes, four, fours}

-- Putting them in: four more.
pub put_more : (v l : List ℕ) (i : ℕ) → i < 16
    → sets (sets v (13 + 3 * i) (three (get_or l (4 * i) 0) (get_or l (4 * i + 1) 0) (get_or l (4 * i + 2) 0) (get_or l (4 * i + 3) 0))) (13 + 3 * (i + 1)) (threes (16 - (i + 1)) (drop (4 * (i + 1)) l))
    ≡ sets v (13 + 3 * i) (threes (16 - i) (drop (4 * i) l))
unfolding three threes
put_more v l i h =
    let n : 16 - i ≡ suc (16 - (i + 1)) = omega arith in
    let at : 13 + 3 * (i + 1) ≡ suc (suc (suc (13 + 3 * i))) = omega arith in
    let j : 4 * (i + 1) ≡ 4 * i + 4 = omega arith in
    rw (n, at, j, get_or-drop (4 * i) l 0 0, get_or-drop (4 * i) l 1 0, get_or-drop (4 * i) l 2 0, get_or-drop (4 * i) l 3 0, add-zero, drop-drop 4 (4 * i) l)

-- Zeros from a place on.
abbrev pub Zeros : ℕ → List ℕ → Type 0
Zeros at v = (j : ℕ) → at ≤ j → get_or v j 0 ≡ 0

pub zeros_blank : (n j : ℕ) → ◌≡◌ {A = ℕ} (get_or (replicate n 0) j 0) 0
zeros_blank zero j = refl
zeros_blank (suc n) zero = refl
zeros_blank (suc n) (suc j) = zeros_blank n j

zeros_sets : (u v : List ℕ) (at : ℕ) → Zeros at v → Zeros (at + length u) (sets v at u)
zeros_sets [] v at h j k = h j (omega arith)
zeros_sets (x ∷ u) v at h j k = zeros_sets u (set v at x) (suc at) (λ i m. get_or-set_other v at i x 0 (λ e. omega arith) ∙ h i (omega arith)) j (omega arith)

pub zeros_more : (v : List ℕ) (i a b c d : ℕ) → Zeros (13 + 3 * i) v → Zeros (13 + 3 * (i + 1)) (sets v (13 + 3 * i) (three a b c d))
unfolding three
zeros_more v i a b c d h j k = zeros_sets (three a b c d) v (13 + 3 * i) h j (omega arith)

set_zero : (v : List ℕ) (i : ℕ) → get_or v i 0 ≡ 0 → set v i 0 ≡ v
set_zero v i e = ap (set v i) (sym e) ∙ set-get_or v i 0

-- No leaf number more: the bytes stay zero.
none_more : (g at : ℕ) (v : List ℕ) → Zeros at v → sets v at (threes g []) ≡ v
unfolding three threes
none_more zero at v h = refl
none_more (suc g) at v h =
    rw (set_zero v at (h at (omega arith)), set_zero v (suc at) (h (suc at) (omega arith)), set_zero v (suc (suc at)) (h (suc (suc at)) (omega arith)))
    (none_more g (suc (suc (suc at))) v λ j k. h j (omega arith))

pub put_done : (v l : List ℕ) (i : ℕ) → length l ≤ 4 * i → Zeros (13 + 3 * i) v → sets v (13 + 3 * i) (threes (16 - i) (drop (4 * i) l)) ≡ v
put_done v l i h z = rw (drop_of_length-le l {i = 4 * i} h) (none_more (16 - i) (13 + 3 * i) v z)

-- Taking them out: four more.
pub take_more : (list v : List ℕ) (i : ℕ) → i < 16
    → sets (sets list (4 * i) (four (get_or v (13 + 3 * i) 0) (get_or v (13 + 3 * i + 1) 0) (get_or v (13 + 3 * i + 2) 0))) (4 * (i + 1)) (fours (16 - (i + 1)) (drop (13 + 3 * (i + 1)) v))
    ≡ sets list (4 * i) (fours (16 - i) (drop (13 + 3 * i) v))
unfolding four fours
take_more list v i h =
    let n : 16 - i ≡ suc (16 - (i + 1)) = omega arith in
    let at : 4 * (i + 1) ≡ suc (suc (suc (suc (4 * i)))) = omega arith in
    let j : 13 + 3 * (i + 1) ≡ 13 + 3 * i + 3 = omega arith in
    rw (n, at, j, get_or-drop (13 + 3 * i) v 0 0, get_or-drop (13 + 3 * i) v 1 0, get_or-drop (13 + 3 * i) v 2 0, add-zero, drop-drop 3 (13 + 3 * i) v)

-- The three bytes x from the front of those left, which are of the 48 from place 13 on.
pub cut : (v x rest : List ℕ) (i : ℕ) → drop (3 * i) (take 48 (drop 13 v)) ≡ x ++ rest → length x ≡ 3
    → (i < 16) × ((j k : ℕ) → j < 3 → 13 + (3 * i + j) ≡ k → get_or x j 0 ≡ get_or v k 0) × (rest ≡ drop (3 * (i + 1)) (take 48 (drop 13 v)))
cut v x rest i e three =
    let room : i < 16 = omega (arith, ap length e, length-append x rest, length-drop (3 * i) (take 48 (drop 13 v)), length-take 48 (drop 13 v)) in
    let at : 3 * i + 3 ≡ 3 * (i + 1) = omega arith in (
      room,
      (λ j k h place.
          sym (get_or_append_left x rest 0 j (omega arith)) ∙ ap (λ l. get_or l j 0) (sym e) ∙ get_or-drop (3 * i) (take 48 (drop 13 v)) j 0
          ∙ get_or-take 48 (drop 13 v) (3 * i + j) 0 (omega arith) ∙ get_or-drop 13 v (3 * i + j) 0 ∙ ap (λ m. get_or v m 0) place),
      sym (drop_at x rest 3 three) ∙ ap (drop 3) (sym e) ∙ drop-drop 3 (3 * i) (take 48 (drop 13 v)) ∙ ap (λ k. drop k (take 48 (drop 13 v))) at,
    )

-- The bytes put in are those of the record.
pub threes_right : (g : ℕ) (l : List ℕ) → threes g l ≡ six_bytes g l
unfolding three threes
threes_right zero l = refl
threes_right (suc g) l = rw (threes_right g (drop 4 l))

-- The numbers taken out are those put in.
first : (p q : ℕ) → p < 64 → (p % 64 * 4 + q / 16 % 4) / 4 ≡ p
first p q h = omega arith

second : (p q u : ℕ) → q < 64 → (p % 64 * 4 + q / 16 % 4) % 4 * 16 + (q % 16 * 16 + u / 4 % 16) / 16 ≡ q
second p q u h = omega arith

third : (q u v : ℕ) → u < 64 → (q % 16 * 16 + u / 4 % 16) % 16 * 4 + (u % 4 * 64 + v % 64) / 64 ≡ u
third q u v h = omega arith

fourth : (u v : ℕ) → v < 64 → (u % 4 * 64 + v % 64) % 64 ≡ v
fourth u v h = omega arith

pub fours_right : (g : ℕ) (l y : List ℕ) → Below 64 l → length l ≤ 4 * g → take (length l) (fours g (six_bytes g l ++ y)) ≡ l
unfolding four fours
fours_right g [] y b h = refl
fours_right zero (p ∷ l) y b h = absurd (omega arith)
fours_right (suc g) (p ∷ []) y b h = rw (first p 0 b.0)
fours_right (suc g) (p ∷ q ∷ []) y b h = rw (first p q b.0, second p q 0 b.1.0)
fours_right (suc g) (p ∷ q ∷ u ∷ []) y b h = rw (first p q b.0, second p q u b.1.0, third q u 0 b.1.1.0)
fours_right (suc g) (p ∷ q ∷ u ∷ v ∷ l) y b h =
    rw (first p q b.0, second p q u b.1.0, third q u v b.1.1.0, fourth u v b.1.1.1.0, fours_right g l y b.1.1.1.1 (omega arith))
