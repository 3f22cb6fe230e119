-- No answer is longer than its parts.
-- Assumes nothing.
use Rattle.std.proofs.Common.{◌≡◌, ℕ, ◌+◌, ◌*◌, ◌≤◌, List, [], ◌∷◌, ◌++◌, length, arith, length-append}
use Rattle.printing.specs.Text.{hex}
use Rattle.printing.proofs.Laws.{hex_size}

-- The table and the witness buffer in hex, the area's two lines, and a word.
pub report_size : (t w a k : List ℕ) (n : ℕ) → length a ≤ 6 + 2 * n → length k ≤ 8
    → length ((hex t ++ (10 ∷ [])) ++ ((hex w ++ (10 ∷ [])) ++ (a ++ k))) ≤ 16 + 2 * length t + 2 * length w + 2 * n
report_size t w a k n s u =
    omega (
      arith,
      length-append (hex t ++ (10 ∷ [])) ((hex w ++ (10 ∷ [])) ++ (a ++ k)),
      length-append (hex w ++ (10 ∷ [])) (a ++ k),
      length-append (hex t) (10 ∷ []),
      length-append (hex w) (10 ∷ []),
      length-append a k,
      hex_size t,
      hex_size w,
    )

-- An area's lines: two bytes, and the others.
pub area_size : (two x : List ℕ) (n : ℕ) → length two ≡ 2 → length x ≤ n → length ((hex two ++ (10 ∷ [])) ++ (hex x ++ (10 ∷ []))) ≤ 6 + 2 * n
area_size two x n e l =
    omega (arith, length-append (hex two ++ (10 ∷ [])) (hex x ++ (10 ∷ [])), length-append (hex two) (10 ∷ []), length-append (hex x) (10 ∷ []), hex_size two, hex_size x)

-- The verdict, and what the arrays hold: no more than this many bytes of each.
pub answer_size : (v r w : List ℕ) {t p a : ℕ} → length v ≤ 50 + 2 * length w → length w ≡ 1024 → length r ≤ 16 + 2 * t + 2 * p + 2 * a → t ≤ 8192 → p ≤ 1024 → a ≤ 2048 → length (v ++ r) ≤ 24642
answer_size v r w p q s t u x = omega (arith, length-append v r)
