-- The bytes of the chunks of a line.
-- Assumes nothing.
use Rattle.std.proofs.Common.{◌≡◌, ℕ, zero, suc, ◌+◌, ◌*◌, ◌-◌, ◌<◌, List, get_or, drop, arith, rules, subst, ap, ◌∙◌}
use Rattle.std.proofs.lemmas.List.{get_or-take, get_or-drop}
use Rattle.std.specs.Simd.{first_chunks}
use native.Mathlib.Decide.{dec_lt}

-- Byte j of chunk i is byte n * i + j of the line.
pub chunk_byte : (n m : ℕ) (w : List ℕ) (i j : ℕ) (d : List ℕ) → i < m → j < n → get_or (get_or (first_chunks n m w) i d) j 0 ≡ get_or w (n * i + j) 0
chunk_byte n zero w i j d h k = absurd (omega arith)
chunk_byte n (suc m) w zero j d h k = rw (get_or-take n w j 0 k) (search rules)
chunk_byte n (suc m) w (suc i) j d h k = rw (chunk_byte n m (drop n w) i j d (omega arith) k, get_or-drop n w (n * i + j) 0) (search rules)

-- What holds of the bytes of i chunks, and of those of the next, holds of all of them.
pub chunk_more : (P : ℕ → Type 0) (n m i : ℕ) (w c : List ℕ) (chunks : List (List ℕ)) → chunks ≡ first_chunks n m w → c ≡ get_or chunks i c → i < m → ((k : ℕ) → k < n * i → P (get_or w k 0)) → ((j : ℕ) → j < n → P (get_or c j 0)) → (k : ℕ) → k < n * (i + 1) → P (get_or w k 0)
chunk_more P n m i w c chunks f e h before here k l = elim (dec_lt k (n * i)) [ yes b ↦ before k b | no b ↦ last (k - n * i) (omega arith) (omega arith) ]
  where
    last : (j : ℕ) → n * i + j ≡ k → j < n → P (get_or w k 0)
    last j q s = subst P (ap (λ l. get_or l j 0) (e ∙ ap (λ l. get_or l i c) f) ∙ chunk_byte n m w i j c h s ∙ ap (λ k. get_or w k 0) q) (here j s)
