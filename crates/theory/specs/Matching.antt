-- Source document 000, Fig. 1: the satisfaction relation. `Matches w r i j` says that the part r matches the line w at the location [i, j].
-- Assumes nothing.
use Rattle.std.specs.Prelude.{ℕ, suc, ◌<◌, Bool, List, length, get_or, T}
use Rattle.theory.specs.Pattern.{Manner, Re, empty, leaf, seq, alt, star, field}

pub data Matches (w : List ℕ) : Re → ℕ → ℕ → Type 0 where
  m_empty : {i : ℕ} → Matches w empty i i
  m_leaf : {p : ℕ} {s : ℕ → Bool} {i : ℕ} → i < length w → T (s (get_or w i 0)) → Matches w (leaf p s) i (suc i)
  m_seq : {x y : Re} {i k j : ℕ} → Matches w x i k → Matches w y k j → Matches w (seq x y) i j
  m_left : {x y : Re} {i j : ℕ} → Matches w x i j → Matches w (alt x y) i j
  m_right : {x y : Re} {i j : ℕ} → Matches w y i j → Matches w (alt x y) i j
  m_done : {how : Manner} {x : Re} {i : ℕ} → Matches w (star how x) i i
  m_again : {how : Manner} {x : Re} {i k j : ℕ} → i < k → Matches w x i k → Matches w (star how x) k j → Matches w (star how x) i j
  m_field : {f : ℕ} {x : Re} {i j : ℕ} → Matches w x i j → Matches w (field f x) i j
