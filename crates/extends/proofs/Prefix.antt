-- A match looks only at the bytes that it takes.
-- Assumes nothing.
use mathlib.Core.Path.{◌≡◌, sym, subst}
use Prim.Native.Nat.{ℕ, ◌≤◌, ◌<◌}
use mathlib.Core.List.{List}
use native.Mathlib.Omega.{arith}
use lib.ListN.{length, take, get_or}
use lib.Seq.{length-take-le, get_or-take}
use lib.Dec.{T}
use Rattle.theory.specs.Pattern.{Re}
use Rattle.theory.specs.Matching.{Matches, m_empty, m_leaf, m_seq, m_left, m_right, m_done, m_again, m_field}

-- A match does not go back.
pub match_up : {w : List ℕ} {r : Re} {i j : ℕ} → Matches w r i j → i ≤ j
match_up m_empty = omega arith
match_up (m_leaf h t) = omega arith
match_up (m_seq a b) = let x = match_up a in let y = match_up b in omega arith
match_up (m_left a) = match_up a
match_up (m_right a) = match_up a
match_up m_done = omega arith
match_up (m_again h a b) = let y = match_up b in omega arith
match_up (m_field a) = match_up a

-- The line u has the bytes of w below n.
abbrev pub Agree : List ℕ → List ℕ → ℕ → Type 0
Agree w u n = (k : ℕ) → k < n → (k < length u) × (get_or w k 0 ≡ get_or u k 0)

pub match_agree : {w : List ℕ} (u : List ℕ) {r : Re} {i j : ℕ} (n : ℕ) → Agree w u n → j ≤ n → Matches w r i j → Matches u r i j
match_agree u n g l m_empty = m_empty
match_agree u n g l (m_leaf {s = s} {i = i} h t) = let c = g i (omega arith) in m_leaf c.0 (subst (λ b. T (s b)) c.1 t)
match_agree u n g l (m_seq a b) = let y = match_up b in m_seq (match_agree u n g (omega arith) a) (match_agree u n g l b)
match_agree u n g l (m_left a) = m_left (match_agree u n g l a)
match_agree u n g l (m_right a) = m_right (match_agree u n g l a)
match_agree u n g l m_done = m_done
match_agree u n g l (m_again h a b) = let y = match_up b in m_again h (match_agree u n g (omega arith) a) (match_agree u n g l b)
match_agree u n g l (m_field a) = m_field (match_agree u n g l a)

-- What is matched up to k is matched on its own.
pub match_take : {w : List ℕ} {r : Re} (k : ℕ) → k ≤ length w → Matches w r 0 k → Matches (take k w) r 0 (length (take k w))
match_take {w} k h m =
    let size = length-take-le k w h in
    rw size (match_agree (take k w) k (λ n l. (omega (arith, size), sym (get_or-take k w n 0 l))) (omega arith) m)
