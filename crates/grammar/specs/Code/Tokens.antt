-- A written-out pattern as a list of tokens, each part after the parts that it has.
-- Assumes nothing.
use Rattle.std.specs.Prelude.{ℕ, zero, suc, ◌+◌, Bool, List, [], ◌∷◌, ◌++◌}
use Rattle.theory.specs.Pattern.{Manner, Re, empty, leaf, seq, alt, star}
use Rattle.theory.specs.Pattern

-- How many parts a pattern has, itself included: as many as tokens.
unfoldable pub nodes : Re → ℕ
nodes empty = 1
nodes (leaf p s) = 1
nodes (seq x y) = suc (nodes x + nodes y)
nodes (alt x y) = suc (nodes x + nodes y)
nodes (star how x) = suc (nodes x)
nodes (Pattern.field f x) = suc (nodes x)

-- No pattern within the limits has more parts (`nodes_within`).
abbrev pub max_parts : ℕ
max_parts = 2815

pub data Token : Type 0 where
  nil both or : Token
  many : Manner → Token
  byte : ℕ → (ℕ → Bool) → Token
  field : ℕ → Token

unfoldable pub tokens : Re → List Token
tokens empty = nil ∷ []
tokens (leaf p s) = byte p s ∷ []
tokens (seq x y) = tokens x ++ (tokens y ++ (both ∷ []))
tokens (alt x y) = tokens x ++ (tokens y ++ (or ∷ []))
tokens (star how x) = tokens x ++ (many how ∷ [])
tokens (Pattern.field f x) = tokens x ++ (field f ∷ [])

-- Read back with a stack.
unfoldable pub decode : List Token → List Re → List Re
decode [] k = k
decode (nil ∷ l) k = decode l (empty ∷ k)
decode (byte p s ∷ l) k = decode l (leaf p s ∷ k)
decode (both ∷ l) [] = []
decode (both ∷ l) (y ∷ []) = []
decode (both ∷ l) (y ∷ x ∷ k) = decode l (seq x y ∷ k)
decode (or ∷ l) [] = []
decode (or ∷ l) (y ∷ []) = []
decode (or ∷ l) (y ∷ x ∷ k) = decode l (alt x y ∷ k)
decode (many how ∷ l) [] = []
decode (many how ∷ l) (x ∷ k) = decode l (star how x ∷ k)
decode (field f ∷ l) [] = []
decode (field f ∷ l) (x ∷ k) = decode l (Pattern.field f x ∷ k)

-- The leaves numbered from n on, left to right: one pass over the tokens.
unfoldable pub renumber : ℕ → List Token → List Token
renumber n [] = []
renumber n (nil ∷ l) = nil ∷ renumber n l
renumber n (both ∷ l) = both ∷ renumber n l
renumber n (or ∷ l) = or ∷ renumber n l
renumber n (many how ∷ l) = many how ∷ renumber n l
renumber n (field f ∷ l) = field f ∷ renumber n l
renumber n (byte p s ∷ l) = byte n s ∷ renumber (suc n) l

-- How many leaves.
unfoldable pub leafs : List Token → ℕ
leafs [] = 0
leafs (nil ∷ l) = leafs l
leafs (both ∷ l) = leafs l
leafs (or ∷ l) = leafs l
leafs (many how ∷ l) = leafs l
leafs (field f ∷ l) = leafs l
leafs (byte p s ∷ l) = suc (leafs l)

-- n copies of a block, then z: how a repeat is written.
abbrev pub blocks : {A : Type 0} → ℕ → List A → List A → List A
blocks zero b z = z
blocks (suc n) b z = b ++ blocks n b z
