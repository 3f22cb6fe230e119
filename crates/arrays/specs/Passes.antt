-- The three passes that make the arrays from codes: what each leaves in its array, and what one turn of it does.
-- Assumes nothing.
use Rattle.std.specs.Prelude.{◌≡◌, ℕ, zero, suc, ◌+◌, ◌-◌, ◌≤◌, ◌<◌, min, Bool, true, ◌&&◌, ◌||◌, cond, List, [], ◌∷◌, length, get_or, set, take, drop, eqb, ltb, leb}
use Rattle.grammar.specs.Code.Codes.{empty_kind, star_kind, first_leaf, leaf_holds}
use Rattle.words.specs.Sets.{has_bit}

-- Kinds. A code below the leaves' is a kind; any other is the leaf p, if p is below 64.
abbrev pub kind_of : ℕ → ℕ → ℕ
kind_of p c = cond (ltb c first_leaf) c (cond (ltb p 64) (first_leaf + p) empty_kind)

-- How many leaves there are after the code c, if p stand before it. At most 64 are counted.
abbrev pub leaves_with : ℕ → ℕ → ℕ
leaves_with p c = cond (ltb c first_leaf) p (cond (ltb p 64) (p + 1) p)

-- The places of the leaves' texts, with that of the code c if it is a leaf.
abbrev pub places_with : ℕ → ℕ → List ℕ → List ℕ
places_with p c places = cond (ltb c first_leaf) places (cond (ltb p 64) (set places p (c - first_leaf)) places)

-- One code c at the place i, with p leaves before it.
pub record Noted (c i p : ℕ) (kinds places kinds' places' : List ℕ) (p' : ℕ) : Type 0 where
  pub kind : kinds' ≡ set kinds i (kind_of p c)
  pub place : places' ≡ places_with p c places
  pub leaves : p' ≡ leaves_with p c

-- The kinds of the codes, their leaves numbered from p on,
unfoldable pub kinds_from : ℕ → List ℕ → List ℕ
kinds_from p [] = []
kinds_from p (c ∷ l) = kind_of p c ∷ kinds_from (leaves_with p c) l

-- and the places of the leaves' texts.
unfoldable pub places_of : List ℕ → List ℕ
places_of [] = []
places_of (c ∷ l) = cond (ltb c first_leaf) (places_of l) ((c - first_leaf) ∷ places_of l)

-- All codes l: their kinds, and the places of the first 64 leaves.
pub record Numbered (l kinds places : List ℕ) (leaves : ℕ) : Type 0 where
  pub are : kinds ≡ kinds_from 0 l
  pub at : take leaves places ≡ take 64 (places_of l)
  pub counted : leaves ≡ min 64 (length (places_of l))

-- Sizes. The size of the left one of two parts, where the right one ends at the place m.
abbrev pub left_size : List ℕ → ℕ → ℕ
left_size sizes m = cond (leb (get_or sizes m 0) m) (get_or sizes (m - get_or sizes m 0) 0) 0

-- The size of a part of that kind, from the size of its last part and of the one before.
abbrev pub size_of : ℕ → ℕ → ℕ → ℕ
size_of kind a b = cond (eqb kind empty_kind) 1 (cond (leb first_leaf kind) 1 (cond (leb star_kind kind) (a + 1) (a + b + 1)))

-- The size of a part of that kind that ends at the place.
abbrev pub size_at : ℕ → List ℕ → ℕ → ℕ
size_at kind sizes zero = 1
size_at kind sizes (suc m) = size_of kind (get_or sizes m 0) (left_size sizes m)

-- A part that ends at a place below i has at most the places up to there.
abbrev pub Small : List ℕ → ℕ → Type 0
Small sizes i = (j : ℕ) → j < i → get_or sizes j 0 ≤ j + 1

-- The sizes of the first n places.
abbrev pub Sized : List ℕ → ℕ → List ℕ → Type 0
Sized kinds n sizes = (i : ℕ) → i < n → get_or sizes i 0 ≡ size_at (get_or kinds i 0) sizes i

-- Masks. r is the leaves below n whose text begins at the place q,
abbrev pub Places : List ℕ → ℕ → ℕ → ℕ → Type 0
Places places n q r = (p : ℕ) → has_bit r p ≡ (ltb p n && eqb (get_or places p 0) q)

-- and r is x, with the leaves m if the set at the place q, by the table that is loaded, holds the byte b.
abbrev pub Marked : List ℕ → List ℕ → ℕ → ℕ → ℕ → ℕ → ℕ → Type 0
Marked loaded s q m b x r = (p : ℕ) → has_bit r p ≡ (has_bit x p || (leaf_holds loaded (drop q s) b && has_bit m p))

-- The masks of the bytes below b are marked so, and the others are those of before.
pub record MarkedTo (loaded s : List ℕ) (q m b : ℕ) (before masks : List ℕ) : Type 0 where
  pub long : length masks ≡ 256
  pub marked : (k : ℕ) → k < b → Marked loaded s q m k (get_or before k 0) (get_or masks k 0)
  pub kept : (k : ℕ) → b ≤ k → get_or masks k 0 ≡ get_or before k 0

-- The masks of the leaves that are done.
abbrev pub Masked : List ℕ → List ℕ → List ℕ → (ℕ → Bool) → List ℕ → Type 0
Masked loaded s places done masks = (b p : ℕ) → b < 256 → has_bit (get_or masks b 0) p ≡ (done p && leaf_holds loaded (drop (get_or places p 0) s) b)

-- A turn at the leaf p of n: more leaves are done, and p among them.
pub record Turn (loaded s places : List ℕ) (n done p : ℕ) (masks masks' : List ℕ) (done' : ℕ) : Type 0 where
  pub long : length masks' ≡ 256
  pub kept : Masked loaded s places (has_bit done) masks → Masked loaded s places (has_bit done') masks'
  pub more : (k : ℕ) → has_bit done k ≡ true → has_bit done' k ≡ true
  pub here : has_bit done' p ≡ true
  pub only : ((k : ℕ) → has_bit done k ≡ true → k < n) → (k : ℕ) → has_bit done' k ≡ true → k < n
