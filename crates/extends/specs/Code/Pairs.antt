-- The test by pairs of leaves. A leaf stands for "this leaf has just taken a byte".
-- Assumes nothing.
use Rattle.std.specs.Prelude.{◌⊎◌, ℕ, ◌<◌, T}
use Rattle.theory.specs.Pattern.{Re, has}
use Rattle.theory.specs.Standing.{wanted, member}
use Rattle.theory.specs.Code.Follow.{start, follow, has_end}

module _ (r : Re) where
  -- The leaf p is a first leaf; q may come right after p; the string may end right after p.
  abbrev pub First : ℕ → Type 0
  First p = T (member p (wanted (start r)))

  abbrev pub Follows : ℕ → ℕ → Type 0
  Follows p q = T (member q (wanted (follow r p)))

  abbrev pub Ends : ℕ → Type 0
  Ends p = T (has_end (follow r p))

  -- The set of the leaf p is not empty; those of p and q share a byte.
  abbrev pub Takes : ℕ → Type 0
  Takes p = (b : ℕ) × (b < 256) × T (has r p b)

  abbrev pub Share : ℕ → ℕ → Type 0
  Share p q = (b : ℕ) × (b < 256) × T (has r p b) × T (has r q b)

  -- From a live leaf on the string can be completed: its set is not empty ("a leaf whose set is empty matches nothing"), and an end, or a live leaf, follows it.
  pub data Live : ℕ → Type 0 where
    last : {p : ℕ} → Takes p → Ends p → Live p
    onward : {p q : ℕ} → Takes p → Follows p q → Live q → Live p

  -- "Pairs of states": leaves that one string leads to (`reached_string`).
  pub data Reached : ℕ → ℕ → Type 0 where
    begin : {p q : ℕ} → First p → First q → Share p q → Reached p q
    onward : {p q c d : ℕ} → Reached p q → Follows p c → Follows q d → Share c d → Reached c d

  -- The test fails: the empty string is matched and some live leaf is first,
  abbrev pub FailsEmpty : Type 0
  FailsEmpty = T (has_end (start r)) × ((p : ℕ) × First p × Live p)

  -- or at a reached pair the string may end after one leaf, and go on to a live leaf after the other.
  abbrev pub FailsPair : Type 0
  FailsPair = (p q : ℕ) × Reached p q × Ends p × ((c : ℕ) × Follows q c × Live c)

  abbrev pub Fails : Type 0
  Fails = FailsEmpty ⊎ FailsPair
