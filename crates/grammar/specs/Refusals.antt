-- "Refusals, by who can cause them": those of whoever writes the pattern, 1 to 8, each "with a number and a place (byte offset)".
-- "The lowest place is reported" needs no clause: what stands before a fault is the beginning of a pattern without one, so a pattern has one fault (`one_fault`).
-- Assumes nothing.
use Rattle.std.specs.Prelude.{◌≡◌, ℕ, ◌≤◌, ◌<◌, Bool, true, false, List, [], ◌∷◌, length}
use Rattle.grammar.specs.Grammar.{Item, Repeat, maybe, unmarked, Alternation, ordinary, stray, sign, kind, class_text, repeat_text, WfItem, WfItems, WfRepeat, alternation, WfAlternation}
use Rattle.grammar.specs.Limits.{max_bytes, max_depth, max_weight, depth, heaviest, Reads}
use Rattle.grammar.specs.Before.{Before, text, opens, ready, softens, WfBefore}

-- A class begins here.
abbrev pub ClassAt : List ℕ → Type 0
ClassAt s = (c : Bool) × (x : Item) × (l : List Item) × (r : List ℕ) × WfItem x × WfItems l × (class_text c x l r ≡ s)

-- A "valid count" begins here.
abbrev pub CountAt : List ℕ → Type 0
CountAt s = (x : Repeat) × (r : List ℕ) × WfRepeat x × (unmarked x ≡ true) × (repeat_text x r ≡ s)

-- After the beginning o, the bytes s have the fault of that number "at that byte", their first. "At one place 2 comes before 5": a `{` is 5 only where one may stand.
pub data Wrong (o : Before) : List ℕ → ℕ → Type 0 where
  unopened : (s : List ℕ) → opens o ≡ 0 → Wrong o (41 ∷ s) 2  -- `)` without `(`
  bare : (b : ℕ) (s : List ℕ) → kind b ≡ stray → Wrong o (b ∷ s) 2  -- a bare `]`, `}`, `^` or `$`
  unready_sign : (b : ℕ) (x : Repeat) (s : List ℕ) → kind b ≡ sign x → ready o ≡ false → (x ≡ maybe → softens o ≡ false) → Wrong o (b ∷ s) 2  -- a repeat sign, but for the `?` of a lazy repeat ..
  unready_count : (s : List ℕ) → ready o ≡ false → Wrong o (123 ∷ s) 2  -- .. or `{` at the start of a sequence or after a repeat
  escape_last : Wrong o (92 ∷ []) 3  -- `\` last
  escape_ordinary : (b : ℕ) (s : List ℕ) → kind b ≡ ordinary → Wrong o (92 ∷ b ∷ s) 3  -- .. or before a byte that is not special
  no_class : (s : List ℕ) → (ClassAt (91 ∷ s) → ⊥) → Wrong o (91 ∷ s) 4  -- any fault in a class
  no_count : (s : List ℕ) → ready o ≡ true → (CountAt (123 ∷ s) → ⊥) → Wrong o (123 ∷ s) 5  -- a `{` not starting a valid count
  too_deep : (s : List ℕ) → opens o ≡ max_depth → Wrong o (40 ∷ s) 7  -- a `(` that would make depth 17
  left_open : 0 < opens o → Wrong o [] 6  -- `(` left open

-- The pattern p is refused with the number n at the place q. "6 before 8": weight is looked at where no bracket is left open.
pub data Fault (p : List ℕ) (n q : ℕ) : Type 0 where
  -- "1: above 255 bytes; place 255; nothing else is looked at."
  too_long : max_bytes < length p → n ≡ 1 → q ≡ max_bytes → Fault p n q
  -- "2" to "7"
  wrong : length p ≤ max_bytes → (o : Before) (s : List ℕ) → WfBefore o → text o s ≡ p → Wrong o s n → q ≡ length (text o []) → Fault p n q
  -- "8: weight above 64. Place: the pattern's length."
  too_heavy : length p ≤ max_bytes → (t : Alternation) → WfAlternation t → depth t ≤ max_depth → alternation t [] ≡ p → max_weight < heaviest t → n ≡ 8 → q ≡ length p → Fault p n q

-- The reader's answer: accepted with the pattern's tree, or refused with number and place.
pub data Answer : Type 0 where
  accepted : Alternation → Answer
  refused : ℕ → ℕ → Answer

-- The answer that is right for the pattern p.
abbrev pub Right : List ℕ → Answer → Type 0
Right p (accepted t) = Reads p t
Right p (refused n q) = Fault p n q
