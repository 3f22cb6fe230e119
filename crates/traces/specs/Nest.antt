-- Brackets nest: the trace of a way, turn by turn, what a field along it is, and a field that stands inside another.
-- Assumes nothing.
use Rattle.std.specs.Prelude.{◌≡◌, ◌⊎◌, ◌≢◌, ℕ, ◌≤◌, [], ◌∷◌, ◌++◌}
use Rattle.std.proofs.Math.Option.{none}
use Rattle.theory.specs.Pattern.{Re, empty, leaf, seq, alt, star, field}
use Rattle.traces.specs.Traces.{opened, closed, Trace}
use Rattle.traces.specs.Fields.{Field, absent, between, last_opened, last_closed}

-- A trace that "never enters" the field f.
abbrev pub Lacks : ℕ → Trace → Type 0
Lacks f t = (last_opened f t ≡ none) × (last_closed f t ≡ none)

-- The trace of a way from i to k: no mark; a turn of a field, opened at i and closed at k, with no other turn of it inside; or one way and then another.
pub data Nested : ℕ → ℕ → Trace → Type 0 where
  still : {i k : ℕ} → i ≤ k → Nested i k []
  turn : {f i k : ℕ} {t : Trace} → Lacks f t → Nested i k t → Nested i k (closed f k ∷ (t ++ (opened f i ∷ [])))
  both : {i j k : ℕ} {s t : Trace} → Nested i j s → Nested j k t → Nested i k (t ++ s)

-- A "turn" of the field f along a trace, from a to b: the closing, the trace inside, the opening.
pub record TurnIn (f : ℕ) (t : Trace) (a b : ℕ) : Type 0 where
  pub later : Trace
  pub inside : Trace
  pub earlier : Trace
  pub parts : t ≡ later ++ (closed f b ∷ (inside ++ (opened f a ∷ earlier)))
  pub none_inside : Lacks f inside
  pub nests : Nested a b inside

-- The "last turn".
pub record LastTurn (f : ℕ) (t : Trace) (a b : ℕ) : Type 0 where
  pub one : TurnIn f t a b
  pub none_later : Lacks f one.later

-- What the field f of a way from i to k with the trace t is: "start and end in its last turn", "or absent if the way never enters it".
pub data Told (f : ℕ) (t : Trace) (i k : ℕ) : Field → Type 0 where
  never : Lacks f t → Told f t i k absent
  last : {a b : ℕ} → LastTurn f t a b → i ≤ a → a ≤ b → b ≤ k → Told f t i k (between a b)

-- Each bracket of the field g stands inside one of the field f: of `((a)b)*` that of field 2 inside that of field 1.
unfoldable pub Under : ℕ → ℕ → Re → Type 0
Under f g empty = Unit {0}
Under f g (leaf p s) = Unit {0}
Under f g (seq x y) = Under f g x × Under f g y
Under f g (alt x y) = Under f g x × Under f g y
Under f g (star how x) = Under f g x
Under f g (field h x) = (h ≡ f) ⊎ ((h ≢ g) × Under f g x)

-- A turn of the field f that begins not after a and ends not before b.
pub record Around (f : ℕ) (t : Trace) (a b : ℕ) : Type 0 where
  pub from : ℕ
  pub to : ℕ
  pub one : TurnIn f t from to
  pub begins : from ≤ a
  pub ends : b ≤ to
