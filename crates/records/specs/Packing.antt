-- A standing packed into the 64 bytes that hold its record, and unpacked from them: promised for a pattern of at most 64 leaves.
-- Assumes nothing.
use Rattle.std.specs.Prelude.{◌≡◌, ℕ, ◌≤◌, List}
use Rattle.theory.specs.Pattern.{Re, count, Numbered}
use Rattle.theory.specs.Standing.{standing}
use Rattle.theory.specs.Standing as Theory
use Rattle.verdict.specs.Record.{form_of, record_bytes}
use Rattle.verdict.specs.Code.Held.{held}
use Rattle.standing.specs.declared.Standing.{Standing}
use Rattle.standing.specs.Stands.{Stands}

-- v holds the record of the standing that s is, which comes from the record of that number by that byte.
pub record Packed (s : Standing) (origin byte : ℕ) (v : List ℕ) : Type 0 where
  pub is : {r : Re} {t : Theory.Standing} → count r ≤ 64 → Stands r s t → v ≡ held (record_bytes (form_of r) t origin byte)

-- If v holds the record of a line's standing, s is that standing.
pub record Unpacked (v : List ℕ) (s : Standing) : Type 0 where
  pub stands : {r : Re} (w : List ℕ) (origin byte : ℕ) → Numbered 0 r → count r ≤ 64 → v ≡ held (record_bytes (form_of r) (standing r w) origin byte) → Stands r s (standing r w)
