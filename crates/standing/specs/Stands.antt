-- The standing that a `Standing` of the code is, and what its functions need to know of the arrays that are lent.
-- Assumes nothing.
use Rattle.std.specs.Prelude.{◌≡◌, ℕ, ◌≤◌, ◌<◌, false, List, [], get_or, take, T}
use Rattle.theory.specs.Pattern.{Re, count, has, Numbered}
use Rattle.theory.specs.Standing.{member, from, filter, standing}
use Rattle.theory.specs.Standing as Theory
use Rattle.theory.specs.Code.Next.{next}
use Rattle.theory.specs.Code.Members.{Once}
use Rattle.words.specs.Sets.{has_bit}
use Rattle.follow.specs.declared.Tables.{Tables}
use Rattle.follow.specs.declared.TablesView.{TablesView}
use Rattle.follow.specs.Rows.{Follows}
use Rattle.standing.specs.declared.Standing.{Standing}

-- The standing of a pattern with c leaves: (a) the first n numbers of the list, (c) the leaves whose bit is set.
abbrev pub means : ℕ → Standing → Theory.Standing
means c s = record { order = take s.n s.list; first = s.first; all = filter (has_bit s.all) (from 0 c); some = s.some }

-- The arrays that are lent for a pattern: the masks of the bytes, and the follow tables.
pub record Arrays : Type 0 where
  pub masks : List ℕ
  pub rows : List ℕ
  pub lens : List ℕ
  pub sets : List ℕ
  pub ends : List ℕ

abbrev pub arrays : List ℕ → List ℕ → List ℕ → List ℕ → List ℕ → Arrays
arrays masks rows lens sets ends = record { masks = masks; rows = rows; lens = lens; sets = sets; ends = ends }

-- The arrays that a view lends.
abbrev pub arrays_of : TablesView → Arrays
arrays_of t = arrays t.masks.now t.rows.now t.lens.now t.sets.now t.ends.now

-- The follow tables among them.
abbrev pub tables_in : Arrays → Tables
tables_in a = record { rows = a.rows; lens = a.lens; sets = a.sets; ends = a.ends }

-- They are those of the pattern r: the follow tables, and bit p of the mask of a byte for the leaf p.
pub record Lent (r : Re) (a : Arrays) : Type 0 where
  pub numbered : Numbered 0 r
  pub most : count r ≤ 64
  pub follows : Follows r (tables_in a)
  pub masked : (b p : ℕ) → b < 256 → p < count r → has_bit (get_or a.masks b 0) p ≡ has r p b
  pub spare : (b p : ℕ) → b < 256 → count r ≤ p → has_bit (get_or a.masks b 0) p ≡ false

-- A standing of the pattern r: (a) has leaves of r, each once, and (c) no other.
pub record Fine (r : Re) (s : Standing) : Type 0 where
  pub size : s.n ≤ 64
  pub leaves : (p : ℕ) → T (member p (take s.n s.list)) → p < count r
  pub once : Once (take s.n s.list)
  pub set : (p : ℕ) → count r ≤ p → has_bit s.all p ≡ false

-- s is the standing t of the pattern r.
pub record Stands (r : Re) (s : Standing) (t : Theory.Standing) : Type 0 where
  pub fine : Fine r s
  pub is : means (count r) s ≡ t

-- The first standing, for the pattern whose arrays are lent.
pub record First (a : Arrays) (s : Standing) : Type 0 where
  pub stands : {r : Re} → Lent r a → Stands r s (standing r [])

-- "Each byte carries a standing to the next standing."
pub record Carried (a : Arrays) (s : Standing) (b : ℕ) (s' : Standing) : Type 0 where
  pub stands : {r : Re} {t : Theory.Standing} → Lent r a → Stands r s t → Stands r s' (next r t b)
