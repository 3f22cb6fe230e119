-- The fields of the written-out pattern: they are numbered as the brackets of the text, none stands inside another of its number, and those inside a bracket of the
-- text stand inside its field.
-- Assumes nothing.
use mathlib.Core.Path.{◌≡◌, refl, sym}
use mathlib.Core.Logic.{inl, inr, ◌≢◌}
use mathlib.Core.Bool.{Bool, true, false, cond}
use mathlib.Core.List.{List, [], ◌∷◌, ◌++◌}
use Prim.Native.Nat.{ℕ, zero, suc, ◌+◌, ◌-◌, ◌≤◌, ◌<◌}
use native.Mathlib.Omega.{arith}
use lib.ListN.{replicate}
use lib.Dec.{ltb}
use borrow.Author.Tests.{ltb-true, ltb-false}
use Rattle.theory.specs.Pattern.{Manner, eager, lazy, Re, empty, leaf, seq, alt, star, field, opt, count, number}
use Rattle.grammar.specs.Grammar.{Name, digits_value, Repeat, once, many, maybe, exactly, at_least, between, lazily, Alternation, last, or, Sequence, nothing, part, Atom, byte, dot, class, group}
use Rattle.grammar.specs.Sets.{in_named}
use Rattle.grammar.specs.Brackets.{brackets, brackets_within, brackets_atom, max_fields}
use Rattle.grammar.specs.WriteOut.{chain, optional, repeat_by, bracketed, shape, parts, shape_atom, write_out}
use Rattle.traces.specs.Brackets.{Without, Apart}
use Rattle.traces.specs.Nest.{Under}
use Rattle.fields.specs.Inner.{Inner, InnerWithin, InnerAtom}

-- A property that sequences, alternations and stars keep: what holds of a part holds of its copies.
record Keeps (P : Re → Type 0) : Type 0 where
  nil : P empty
  both : (x y : Re) → P x → P y → P (seq x y)
  either : (x y : Re) → P x → P y → P (alt x y)
  turns : (how : Manner) (x : Re) → P x → P (star how x)

data Every (P : Re → Type 0) : List Re → Type 0 where
  none : Every P []
  more : (x : Re) (l : List Re) → P x → Every P l → Every P (x ∷ l)

module _ (sets : Name → ℕ → Bool) (P : Re → Type 0) (k : Keeps P) where
  chain_keeps : (l : List Re) → Every P l → P (chain l)
  unfolding chain
  chain_keeps [] none = k.nil
  chain_keeps (x ∷ []) (more _ _ p none) = p
  chain_keeps (x ∷ y ∷ l) (more _ _ p e) = k.both x (chain (y ∷ l)) p (chain_keeps (y ∷ l) e)

  opt_keeps : (how : Manner) (x : Re) → P x → P (opt how x)
  opt_keeps eager x p = k.either x empty p k.nil
  opt_keeps lazy x p = k.either empty x k.nil p

  module _ (x : Re) (p : P x) where
    copies_keep : (n : ℕ) (l : List Re) → Every P l → Every P (replicate n x ++ l)
    copies_keep zero l e = e
    copies_keep (suc n) l e = more x (replicate n x ++ l) p (copies_keep n l e)

    optional_keeps : (how : Manner) (n : ℕ) → Every P (optional how n x)
    unfolding optional
    optional_keeps how zero = none
    optional_keeps how (suc n) = more _ [] (opt_keeps how (chain (x ∷ optional how n x)) (chain_keeps (x ∷ optional how n x) (more x (optional how n x) p (optional_keeps how n)))) none

    repeat_keeps : (how : Manner) (r : Repeat) → P (repeat_by how r x)
    repeat_keeps how once = p
    repeat_keeps how many = k.turns how x p
    repeat_keeps how Repeat.more = chain_keeps _ (more x _ p (more (star how x) [] (k.turns how x p) none))
    repeat_keeps how maybe = opt_keeps how x p
    repeat_keeps how (exactly m) = chain_keeps _ (same (digits_value m))
      where
        same : (n : ℕ) → Every P (replicate n x)
        same zero = none
        same (suc n) = more x (replicate n x) p (same n)
    repeat_keeps how (at_least m) = chain_keeps _ (copies_keep (digits_value m) _ (more (star how x) [] (k.turns how x p) none))
    repeat_keeps how (between m n) = chain_keeps _ (copies_keep (digits_value m) _ (optional_keeps how (digits_value n - digits_value m)))
    repeat_keeps how (lazily r) = repeat_keeps lazy r

  -- What the atoms of a text have at their places has the written-out text, before its leaves are numbered.
  data Each : Sequence → ℕ → Type 0 where
    no_more : {n : ℕ} → Each nothing n
    and_then : (a : Atom) (r : Repeat) (q : Sequence) (n : ℕ) → P (shape_atom sets a n) → Each q (n + brackets_atom a) → Each (part a r q) n

  parts_keep : (q : Sequence) (n : ℕ) → Each q n → Every P (parts sets q n)
  unfolding shape
  parts_keep nothing n e = none
  parts_keep (part a r q) n (and_then _ _ _ _ p e) = more _ _ (repeat_keeps (shape_atom sets a n) p eager r) (parts_keep q (n + brackets_atom a) e)

  sequence_keeps : (q : Sequence) (n : ℕ) → Each q n → P (chain (parts sets q n))
  sequence_keeps q n e = chain_keeps (parts sets q n) (parts_keep q n e)

-- The field f is none of the k after the first n; or there is no such field.
data Out (f n k : ℕ) : Type 0 where
  before : f ≤ n → Out f n k
  after : n + k < f → Out f n k
  beyond : max_fields < f → Out f n k

out_left : {f n : ℕ} (i j : ℕ) → Out f n (i + j) → Out f n i
out_left i j (before h) = before h
out_left i j (after h) = after (omega arith)
out_left i j (beyond h) = beyond h

out_right : {f n : ℕ} (i j : ℕ) → Out f n (i + j) → Out f (n + i) j
out_right i j (before h) = before (omega arith)
out_right i j (after h) = after (omega arith)
out_right i j (beyond h) = beyond h

out_inside : {f n k : ℕ} → Out f n (suc k) → Out f (suc n) k
out_inside (before h) = before (omega arith)
out_inside (after h) = after (omega arith)
out_inside (beyond h) = beyond h

-- A bracket is written out as its field around the part, or as the part alone.
bracketed_cases : (P : Re → Type 0) (n : ℕ) (x : Re) → (n < max_fields → P (field (suc n) x)) → (max_fields ≤ n → P x) → P (bracketed n x)
unfolding bracketed
bracketed_cases P n x f g = go (ltb n max_fields) (ltb-true n max_fields) (ltb-false n max_fields)
  where
    go : (c : Bool) → (c ≡ true → n < max_fields) → (c ≡ false → max_fields ≤ n) → P (cond c (field (suc n) x) x)
    go true a b = f (a refl)
    go false a b = g (b refl)

-- Fields that the text does not have there.
module _ (sets : Name → ℕ → Bool) (f : ℕ) where
  keeps_without : Keeps (Without f)
  unfolding Without
  keeps_without = record { nil = tt; both = λ x y a b. (a, b); either = λ x y a b. (a, b); turns = λ how x a. a }

  mutual
    unfolding shape Without

    shape_without : (t : Alternation) (n : ℕ) → Out f n (brackets t) → Without f (shape sets t n)
    shape_without (last q) n o = sequence_keeps sets (Without f) keeps_without q n (each_without q n o)
    shape_without (or q t) n o =
        (sequence_keeps sets (Without f) keeps_without q n (each_without q n (out_left (brackets_within q) (brackets t) o)), shape_without t (n + brackets_within q) (out_right (brackets_within q) (brackets t) o))

    each_without : (q : Sequence) (n : ℕ) → Out f n (brackets_within q) → Each sets (Without f) keeps_without q n
    each_without nothing n o = no_more
    each_without (part a r q) n o =
        and_then a r q n (atom_without a n (out_left (brackets_atom a) (brackets_within q) o)) (each_without q (n + brackets_atom a) (out_right (brackets_atom a) (brackets_within q) o))

    atom_without : (a : Atom) (n : ℕ) → Out f n (brackets_atom a) → Without f (shape_atom sets a n)
    atom_without (byte x) n o = tt
    atom_without dot n o = tt
    atom_without (class c x l) n o = tt
    atom_without (group t) n o =
        let w = shape_without t (suc n) (out_inside o) in
        bracketed_cases (Without f) n (shape sets t (suc n)) (λ h. (differs o h, w)) (λ h. w)
      where
        differs : Out f n (suc (brackets t)) → n < max_fields → f ≢ suc n
        differs (before l) h e = omega arith
        differs (after l) h e = omega arith
        differs (beyond l) h e = omega arith

-- No bracket inside one of its own number.
keeps_apart : Keeps Apart
unfolding Apart
keeps_apart = record { nil = tt; both = λ x y a b. (a, b); either = λ x y a b. (a, b); turns = λ how x a. a }

module _ (sets : Name → ℕ → Bool) where
  mutual
    unfolding shape Apart

    shape_apart : (t : Alternation) (n : ℕ) → Apart (shape sets t n)
    shape_apart (last q) n = sequence_keeps sets Apart keeps_apart q n (each_apart q n)
    shape_apart (or q t) n = (sequence_keeps sets Apart keeps_apart q n (each_apart q n), shape_apart t (n + brackets_within q))

    each_apart : (q : Sequence) (n : ℕ) → Each sets Apart keeps_apart q n
    each_apart nothing n = no_more
    each_apart (part a r q) n = and_then a r q n (atom_apart a n) (each_apart q (n + brackets_atom a))

    atom_apart : (a : Atom) (n : ℕ) → Apart (shape_atom sets a n)
    atom_apart (byte x) n = tt
    atom_apart dot n = tt
    atom_apart (class c x l) n = tt
    atom_apart (group t) n =
        let a = shape_apart t (suc n) in
        bracketed_cases Apart n (shape sets t (suc n)) (λ h. (shape_without sets (suc n) t (suc n) (before (omega arith)), a)) (λ h. a)

-- The leaves' numbers do not matter.
number_without : (f n : ℕ) (r : Re) → Without f r → Without f (number n r)
unfolding number Without
number_without f n empty w = tt
number_without f n (leaf p s) w = tt
number_without f n (seq x y) w = (number_without f n x w.0, number_without f (n + count x) y w.1)
number_without f n (alt x y) w = (number_without f n x w.0, number_without f (n + count x) y w.1)
number_without f n (star how x) w = number_without f n x w
number_without f n (field g x) w = (w.0, number_without f n x w.1)

number_apart : (n : ℕ) (r : Re) → Apart r → Apart (number n r)
unfolding number Apart
number_apart n empty a = tt
number_apart n (leaf p s) a = tt
number_apart n (seq x y) a = (number_apart n x a.0, number_apart (n + count x) y a.1)
number_apart n (alt x y) a = (number_apart n x a.0, number_apart (n + count x) y a.1)
number_apart n (star how x) a = number_apart n x a
number_apart n (field f x) a = (number_without f n x a.0, number_apart n x a.1)

-- NO FIELD STANDS INSIDE ANOTHER OF ITS NUMBER,
pub write_out_apart : (loaded : List ℕ) (t : Alternation) → Apart (write_out loaded t)
unfolding write_out
write_out_apart loaded t = number_apart 0 (shape (in_named loaded) t 0) (shape_apart (in_named loaded) t 0)

-- and no field has a number above the text's.
pub write_out_without : (loaded : List ℕ) (t : Alternation) (f : ℕ) → brackets t < f → Without f (write_out loaded t)
unfolding write_out
write_out_without loaded t f h = number_without f 0 (shape (in_named loaded) t 0) (shape_without (in_named loaded) f t 0 (after (omega arith)))

-- A field that is not there stands inside any.
without_under : (f g : ℕ) (r : Re) → Without g r → Under f g r
unfolding Without Under
without_under f g empty w = tt
without_under f g (leaf p s) w = tt
without_under f g (seq x y) w = (without_under f g x w.0, without_under f g y w.1)
without_under f g (alt x y) w = (without_under f g x w.0, without_under f g y w.1)
without_under f g (star how x) w = without_under f g x w
without_under f g (field h x) w = inr (λ e. w.0 (sym e), without_under f g x w.1)

number_under : (f g n : ℕ) (r : Re) → Under f g r → Under f g (number n r)
unfolding number Under
number_under f g n empty u = tt
number_under f g n (leaf p s) u = tt
number_under f g n (seq x y) u = (number_under f g n x u.0, number_under f g (n + count x) y u.1)
number_under f g n (alt x y) u = (number_under f g n x u.0, number_under f g (n + count x) y u.1)
number_under f g n (star how x) u = number_under f g n x u
number_under f g n (field h x) (inl e) = inl e
number_under f g n (field h x) (inr (d, u)) = inr (d, number_under f g n x u)

-- Inside a bracket the numbers are above its own.
module _ (sets : Name → ℕ → Bool) (f g : ℕ) where
  keeps_under : Keeps (Under f g)
  unfolding Under
  keeps_under = record { nil = tt; both = λ x y a b. (a, b); either = λ x y a b. (a, b); turns = λ how x a. a }

  mutual
    inner_above : (t : Alternation) (n : ℕ) → Inner f g t n → (n < g) × (g ≤ n + brackets t)
    inner_above (last q) n i = within_above q n i
    inner_above (or q t) n (inl i) = let (a, b) = within_above q n i in (a, omega arith)
    inner_above (or q t) n (inr i) = let (a, b) = inner_above t (n + brackets_within q) i in (omega arith, omega arith)

    within_above : (q : Sequence) (n : ℕ) → InnerWithin f g q n → (n < g) × (g ≤ n + brackets_within q)
    within_above nothing n i = elim i [ ]
    within_above (part a r q) n (inl i) = let (b, c) = atom_above a n i in (b, omega arith)
    within_above (part a r q) n (inr i) = let (b, c) = within_above q (n + brackets_atom a) i in (omega arith, omega arith)

    atom_above : (a : Atom) (n : ℕ) → InnerAtom f g a n → (n < g) × (g ≤ n + brackets_atom a)
    atom_above (byte x) n i = elim i [ ]
    atom_above dot n i = elim i [ ]
    atom_above (class c x l) n i = elim i [ ]
    atom_above (group t) n (inl (e, l, m)) = (omega arith, omega arith)
    atom_above (group t) n (inr i) = let (a, b) = inner_above t (suc n) i in (omega arith, omega arith)

  -- Where the field g is not among those of a part,
  each_out : (q : Sequence) (n : ℕ) → Out g n (brackets_within q) → Each sets (Under f g) keeps_under q n
  each_out nothing n o = no_more
  each_out (part a r q) n o =
      and_then a r q n (without_under f g (shape_atom sets a n) (atom_without sets g a n (out_left (brackets_atom a) (brackets_within q) o))) (each_out q (n + brackets_atom a) (out_right (brackets_atom a) (brackets_within q) o))

  shape_out : (t : Alternation) (n : ℕ) → Out g n (brackets t) → Under f g (shape sets t n)
  shape_out t n o = without_under f g (shape sets t n) (shape_without sets g t n o)

  -- and where it stands inside the bracket f there.
  mutual
    unfolding shape Under

    shape_under : (t : Alternation) (n : ℕ) → Inner f g t n → Under f g (shape sets t n)
    shape_under (last q) n i = sequence_keeps sets (Under f g) keeps_under q n (each_under q n i)
    shape_under (or q t) n (inl i) =
        let (a, b) = within_above q n i in
        (sequence_keeps sets (Under f g) keeps_under q n (each_under q n i), shape_out t (n + brackets_within q) (before (omega arith)))
    shape_under (or q t) n (inr i) =
        let (a, b) = inner_above t (n + brackets_within q) i in
        (sequence_keeps sets (Under f g) keeps_under q n (each_out q n (after (omega arith))), shape_under t (n + brackets_within q) i)

    each_under : (q : Sequence) (n : ℕ) → InnerWithin f g q n → Each sets (Under f g) keeps_under q n
    each_under nothing n i = elim i [ ]
    each_under (part a r q) n (inl i) =
        let (b, c) = atom_above a n i in
        and_then a r q n (atom_under a n i) (each_out q (n + brackets_atom a) (before (omega arith)))
    each_under (part a r q) n (inr i) =
        let (b, c) = within_above q (n + brackets_atom a) i in
        and_then a r q n (without_under f g (shape_atom sets a n) (atom_without sets g a n (after (omega arith)))) (each_under q (n + brackets_atom a) i)

    atom_under : (a : Atom) (n : ℕ) → InnerAtom f g a n → Under f g (shape_atom sets a n)
    atom_under (byte x) n i = elim i [ ]
    atom_under dot n i = elim i [ ]
    atom_under (class c x l) n i = elim i [ ]
    atom_under (group t) n (inl (e, l, m)) = bracketed_cases (Under f g) n (shape sets t (suc n)) (λ h. inl (sym e)) (λ h. shape_out t (suc n) (beyond (omega arith)))
    atom_under (group t) n (inr i) =
        let (a, b) = inner_above t (suc n) i in
        let u = shape_under t (suc n) i in
        bracketed_cases (Under f g) n (shape sets t (suc n)) (λ h. inr (λ e. omega arith, u)) (λ h. u)

-- A BRACKET OF THE TEXT INSIDE ANOTHER IS A FIELD INSIDE ITS FIELD, wherever copies of the two are written.
pub write_out_under : (loaded : List ℕ) (t : Alternation) (f g : ℕ) → Inner f g t 0 → Under f g (write_out loaded t)
unfolding write_out
write_out_under loaded t f g i = number_under f g 0 (shape (in_named loaded) t 0) (shape_under (in_named loaded) f g t 0 i)
