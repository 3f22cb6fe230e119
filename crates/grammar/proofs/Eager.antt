-- Without the `?` of its lazy repeats a pattern has the same POSIX spans, and the same (c) and (d) of each standing. What is written out of it then has no lazy repeat.
-- Assumes nothing.
use mathlib.Core.Path.{◌≡◌, refl, sym, ap, ap₂, subst}
use Prim.Native.Nat.{ℕ, zero, suc, ◌+◌, ◌-◌}
use mathlib.Core.Bool.{Bool, true, false, cond}
use mathlib.Core.List.{List, [], ◌∷◌, ◌++◌}
use native.Mathlib.Omega.{arith}
use lib.ListN.{replicate}
use lib.Dec.{ltb}
use Rattle.theory.specs.Pattern.{Manner, eager, lazy, Re, empty, leaf, seq, alt, star, field, opt, count, number}
use Rattle.theory.specs.Base.{Eager, Reordered, same_empty, same_leaf, in_seq, in_alt, swapped, in_star, in_field}
use Rattle.theory.specs.Spans.{posix}
use Rattle.theory.specs.Standing.{standing}
use Rattle.theory.proofs.Reordered.{reordered_posix, reordered_standing}
use Rattle.grammar.specs.Grammar.{Name, digits_value, Repeat, once, many, more, maybe, exactly, at_least, between, lazily, Alternation, last, or, Sequence, nothing, part, Atom, byte, dot, class, group}
use Rattle.grammar.specs.Sets.{in_named}
use Rattle.grammar.specs.Brackets.{max_fields, brackets, brackets_within, brackets_atom}
use Rattle.grammar.specs.WriteOut.{chain, optional, repeat_by, bracketed, shape, parts, shape_atom, write_out}
use Rattle.grammar.specs.Eager.{eager_repeat, eagerly, eager_sequence, eager_atom}

-- y is x, which has no lazy repeat, with some of its repeats lazy.
data Softer : Re → Re → Type 0 where
  of_empty : Softer empty empty
  of_leaf : {p : ℕ} {s : ℕ → Bool} → Softer (leaf p s) (leaf p s)
  of_seq : {x y x' y' : Re} → Softer x x' → Softer y y' → Softer (seq x y) (seq x' y')
  of_alt : {x y x' y' : Re} → Softer x x' → Softer y y' → Softer (alt x y) (alt x' y')
  of_star : {how : Manner} {x y : Re} → Softer x y → Softer (star eager x) (star how y)
  of_field : {f : ℕ} {x y : Re} → Softer x y → Softer (field f x) (field f y)
  left_first : {x y : Re} → Softer x y → Softer (alt x empty) (alt empty y)

reordered : {x y : Re} → Softer x y → Reordered x y
reordered of_empty = same_empty
reordered of_leaf = same_leaf
reordered (of_seq a b) = in_seq (reordered a) (reordered b)
reordered (of_alt a b) = in_alt (reordered a) (reordered b)
reordered (of_star a) = in_star (reordered a)
reordered (of_field a) = in_field (reordered a)
reordered (left_first a) = swapped (reordered a) same_empty

is_eager : {x y : Re} → Softer x y → Eager x
unfolding Eager
is_eager of_empty = tt
is_eager of_leaf = tt
is_eager (of_seq a b) = (is_eager a, is_eager b)
is_eager (of_alt a b) = (is_eager a, is_eager b)
is_eager (of_star a) = (refl, is_eager a)
is_eager (of_field a) = is_eager a
is_eager (left_first a) = (is_eager a, tt)

-- Their leaves have the same numbers.
softer_count : {x y : Re} → Softer x y → count x ≡ count y
unfolding count
softer_count of_empty = refl
softer_count of_leaf = refl
softer_count (of_seq a b) = ap₂ ◌+◌ (softer_count a) (softer_count b)
softer_count (of_alt a b) = ap₂ ◌+◌ (softer_count a) (softer_count b)
softer_count (of_star a) = softer_count a
softer_count (of_field a) = softer_count a
softer_count (left_first a) = let e = softer_count a in omega arith

softer_number : {x y : Re} → Softer x y → (n : ℕ) → Softer (number n x) (number n y)
unfolding number count
softer_number of_empty n = of_empty
softer_number of_leaf n = of_leaf
softer_number (of_seq {x = x} {y = y} {y' = y'} a b) n = of_seq (softer_number a n) (subst (λ m. Softer (number (n + count x) y) (number (n + m) y')) (softer_count a) (softer_number b (n + count x)))
softer_number (of_alt {x = x} {y = y} {y' = y'} a b) n = of_alt (softer_number a n) (subst (λ m. Softer (number (n + count x) y) (number (n + m) y')) (softer_count a) (softer_number b (n + count x)))
softer_number (of_star a) n = of_star (softer_number a n)
softer_number (of_field a) n = of_field (softer_number a n)
softer_number (left_first {x = x} {y = y} a) n = let e : n ≡ n + 0 = omega arith in left_first (subst (λ m. Softer (number n x) (number m y)) e (softer_number a n))

-- Part by part.
data Softers : List Re → List Re → Type 0 where
  nil : Softers [] []
  cons : {x y : Re} {l m : List Re} → Softer x y → Softers l m → Softers (x ∷ l) (y ∷ m)

softers_append : {l m l' m' : List Re} → Softers l l' → Softers m m' → Softers (l ++ m) (l' ++ m')
softers_append nil g = g
softers_append (cons f s) g = cons f (softers_append s g)

chain_softer : {l m : List Re} → Softers l m → Softer (chain l) (chain m)
unfolding chain
chain_softer nil = of_empty
chain_softer (cons f nil) = f
chain_softer (cons f (cons g s)) = of_seq f (chain_softer (cons g s))

opt_softer : (how : Manner) {x y : Re} → Softer x y → Softer (opt eager x) (opt how y)
opt_softer eager f = of_alt f of_empty
opt_softer lazy f = left_first f

module _ {x y : Re} (f : Softer x y) where
  copies_softer : (k : ℕ) → Softers (replicate k x) (replicate k y)
  copies_softer zero = nil
  copies_softer (suc k) = cons f (copies_softer k)

  optional_softer : (how : Manner) (k : ℕ) → Softers (optional eager k x) (optional how k y)
  unfolding optional
  optional_softer how zero = nil
  optional_softer how (suc k) = cons (opt_softer how (chain_softer (cons f (optional_softer how k)))) nil

  repeat_softer : (how : Manner) (r : Repeat) → Softer (repeat_by eager (eager_repeat r) x) (repeat_by how r y)
  repeat_softer how once = f
  repeat_softer how many = of_star f
  repeat_softer how more = chain_softer (cons f (cons (of_star f) nil))
  repeat_softer how maybe = opt_softer how f
  repeat_softer how (exactly m) = chain_softer (copies_softer (digits_value m))
  repeat_softer how (at_least m) = chain_softer (softers_append (copies_softer (digits_value m)) (cons (of_star f) nil))
  repeat_softer how (between m n) = chain_softer (softers_append (copies_softer (digits_value m)) (optional_softer how (digits_value n - digits_value m)))
  repeat_softer how (lazily r) = repeat_softer lazy r

bracketed_softer : (n : ℕ) {x y : Re} → Softer x y → Softer (bracketed n x) (bracketed n y)
unfolding bracketed
bracketed_softer n {x} {y} f = go (ltb n max_fields)
  where
    go : (c : Bool) → Softer (cond c (field (suc n) x) x) (cond c (field (suc n) y) y)
    go true = of_field f
    go false = f

-- The signs are no brackets.
mutual
  unfolding eagerly

  brackets_eager : (t : Alternation) → brackets (eagerly t) ≡ brackets t
  brackets_eager (last q) = within_eager q
  brackets_eager (or q t) = ap₂ ◌+◌ (within_eager q) (brackets_eager t)

  within_eager : (q : Sequence) → brackets_within (eager_sequence q) ≡ brackets_within q
  within_eager nothing = refl
  within_eager (part a r q) = ap₂ ◌+◌ (brackets_atom_eager a) (within_eager q)

  brackets_atom_eager : (a : Atom) → brackets_atom (eager_atom a) ≡ brackets_atom a
  brackets_atom_eager (byte x) = refl
  brackets_atom_eager dot = refl
  brackets_atom_eager (class c x l) = refl
  brackets_atom_eager (group t) = ap suc (brackets_eager t)

module _ (sets : Name → ℕ → Bool) where
  mutual
    unfolding shape eagerly

    shape_softer : (t : Alternation) (n : ℕ) → Softer (shape sets (eagerly t) n) (shape sets t n)
    shape_softer (last q) n = chain_softer (parts_softer q n)
    shape_softer (or q t) n =
        of_alt (chain_softer (parts_softer q n)) (subst (λ m. Softer (shape sets (eagerly t) (n + m)) (shape sets t (n + brackets_within q))) (sym (within_eager q)) (shape_softer t (n + brackets_within q)))

    parts_softer : (q : Sequence) (n : ℕ) → Softers (parts sets (eager_sequence q) n) (parts sets q n)
    parts_softer nothing n = nil
    parts_softer (part a r q) n =
        cons (repeat_softer (atom_softer a n) eager r) (subst (λ m. Softers (parts sets (eager_sequence q) (n + m)) (parts sets q (n + brackets_atom a))) (sym (brackets_atom_eager a)) (parts_softer q (n + brackets_atom a)))

    atom_softer : (a : Atom) (n : ℕ) → Softer (shape_atom sets (eager_atom a) n) (shape_atom sets a n)
    atom_softer (byte x) n = of_leaf
    atom_softer dot n = of_leaf
    atom_softer (class c x l) n = of_leaf
    atom_softer (group t) n = bracketed_softer n (shape_softer t (suc n))

written_softer : (loaded : List ℕ) (t : Alternation) → Softer (write_out loaded (eagerly t)) (write_out loaded t)
unfolding write_out
written_softer loaded t = softer_number (shape_softer (in_named loaded) t 0) 0

repeat_twice : (r : Repeat) → eager_repeat (eager_repeat r) ≡ eager_repeat r
repeat_twice once = refl
repeat_twice many = refl
repeat_twice more = refl
repeat_twice maybe = refl
repeat_twice (exactly m) = refl
repeat_twice (at_least m) = refl
repeat_twice (between m n) = refl
repeat_twice (lazily r) = repeat_twice r

-- Nothing is left to be taken away.
mutual
  unfolding eagerly

  pub eagerly_twice : (t : Alternation) → eagerly (eagerly t) ≡ eagerly t
  eagerly_twice (last q) = ap last (sequence_twice q)
  eagerly_twice (or q t) = ap₂ or (sequence_twice q) (eagerly_twice t)

  sequence_twice : (q : Sequence) → eager_sequence (eager_sequence q) ≡ eager_sequence q
  sequence_twice nothing = refl
  sequence_twice (part a r q) = λ i. part (atom_twice a i) (repeat_twice r i) (sequence_twice q i)

  atom_twice : (a : Atom) → eager_atom (eager_atom a) ≡ eager_atom a
  atom_twice (byte x) = refl
  atom_twice dot = refl
  atom_twice (class c x l) = refl
  atom_twice (group t) = ap group (eagerly_twice t)

-- THE POSIX READING TREATS THE SIGN AS THE PLAIN REPEAT,
pub eagerly_posix : (loaded : List ℕ) (t : Alternation) (w : List ℕ) → posix (write_out loaded (eagerly t)) w ≡ posix (write_out loaded t) w
eagerly_posix loaded t w = reordered_posix (reordered (written_softer loaded t)) w

-- (c) AND (d) OF A STANDING DO NOT DEPEND ON THE SIGNS,
pub eagerly_sets : (loaded : List ℕ) (t : Alternation) (w : List ℕ)
    → ((standing (write_out loaded (eagerly t)) w).all ≡ (standing (write_out loaded t) w).all) × ((standing (write_out loaded (eagerly t)) w).some ≡ (standing (write_out loaded t) w).some)
eagerly_sets loaded t w = reordered_standing (reordered (written_softer loaded t)) w

-- AND WITHOUT THEM THE WRITTEN-OUT PATTERN HAS NO LAZY REPEAT.
pub unsigned_eager : (loaded : List ℕ) (t : Alternation) → eagerly t ≡ t → Eager (write_out loaded t)
unsigned_eager loaded t e = subst (λ u. Eager (write_out loaded u)) e (is_eager (written_softer loaded t))
