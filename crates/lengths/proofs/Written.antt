-- The least and the greatest length of a tree are those of its written-out pattern.
-- Assumes nothing.
use mathlib.Core.Path.{◌≡◌, refl, sym, ap, ap₂, ◌∙◌}
use Prim.Native.Nat.{ℕ, zero, suc, ◌+◌, ◌-◌}
use mathlib.Core.Bool.{Bool}
use mathlib.Core.List.{List, [], ◌∷◌, ◌++◌}
use native.Mathlib.Omega.{arith}
use native.Mathlib.Nat.{zero-mul, suc-mul}
use lib.ListN.{replicate}
use Rattle.theory.specs.Pattern.{Manner, eager, lazy, Re, empty, leaf, seq, alt, star, field, opt, count, number}
use Rattle.grammar.specs.Grammar.{Name, digits_value, Repeat, once, many, more, maybe, exactly, at_least, between, lazily, Alternation, last, or, Sequence, nothing, part, Atom, byte, dot, class, group, WfAlternation, WfSequence, WfAtom, WfRepeat}
use Rattle.grammar.specs.Sets.{in_named}
use Rattle.grammar.specs.Brackets.{brackets_within, brackets_atom}
use Rattle.grammar.specs.WriteOut.{chain, optional, repeat_by, bracketed, shape, parts, shape_atom, write_out}
use Rattle.grammar.proofs.Size.{count_sum, measure_bracketed}
use Rattle.lengths.specs.Lengths.{copies, Extent, in_row, one_of, up_to, or_more, under_repeat, lengths, lengths_within, lengths_atom}
use Rattle.lengths.specs.Written.{extent}
use Rattle.lengths.proofs.Sums.{extents, plus_zero, greater_zero, zero_greater, copies_add, copies_endless, row_none, total, total_append, total_chain}

-- The numbers of the leaves count for nothing,
number_extent : (n : ℕ) (r : Re) → extent (number n r) ≡ extent r
unfolding number extent
number_extent n empty = refl
number_extent n (leaf p s) = refl
number_extent n (seq x y) = ap₂ in_row (number_extent n x) (number_extent (n + count x) y)
number_extent n (alt x y) = ap₂ one_of (number_extent n x) (number_extent (n + count x) y)
number_extent n (star how x) = ap (or_more 0) (number_extent n x)
number_extent n (field f x) = number_extent n x

-- nor do brackets.
bracket_extent : (n : ℕ) (x : Re) → extent (bracketed n x) ≡ extent x
unfolding extent
bracket_extent = measure_bracketed extent (λ f x. refl)

-- Parts in a row, copies and optional copies.
abbrev row : List Re → Extent
row = total extent

row_chain : (l : List Re) → extent (chain l) ≡ row l
unfolding extent
row_chain = total_chain extent refl (λ x y. refl)

row_copies : (n : ℕ) (x : Re) → row (replicate n x) ≡ up_to n n (extent x)
row_copies zero x = extents (sym (zero-mul (extent x).least)) refl
row_copies (suc n) x = ap (in_row (extent x)) (row_copies n x) ∙ extents (omega (arith, suc-mul n (extent x).least)) refl

opt_extent : (how : Manner) (x : Re) → extent (opt how x) ≡ up_to 0 1 (extent x)
unfolding extent
opt_extent eager x = extents (omega arith) (greater_zero (extent x).greatest ∙ sym (plus_zero (extent x).greatest))
opt_extent lazy x = extents (omega arith) (zero_greater (extent x).greatest ∙ sym (plus_zero (extent x).greatest))

row_optional : (how : Manner) (k : ℕ) (x : Re) → row (optional how k x) ≡ up_to 0 k (extent x)
unfolding optional
row_optional how zero x = extents (omega arith) refl
row_optional how (suc k) x =
    row_none (extent (opt how (chain (x ∷ optional how k x))))
    ∙ opt_extent how (chain (x ∷ optional how k x))
    ∙ ap (up_to 0 1) (row_chain (x ∷ optional how k x) ∙ ap (in_row (extent x)) (row_optional how k x))
    ∙ extents (omega arith) (plus_zero (copies (suc k) (extent x).greatest))

-- m copies and the star of one.
row_more : (how : Manner) (m : ℕ) (x : Re) → row (replicate m x ++ (star how x ∷ [])) ≡ or_more m (extent x)
unfolding extent
row_more how m x =
    total_append extent (replicate m x) (star how x ∷ [])
    ∙ ap₂ in_row (row_copies m x) (row_none (or_more 0 (extent x)))
    ∙ extents (omega arith) (copies_endless m (extent x).greatest)

repeat_extent : (how : Manner) (r : Repeat) (x : Re) → WfRepeat r → extent (repeat_by how r x) ≡ under_repeat r (extent x)
unfolding extent
repeat_extent how once x v = refl
repeat_extent how many x v = refl
repeat_extent how more x v = row_chain (x ∷ star how x ∷ []) ∙ row_more how 1 x
repeat_extent how maybe x v = opt_extent how x
repeat_extent how (exactly m) x v = row_chain (replicate (digits_value m) x) ∙ row_copies (digits_value m) x
repeat_extent how (at_least m) x v = row_chain (replicate (digits_value m) x ++ (star how x ∷ [])) ∙ row_more how (digits_value m) x
repeat_extent how (between m n) x v =
    row_chain (replicate (digits_value m) x ++ optional how (digits_value n - digits_value m) x)
    ∙ total_append extent (replicate (digits_value m) x) (optional how (digits_value n - digits_value m) x)
    ∙ ap₂ in_row (row_copies (digits_value m) x) (row_optional how (digits_value n - digits_value m) x)
    ∙ extents (omega arith)
    (copies_add (digits_value m) (digits_value n - digits_value m) (extent x).greatest ∙ ap (λ k. copies k (extent x).greatest) (count_sum m n v))
repeat_extent how (lazily r) x v = repeat_extent lazy r x v.0

module _ (sets : Name → ℕ → Bool) where
  mutual
    unfolding extent shape lengths

    alternation_extent : (t : Alternation) (n : ℕ) → WfAlternation t → extent (shape sets t n) ≡ lengths t
    alternation_extent (last q) n w = row_chain (parts sets q n) ∙ sequence_extent q n w
    alternation_extent (or q t) n w = ap₂ one_of (row_chain (parts sets q n) ∙ sequence_extent q n w.0) (alternation_extent t (n + brackets_within q) w.1)

    sequence_extent : (q : Sequence) (n : ℕ) → WfSequence q → row (parts sets q n) ≡ lengths_within q
    sequence_extent nothing n w = refl
    sequence_extent (part a r q) n w =
        ap₂ in_row (repeat_extent eager r (shape_atom sets a n) w.1 ∙ ap (under_repeat r) (atom_extent a n w.0)) (sequence_extent q (n + brackets_atom a) w.2)

    atom_extent : (a : Atom) (n : ℕ) → WfAtom a → extent (shape_atom sets a n) ≡ lengths_atom a
    atom_extent (byte x) n w = refl
    atom_extent dot n w = refl
    atom_extent (class c x l) n w = refl
    atom_extent (group t) n w = bracket_extent n (shape sets t (suc n)) ∙ alternation_extent t (suc n) w

-- OF THE TREE AND WRITTEN OUT: the same lengths, whatever table of named sets is loaded.
pub lengths_written : (loaded : List ℕ) (t : Alternation) → WfAlternation t → extent (write_out loaded t) ≡ lengths t
unfolding write_out
lengths_written loaded t w = number_extent 0 (shape (in_named loaded) t 0) ∙ alternation_extent (in_named loaded) t 0 w
