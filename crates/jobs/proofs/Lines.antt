-- The lines of a file: the first, up to its newline, and the last, which may lack it.
-- Assumes nothing.
use mathlib.Core.Path.{◌≡◌, refl, sym, ap, ◌∙◌}
use mathlib.Core.Bool.{Bool, true, false, cond, true≢false}
use mathlib.Core.List.{List, [], ◌∷◌, ◌++◌}
use Prim.Native.Nat.{ℕ, suc, ◌+◌, ◌-◌, ◌≤◌, ◌<◌}
use native.Mathlib.Omega.{arith}
use native.Mathlib.Decide.{dec_lt}
use native.Mathlib.Numerals.{add-one}
use lib.ListN.{length, get_or, take, drop, drop_of_length-le, length-drop}
use lib.Seq.{length-take-le, length-slice, take_all, drop-append-le, split_at, get_or-take, get_or-drop}
use lib.Dec.{eqb}
use borrow.Author.Tests.{eq-eqb, ne_eqb, eqb-true}
use Rattle.std.specs.Prelude.{None, Some}
use Rattle.std.specs.List.{position, position_or_len}
use Rattle.std.proofs.lemmas.Bool.{lt-ltb}
use Rattle.std.proofs.lemmas.Option.{none-some}
use Rattle.std.proofs.lemmas.List.Quantifiers.{position-Some}
use Rattle.std.proofs.lemmas.List.Sums.{fails_before_first}
use Rattle.jobs.specs.Job.{beginning, lines_of, between}

-- No byte is a newline.
abbrev pub Plain : List ℕ → Type 0
Plain l = (k : ℕ) → k < length l → get_or l k 0 ≡ 10 → ⊥

plain_rest : (b : ℕ) (l : List ℕ) → Plain (b ∷ l) → Plain l
plain_rest b l h k g = h (suc k) (omega arith)

pub lines_first : (l s : List ℕ) → Plain l → lines_of (l ++ (10 ∷ s)) ≡ l ∷ lines_of s
unfolding lines_of
lines_first [] s h = refl
lines_first (b ∷ l) s h = rw (ne_eqb b 10 (h 0 (omega arith)), lines_first l s (plain_rest b l h))

pub lines_last : (l : List ℕ) → 0 < length l → Plain l → lines_of l ≡ l ∷ []
unfolding lines_of
lines_last [] g h = absurd (omega arith)
lines_last (b ∷ []) g h = rw (ne_eqb b 10 (h 0 (omega arith)))
lines_last (b ∷ (c ∷ l)) g h = rw (ne_eqb b 10 (h 0 (omega arith)), lines_last (c ∷ l) (omega arith) (plain_rest b (c ∷ l) h))

-- Bytes have a line.
pub lines_some : (s : List ℕ) → 0 < length s → 0 < length (lines_of s)
unfolding lines_of
lines_some [] h = absurd (omega arith)
lines_some (b ∷ s) h = go (eqb b 10) (lines_of s)
  where
    go : (t : Bool) (L : List (List ℕ)) → 0 < length (cond t ([] ∷ L) (beginning b L))
    go true L = omega arith
    go false [] = omega arith
    go false (l ∷ L) = omega arith

-- None is left where the file is over.
pub lines_over : (file : List ℕ) (i : ℕ) → length file ≤ i → lines_of (drop i file) ≡ []
unfolding lines_of
lines_over file i h = rw (drop_of_length-le file {i = i} h)

-- The bytes of a file from a place to before another have no newline.
pub record PlainFrom (file : List ℕ) (start end : ℕ) : Type 0 where
  pub order : start ≤ end
  pub inside : end ≤ length file
  pub plain : (j : ℕ) → start ≤ j → j < end → get_or file j 0 ≡ 10 → ⊥

-- So it is up to the first newline, or up to the end where there is none.
pub plain_to : (file : List ℕ) (start n : ℕ) → start ≤ length file → position (λ b. eqb b 10) (drop start file) ≡ Some n
    → PlainFrom file start (start + n) × (start + n < length file) × (get_or file (start + n) 0 ≡ 10)
plain_to file start n h e =
    let (l, f, none) = position-Some (λ b. eqb b 10) (drop start file) n 0 e in
    let inside : start + n < length file = omega (arith, length-drop start file) in (
      record {
        order = omega arith;
        inside = omega arith;
        plain = λ j g l q.
            let at : start + (j - start) ≡ j = omega arith in
            true≢false (sym (eq-eqb _ 10 (get_or-drop start file (j - start) 0 ∙ ap (λ k. get_or file k 0) at ∙ q)) ∙ none (j - start) (omega arith));
      },
      inside,
      sym (get_or-drop start file n 0) ∙ eqb-true _ 10 f,
    )

nowhere : (p : ℕ → Bool) (l : List ℕ) → position p l ≡ None → length l ≤ position_or_len p l
nowhere p l = go (dec_lt (position_or_len p l) (length l))
  where
    go : Dec (position_or_len p l < length l) → position p l ≡ None → length l ≤ position_or_len p l
    go (yes h) e = absurd (none-some _ (sym e ∙ ap (λ c. cond c (Some (position_or_len p l)) None) (lt-ltb _ _ h)))
    go (no h) e = omega arith

pub plain_all : (file : List ℕ) (start : ℕ) → start ≤ length file → position (λ b. eqb b 10) (drop start file) ≡ None → PlainFrom file start (length file)
plain_all file start h e =
    let p : ℕ → Bool = λ b. eqb b 10 in
    record {
      order = h;
      inside = omega arith;
      plain = λ j g l q.
          let at : start + (j - start) ≡ j = omega arith in
          let n = fails_before_first p (drop start file) (j - start) 0 (omega (arith, nowhere p (drop start file) e, length-drop start file)) in
          true≢false (sym (eq-eqb _ 10 (get_or-drop start file (j - start) 0 ∙ ap (λ k. get_or file k 0) at ∙ q)) ∙ n);
    }

module _ {file : List ℕ} {start : ℕ} where
  plain_between : {end : ℕ} → PlainFrom file start end → Plain (between start end file)
  plain_between {end} p k h =
      let l : start + k < end = omega (arith, length-slice start end file p.inside) in
      λ e. p.plain (start + k) (omega arith) l (sym (get_or-drop start (take end file) k 0 ∙ get_or-take end file (start + k) 0 l) ∙ e)

  -- The line from a place goes up to the next newline,
  pub line_newline : {end : ℕ} → PlainFrom file start end → end < length file → get_or file end 0 ≡ 10 → lines_of (drop start file) ≡ between start end file ∷ lines_of (drop (end + 1) file)
  line_newline {end} p h e =
      let cut : drop start file ≡ between start end file ++ (get_or file end 0 ∷ drop (suc end) file)
      = ap (drop start) (split_at file end 0 h) ∙ drop-append-le start (take end file) _ (omega (arith, length-take-le end file p.inside)) in
      rw (cut, e, add-one end) (lines_first (between start end file) (drop (suc end) file) (plain_between p))

  -- or to the end of the file.
  pub line_last : {end : ℕ} → PlainFrom file start end → start < length file → length file ≤ end → lines_of (drop start file) ≡ between start end file ∷ lines_of (drop (end + 1) file)
  line_last {end} p h g =
      ap (λ l. lines_of (drop start l)) (sym (take_all end file g))
      ∙ lines_last (between start end file) (omega (arith, length-slice start end file p.inside)) (plain_between p)
      ∙ ap (λ L. between start end file ∷ L) (sym (lines_over file (end + 1) (omega arith)))
