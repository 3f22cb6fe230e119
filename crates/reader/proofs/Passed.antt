-- The brackets that the cycle passes, part after part, and what they are in the end.
-- Assumes nothing.
use mathlib.Core.Path.{◌≡◌, refl, sym, ap, ◌∙◌}
use Prim.Native.Nat.{ℕ, zero, suc, ◌+◌, ◌-◌, ◌≤◌, ◌<◌}
use mathlib.Core.Bool.{cond}
use mathlib.Core.List.{List, [], ◌∷◌, ◌++◌}
use native.Mathlib.Omega.{arith}
use native.Mathlib.Decide.{dec_lt}
use lib.ListN.{length, get_or, drop, length-drop}
use lib.Dec.{ltb}
use borrow.Author.Tests.{lt-ltb, le-ltb, eq-eqb, ne_eqb}
use Rattle.std.specs.Prelude.{Some, None}
use Rattle.grammar.specs.Brackets.{max_fields}
use Rattle.reader.specs.declared.Brackets.{Brackets}
use Rattle.reader.specs.Steps.{no_brackets, one_more, and_more, Passed}

more_append : (n : ℕ) (g : Brackets) (l m : List (List ℕ)) → and_more n g (l ++ m) ≡ and_more n (and_more n g l) m
unfolding and_more
more_append n g [] m = refl
more_append n g (s ∷ l) m = more_append n (one_more g (n - length s)) l m

more_count : (n : ℕ) (g : Brackets) (l : List (List ℕ)) → (and_more n g l).count ≡ g.count + length l
unfolding and_more
more_count n g [] = omega arith
more_count n g (s ∷ l) = omega (arith, more_count n (one_more g (n - length s)) l)

-- A part without brackets, and one part after another.
pub passed_none : {p : List ℕ} {at e : ℕ} (g : Brackets) → at ≤ e → Passed p at e [] g g
unfolding and_more
passed_none g h = record { are = refl; few = λ l. omega arith }

pub passed_then : {p : List ℕ} {at e f k : ℕ} {l m : List (List ℕ)} {g h i : Brackets} → Passed p at e l g h → e ≤ f → Passed p f k m h i → Passed p at k (l ++ m) g i
passed_then {p = p} {l = l} {m = m} {g = g} x o y =
    record { are = y.are ∙ ap (λ u. and_more (length p) u m) x.are ∙ sym (more_append (length p) g l m); few = λ c. y.few (omega (arith, x.few c)) }

pub passed_count : {p : List ℕ} {at e : ℕ} {l : List (List ℕ)} {g h : Brackets} → Passed p at e l g h → h.count ≡ g.count + length l
passed_count {p = p} {l = l} {g = g} x = ap (λ u. u.count) x.are ∙ more_count (length p) g l

-- A group: its bracket and those inside.
pub passed_group : {p : List ℕ} {at e : ℕ} {l : List (List ℕ)} {g h : Brackets} (s : List ℕ) → at ≤ length p → s ≡ drop at p → Passed p (at + 1) e l (one_more g at) h → Passed p at (e + 1) (s ∷ l) g h
unfolding and_more
passed_group {p = p} {at = at} {l = l} {g = g} s i is x =
    let q : at ≡ length p - length s = omega (arith, ap length is, length-drop at p) in
    record { are = x.are ∙ ap (λ k. and_more (length p) (one_more g k) l) q; few = λ c. omega (arith, x.few (omega arith)) }

-- All brackets of a pattern.
ninth_past : (n : ℕ) (g : Brackets) (l : List (List ℕ)) → max_fields < g.count → (and_more n g l).ninth ≡ g.ninth
unfolding and_more
ninth_past n g [] h = refl
ninth_past n g (s ∷ l) h =
    ninth_past n (one_more g (n - length s)) l (omega arith) ∙ ap (λ c. cond c (Some (n - length s)) g.ninth) (ne_eqb g.count max_fields (λ x. omega arith))

ninth_from : (n : ℕ) (g : Brackets) (l : List (List ℕ)) (k : ℕ) → g.count + k ≡ max_fields → (and_more n g l).ninth ≡ cond (ltb k (length l)) (Some (n - length (get_or l k []))) g.ninth
unfolding and_more
ninth_from n g [] k e = rw (le-ltb k 0 (omega arith))
ninth_from n g (s ∷ l) zero e =
    rw (lt-ltb 0 (suc (length l)) (omega arith))
    (ninth_past n (one_more g (n - length s)) l (omega arith) ∙ ap (λ c. cond c (Some (n - length s)) g.ninth) (eq-eqb g.count max_fields (omega arith)))
ninth_from n g (s ∷ l) (suc k) e =
    ninth_from n (one_more g (n - length s)) l k (omega arith)
    ∙ ap (λ c. cond (ltb k (length l)) (Some (n - length (get_or l k []))) (cond c (Some (n - length s)) g.ninth)) (ne_eqb g.count max_fields (λ x. omega arith))
    ∙ ap (λ c. cond c (Some (n - length (get_or l k []))) g.ninth) (same (dec_lt k (length l)))
  where
    same : Dec (k < length l) → ltb k (length l) ≡ ltb (suc k) (suc (length l))
    same (yes h) = lt-ltb k (length l) h ∙ sym (lt-ltb (suc k) (suc (length l)) (omega arith))
    same (no h) = le-ltb k (length l) (omega arith) ∙ sym (le-ltb (suc k) (suc (length l)) (omega arith))

pub all_brackets : (n c : ℕ) (l : List (List ℕ)) → length l ≡ c → and_more n no_brackets l ≡ record { count = c; ninth = cond (ltb max_fields c) (Some (n - length (get_or l max_fields []))) None }
all_brackets n c l e =
    let a : (and_more n no_brackets l).count ≡ c = more_count n no_brackets l ∙ omega arith in
    let b : (and_more n no_brackets l).ninth ≡ cond (ltb max_fields c) (Some (n - length (get_or l max_fields []))) None =
    ninth_from n no_brackets l max_fields refl ∙ ap (λ k. cond (ltb max_fields k) (Some (n - length (get_or l max_fields []))) None) e in
    λ t. record { count = a t; ninth = b t }
