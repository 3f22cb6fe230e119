-- The pass gives the most preferred way, with the starts and ends of its fields.
-- Assumes nothing.
use mathlib.Core.Path.{◌≡◌, refl, sym, ap, ap₂, ◌∙◌}
use Prim.Native.Nat.{ℕ, suc, ◌≤◌}
use mathlib.Core.Bool.{Bool, true, false, ◌||◌, cond, true≢false}
use mathlib.Core.List.{List, [], ◌∷◌, ◌++◌}
use mathlib.Core.Option.{Option, none, some, map}
use native.Mathlib.Omega.{arith}
use lib.ListN.{length, drop}
use lib.Dec.{T, eqb, eqb→eq, eqb-zero-suc}
use Rattle.theory.specs.Pattern.{Re, has, Numbered}
use Rattle.theory.specs.Outcomes.{when}
use Rattle.theory.specs.Standing.{member}
use Rattle.theory.proofs.Tests.{true_T, or_cases, either}
use Rattle.theory.proofs.Members.{member_append}
use Rattle.traces.specs.Traces.{Mark, opened, closed, Trace, Carried, ends_at, wants, end, replace, carried, traced}
use Rattle.traces.specs.Fields.{first_way, last_opened, last_closed, field_along}
use Rattle.traces.specs.Code.Rows.{start, follow, after, runs}
use Rattle.traces.specs.Code.Pass.{Values, unset, set, Sets, neither, note, stamp, mapped, firsts, first_row, row, stamped, Thread, fronts, moved, or_else, pass, pass_from, field_by}
use Rattle.traces.proofs.Head.{head}
use Rattle.traces.proofs.Natural.{natural_start, natural_follow, natural_after, natural_runs, mapped_firsts}

-- `or_else`.
abbrev is_some : {A : Type 0} → Option A → Bool
is_some none = false
is_some (some a) = true

or_else_assoc : {A : Type 0} (a b c : Option A) → or_else (or_else a b) c ≡ or_else a (or_else b c)
or_else_assoc none b c = refl
or_else_assoc (some x) b c = refl

-- The first end of a list whose wanted leaves lead to g, and that of a list of threads.
module _ {C : Type 0} where
  abbrev first_by : (ℕ → C → Option (ℕ × C)) → List (Carried C) → Option (ℕ × C)
  first_by g [] = none
  first_by g (ends_at k v ∷ l) = some (k, v)
  first_by g (wants p v ∷ l) = or_else (g p v) (first_by g l)

  abbrev first_of : (ℕ → C → Option (ℕ × C)) → List (ℕ × C) → Option (ℕ × C)
  first_of g [] = none
  first_of g (t ∷ l) = or_else (g t.0 t.1) (first_of g l)

  abbrev nothing : ℕ → C → Option (ℕ × C)
  nothing p v = none

  pub way_append : (l m : List (Carried C)) → first_way (l ++ m) ≡ or_else (first_way l) (first_way m)
  way_append [] m = refl
  way_append (ends_at k v ∷ l) m = refl
  way_append (wants p v ∷ l) m = way_append l m

  by_append : (g : ℕ → C → Option (ℕ × C)) (l m : List (Carried C)) → first_by g (l ++ m) ≡ or_else (first_by g l) (first_by g m)
  by_append g [] m = refl
  by_append g (ends_at k v ∷ l) m = refl
  by_append g (wants p v ∷ l) m = rw (by_append g l m) (sym (or_else_assoc (g p v) (first_by g l) (first_by g m)))

  by_nothing : (l : List (Carried C)) → first_by nothing l ≡ first_way l
  by_nothing [] = refl
  by_nothing (ends_at k v ∷ l) = refl
  by_nothing (wants p v ∷ l) = by_nothing l

  of_nothing : (l : List (ℕ × C)) → first_of nothing l ≡ none
  of_nothing [] = refl
  of_nothing (t ∷ l) = of_nothing l

  way_replace : (g : ℕ → C → List (Carried C)) (l : List (Carried C)) → first_way (replace end g l) ≡ first_by (λ p v. first_way (g p v)) l
  way_replace g [] = refl
  way_replace g (ends_at k v ∷ l) = refl
  way_replace g (wants p v ∷ l) = way_append (g p v) (replace end g l) ∙ ap (or_else (first_way (g p v))) (way_replace g l)

  -- What stands behind the first end counts for nothing.
  by_fronts : (g : ℕ → C → Option (ℕ × C)) (l : List (Carried C)) → first_by g l ≡ or_else (first_of g (fronts l)) (first_way l)
  by_fronts g [] = refl
  by_fronts g (ends_at k v ∷ l) = refl
  by_fronts g (wants p v ∷ l) = rw (by_fronts g l) (sym (or_else_assoc (g p v) (first_of g (fronts l)) (first_way l)))

  -- Whether a leaf leads to an end does not depend on what it carries.
  abbrev Steady : (ℕ → C → Option (ℕ × C)) → Type 0
  Steady g = (p : ℕ) (v u : C) → is_some (g p v) ≡ is_some (g p u)

  steady_none : (a b : Option (ℕ × C)) → is_some a ≡ is_some b → a ≡ none → b ≡ none
  steady_none a none s e = refl
  steady_none a (some x) s e = absurd (true≢false (sym s ∙ ap is_some e))

  -- So an outcome that was there before adds nothing.
  by_firsts : (g : ℕ → C → Option (ℕ × C)) → Steady g → (seen : List ℕ) (l : List (Carried C))
      → member 0 seen ≡ false → ((p : ℕ) (v : C) → T (member (suc p) seen) → g p v ≡ none) → first_by g (firsts seen l) ≡ first_by g l
  by_firsts g s seen [] a b = refl
  by_firsts g s seen (ends_at k v ∷ l) a b = rw a
  by_firsts g s seen (wants p v ∷ l) a b = go (member (suc p) seen) refl (by_firsts g s seen l a b) (g p v) refl (by_firsts g s (seen ++ (suc p ∷ [])) l)
    where
      more : g p v ≡ none → (q : ℕ) (u : C) → T (member (suc q) (seen ++ (suc p ∷ []))) → g q u ≡ none
      more e q u t =
          either (λ m. b q u m)
          (λ m. either (λ i. let same : q ≡ p = omega (arith, eqb→eq (suc q) (suc p) i) in rw same (steady_none (g p v) (g p u) (s p v u) e)) (λ i. absurd i) (or_cases (eqb (suc q) (suc p)) false m))
          (or_cases (member (suc q) seen) (member (suc q) (suc p ∷ [])) (rw member_append at t))

      fresh : member 0 (seen ++ (suc p ∷ [])) ≡ false
      fresh = rw (member_append, a, eqb-zero-suc)

      go : (c : Bool) → member (suc p) seen ≡ c → first_by g (firsts seen l) ≡ first_by g l → (o : Option (ℕ × C)) → g p v ≡ o
          → (member 0 (seen ++ (suc p ∷ [])) ≡ false → ((q : ℕ) (u : C) → T (member (suc q) (seen ++ (suc p ∷ []))) → g q u ≡ none) → first_by g (firsts (seen ++ (suc p ∷ [])) l) ≡ first_by g l)
          → first_by g (cond c (firsts seen l) (wants p v ∷ firsts (seen ++ (suc p ∷ [])) l)) ≡ or_else (g p v) (first_by g l)
      go true m x o e y = rw (b p v (true_T (member (suc p) seen) m)) x
      go false m x none e y = ap (or_else (g p v)) (y fresh (more e))
      go false m x (some z) e y = rw e

  firsts_by : (g : ℕ → C → Option (ℕ × C)) → Steady g → (l : List (Carried C)) → first_by g (firsts [] l) ≡ first_by g l
  firsts_by g s l = by_firsts g s [] l refl (λ p v t. absurd t)

  firsts_way : (l : List (Carried C)) → first_way (firsts [] l) ≡ first_way l
  firsts_way l = sym (by_nothing (firsts [] l)) ∙ firsts_by nothing (λ p v u. refl) l ∙ by_nothing l

  -- The threads and the first end are all that counts of a list.
  by_threads : (g : ℕ → C → Option (ℕ × C)) → Steady g → (l : List (Carried C)) → first_by g l ≡ or_else (first_of g (fronts (firsts [] l))) (first_way l)
  by_threads g s l = sym (firsts_by g s l) ∙ by_fronts g (firsts [] l) ∙ ap (or_else (first_of g (fronts (firsts [] l)))) (firsts_way l)

module _ {C D : Type 0} (π : ℕ → ℕ) (h : C → D) where
  mapped_way : (l : List (Carried C)) → first_way (mapped π h l) ≡ map (λ t. (π t.0, h t.1)) (first_way l)
  mapped_way [] = refl
  mapped_way (ends_at k v ∷ l) = refl
  mapped_way (wants p v ∷ l) = mapped_way l

  mapped_ends : (l : List (Carried C)) → is_some (first_way (mapped π h l)) ≡ is_some (first_way l)
  mapped_ends [] = refl
  mapped_ends (ends_at k v ∷ l) = refl
  mapped_ends (wants p v ∷ l) = mapped_ends l

-- The rows' sets, stamped, are the marks one by one: what is put at one place may come in any order.
module _ (n : ℕ) (v : Values) where
  cond_or : (a b : Bool) (x y : Option ℕ) → cond (a || b) x y ≡ cond a x (cond b x y)
  cond_or true b x y = refl
  cond_or false b x y = refl

  stamp_opens : (f k : ℕ) (s : Sets) → stamp n v (note (opened f k) s) ≡ set (opened f n) (stamp n v s)
  stamp_opens f k s = λ j. record { starts = λ g. cond_or (eqb g f) (member g s.opens) (some n) (v.starts g) j; ends = λ g. cond (member g s.closes) (some n) (v.ends g) }

  stamp_closes : (f k : ℕ) (s : Sets) → stamp n v (note (closed f k) s) ≡ set (closed f n) (stamp n v s)
  stamp_closes f k s = λ j. record { starts = λ g. cond (member g s.opens) (some n) (v.starts g); ends = λ g. cond_or (eqb g f) (member g s.closes) (some n) (v.ends g) j }

  row_start : (r : Re) → stamped n v (first_row r) ≡ firsts [] (start set r n v)
  unfolding first_row
  row_start r = mapped_firsts (λ k. n) (stamp n v) [] (start note r 0 neither) ∙ ap (firsts []) (natural_start (λ k. n) (stamp n v) note set stamp_opens stamp_closes r 0 neither)

  row_follow : (r : Re) (p : ℕ) → stamped n v (row r p) ≡ firsts [] (follow set r p n v)
  unfolding row
  row_follow r p = mapped_firsts (λ k. n) (stamp n v) [] (follow note r p 0 neither) ∙ ap (firsts []) (natural_follow (λ k. n) (stamp n v) note set stamp_opens stamp_closes r p 0 neither)

abbrev no_mark : Mark → Unit {0} → Unit {0}
no_mark m t = t

abbrev forgotten : Values → Unit {0}
forgotten v = tt

-- What a wanted leaf leads to on the rest of the line.
module _ (r : Re) where
  abbrev result : List ℕ → ℕ → ℕ → Values → Option Thread
  result [] n p v = none
  result (b ∷ rest) n p v = first_way (runs set r (after set r b p (suc n) v) rest (suc n))

  result_runs : (rest : List ℕ) (l : List (Carried Values)) (n : ℕ) → first_way (runs set r l rest n) ≡ first_by (result rest n) l
  unfolding runs
  result_runs [] l n = sym (by_nothing l)
  result_runs (b ∷ rest) l n = way_replace (λ p v. runs set r (after set r b p (suc n) v) rest (suc n)) l

  result_steady : (rest : List ℕ) (n : ℕ) → Steady (result rest n)
  result_steady [] n p v u = refl
  result_steady (b ∷ rest) n p v u = to_bare v ∙ sym (to_bare u)
    where
      to_bare : (v : Values) → is_some (first_way (runs set r (after set r b p (suc n) v) rest (suc n))) ≡ is_some (first_way (runs no_mark r (after no_mark r b p (suc n) (tt {0})) rest (suc n)))
      to_bare v =
          sym (mapped_ends (λ k. k) forgotten (runs set r (after set r b p (suc n) v) rest (suc n)))
          ∙ ap (λ l. is_some (first_way l))
          (natural_runs forgotten set no_mark (λ m v. refl) r rest (after set r b p (suc n) v) (suc n)
          ∙ ap (λ l. runs no_mark r l rest (suc n)) (natural_after (λ k. k) forgotten set no_mark (λ f k v. refl) (λ f k v. refl) r b p (suc n) v))

  when_by : (g : ℕ → Values → Option Thread) → Steady g → (c : Bool) (l m : List (Carried Values)) → m ≡ firsts [] l → first_by g (when c m) ≡ first_by g (when c l)
  when_by g s true l m e = ap (first_by g) e ∙ firsts_by g s l
  when_by g s false l m e = refl

  moved_by : (g : ℕ → Values → Option Thread) → Steady g → (b n : ℕ) (l : List Thread) → first_by g (moved r b n l) ≡ first_of (λ p v. first_by g (after set r b p n v)) l
  moved_by g s b n [] = refl
  moved_by g s b n (t ∷ l) =
      by_append g (when (has r t.0 b) (stamped n t.1 (row r t.0))) (moved r b n l)
      ∙ ap₂ or_else (when_by g s (has r t.0 b) (follow set r t.0 n t.1) (stamped n t.1 (row r t.0)) (row_follow n t.1 r t.0)) (moved_by g s b n l)

  of_same : (f g : ℕ → Values → Option Thread) → ((p : ℕ) (v : Values) → f p v ≡ g p v) → (l : List Thread) → first_of f l ≡ first_of g l
  of_same f g e l = λ j. first_of (λ p v. e p v j) l

  -- The pass: the first end of what the threads lead to, or else `best`.
  pub pass_right : (rest : List ℕ) (l : List Thread) (n : ℕ) (best : Option Thread) → pass r rest l n best ≡ or_else (first_of (result rest n) l) best
  unfolding pass
  pass_right [] l n best = rw of_nothing
  pass_right (b ∷ rest) l n best =
      let m = moved r b (suc n) l in
      pass_right rest (fronts (firsts [] m)) (suc n) (or_else (first_way m) best)
      ∙ sym (or_else_assoc (first_of (result rest (suc n)) (fronts (firsts [] m))) (first_way m) best)
      ∙ ap (λ o. or_else o best)
      (sym (by_threads (result rest (suc n)) (result_steady rest (suc n)) m)
      ∙ moved_by (result rest (suc n)) (result_steady rest (suc n)) b (suc n) l
      ∙ of_same _ _ (λ p v. sym (result_runs rest (after set r b p (suc n) v) (suc n))) l)

-- The values that a trace gives.
abbrev pub values_of : Trace → Values
values_of t = record { starts = λ f. last_opened f t; ends = λ f. last_closed f t }

abbrev add : Mark → Trace → Trace
add m t = m ∷ t

values_marks : (m : Mark) (t : Trace) → values_of (add m t) ≡ set m (values_of t)
values_marks (opened f i) t = refl
values_marks (closed f i) t = refl

module _ (r : Re) (d : Numbered 0 r) (w : List ℕ) (i : ℕ) (h : i ≤ length w) where
  pass_carried : pass_from r w i ≡ first_way (carried set r w i unset)
  unfolding pass_from
  pass_carried =
      let l = stamped i unset (first_row r) in
      pass_right r (drop i w) (fronts l) i (first_way l)
      ∙ sym (by_fronts (result r (drop i w) i) l)
      ∙ ap (first_by (result r (drop i w) i)) (row_start i unset r)
      ∙ firsts_by (result r (drop i w) i) (result_steady r (drop i w) i) (start set r i unset)
      ∙ sym (result_runs r (drop i w) (start set r i unset) i)
      ∙ ap first_way (sym (head set r d unset w i h))

  -- The thread that ended last is the most preferred way, with the values that its trace gives.
  pub pass_traced : pass_from r w i ≡ map (λ way. (way.0, values_of way.1)) (first_way (traced r w i))
  pass_traced =
      pass_carried
      ∙ ap first_way
      (head set r d unset w i h
      ∙ ap (λ l. runs set r l (drop i w) i) (sym (natural_start (λ k. k) values_of add set (λ f k. values_marks (opened f k)) (λ f k. values_marks (closed f k)) r i []))
      ∙ sym (natural_runs values_of add set values_marks r (drop i w) (start add r i []) i)
      ∙ ap (mapped (λ k. k) values_of) (sym (head add r d [] w i h)))
      ∙ mapped_way (λ k. k) values_of (traced r w i)

  -- Its fields are the fields along the most preferred way.
  pub pass_fields : (f : ℕ) → field_by f (pass_from r w i) ≡ field_along f (first_way (traced r w i))
  pass_fields f = ap (field_by f) pass_traced ∙ go (first_way (traced r w i))
    where
      go : (o : Option (ℕ × Trace)) → field_by f (map (λ way. (way.0, values_of way.1)) o) ≡ field_along f o
      go none = refl
      go (some way) = refl
