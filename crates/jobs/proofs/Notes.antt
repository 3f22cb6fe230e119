-- The lines of a file that are noted so far: none at first, one more with each, and all or eight at the end.
-- Assumes nothing.
use Rattle.std.proofs.Common.{◌≡◌, ◌≢◌, refl, sym, ap, ◌∙◌, ℕ, suc, ◌+◌, ◌-◌, ◌≤◌, ◌<◌, List, [], ◌∷◌, length, get_or, set, drop, replicate, arith, length-drop, length-set, get_or-set_same, get_or-set_other}
use Rattle.std.proofs.lemmas.List.{get_or-replicate, drop_more}
use native.Mathlib.Decide.{dec_lt}
use Rattle.jobs.specs.declared.Job.{Job}
use Rattle.jobs.specs.Job.{lines_of, between, nowhere, place_at, pattern_at, JobOf}
use Rattle.jobs.proofs.Lines.{lines_some, lines_over}

-- The lines before a place are noted, at most eight; those from the place on are the file's further lines.
pub record Noted (file : List ℕ) (job : Job) (start : ℕ) : Type 0 where
  pub few : job.count ≤ 8
  pub size : length job.places ≡ 8
  pub some : job.count ≤ length (lines_of file)
  pub rest : drop job.count (lines_of file) ≡ lines_of (drop start file)
  pub patterns : (i : ℕ) → i < job.count → pattern_at file job i ≡ get_or (lines_of file) i []
  pub spare : (i : ℕ) → job.count ≤ i → i < 8 → place_at job i ≡ nowhere

-- One line more.
abbrev pub more : Job → ℕ → ℕ → Job
more job start end = record { count = job.count + 1; places = set job.places job.count (record { start = start; end = end }) }

pub noted_none : (file : List ℕ) → Noted file (record { count = 0; places = replicate 8 nowhere }) 0
noted_none file =
    record {
      few = omega arith;
      size = refl;
      some = omega arith;
      rest = refl;
      patterns = λ i h. absurd (omega arith);
      spare = λ i g h. get_or-replicate 8 i nowhere nowhere h;
    }

-- What a list has at a place and after it, by what is left there.
here_of : (L : List (List ℕ)) (n : ℕ) (x : List ℕ) (R : List (List ℕ)) → drop n L ≡ x ∷ R → (n < length L) × (get_or L n [] ≡ x) × (drop (n + 1) L ≡ R)
here_of L n x R e =
    let size : length L - n ≡ suc (length R) = sym (length-drop n L) ∙ ap length e in
    let inside : n < length L = omega arith in
    let cut : drop n L ≡ get_or L n [] ∷ drop (n + 1) L = drop_more L n [] inside in
    (inside, cc, cc)

module _ (file : List ℕ) (job : Job) (start end : ℕ) (t : Noted file job start) where
  -- The places of the patterns before stay.
  place_stays : (i : ℕ) → i ≢ job.count → place_at (more job start end) i ≡ place_at job i
  place_stays i n = get_or-set_other job.places job.count i _ nowhere n

  pattern_stays : (i : ℕ) → i ≢ job.count → pattern_at file (more job start end) i ≡ pattern_at file job i
  pattern_stays i n = ap (λ p. between p.start p.end file) (place_stays i n)

  pattern_new : job.count < 8 → pattern_at file (more job start end) job.count ≡ between start end file
  pattern_new h = ap (λ p. between p.start p.end file) (get_or-set_same job.places job.count _ nowhere (omega (arith, t.size)))

  pub noted_more : job.count < 8 → lines_of (drop start file) ≡ between start end file ∷ lines_of (drop (end + 1) file) → Noted file (more job start end) (end + 1)
  noted_more h e =
      let (inside, here, after) = here_of (lines_of file) job.count (between start end file) (lines_of (drop (end + 1) file)) (t.rest ∙ e) in
      record {
        few = omega arith;
        size = length-set job.places job.count _ ∙ t.size;
        some = omega arith;
        rest = after;
        patterns = λ i g. at i g here (dec_lt i job.count);
        spare = λ i g l. let n : i ≢ job.count = omega arith in place_stays i n ∙ t.spare i (omega arith) l;
      }
    where
      at : (i : ℕ) → i < job.count + 1 → get_or (lines_of file) job.count [] ≡ between start end file → Dec (i < job.count) → pattern_at file (more job start end) i ≡ get_or (lines_of file) i []
      at i g here (yes l) = let n : i ≢ job.count = omega arith in pattern_stays i n ∙ t.patterns i l
      at i g here (no l) = let q : i ≡ job.count = omega arith in rw q (pattern_new h ∙ sym here)

-- All lines are noted where the file is over,
pub noted_all : (file : List ℕ) (job : Job) (start : ℕ) → Noted file job start → length file ≤ start → JobOf file job
noted_all file job start t h =
    let none : length (lines_of file) - job.count ≡ 0 = sym (length-drop job.count (lines_of file)) ∙ ap length (t.rest ∙ lines_over file start h) in
    record { count = omega (arith, t.some, t.few); patterns = λ i g. t.patterns i (omega (arith, t.some)); spare = λ i g l. t.spare i (omega (arith, t.some)) l }

-- and of more than eight lines eight.
pub noted_eight : (file : List ℕ) (job : Job) (start : ℕ) → Noted file job start → job.count ≡ 8 → start < length file → JobOf file (more job start start)
noted_eight file job start t e h =
    let left : 0 < length (drop start file) = omega (arith, length-drop start file) in
    let one : 0 < length (drop job.count (lines_of file)) = rw t.rest (lines_some (drop start file) left) in
    let nine : 9 ≤ length (lines_of file) = omega (arith, length-drop job.count (lines_of file)) in
    record {
      count = omega arith;
      patterns = λ i g. let n : i ≢ job.count = omega arith in pattern_stays file job start start t i n ∙ t.patterns i (omega arith);
      spare = λ i g l. absurd (omega arith);
    }
