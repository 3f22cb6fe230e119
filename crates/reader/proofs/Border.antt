-- What the reader hands over is right: from what was found from the pattern's start.
-- Assumes nothing.
use mathlib.Core.Path.{◌≡◌, refl, sym, ap, ◌∙◌, subst}
use Prim.Native.Nat.{ℕ, ◌+◌, ◌-◌, ◌≤◌, ◌<◌}
use mathlib.Core.Bool.{cond}
use mathlib.Core.List.{List, [], ◌∷◌, map}
use native.Mathlib.Omega.{arith}
use lib.ListN.{length, get_or, take, drop, replicate, length-replicate, length-drop, length-map}
use lib.Seq.{take_all}
use lib.Dec.{ltb, ltb→lt, lt→ltb}
use Rattle.theory.proofs.Tests.{T_true, not_true}
use Rattle.theory.proofs.Numbering.{number_count}
use Rattle.grammar.specs.Grammar.{alternation}
use Rattle.grammar.specs.Limits.{max_weight, heaviest, Reads}
use Rattle.grammar.specs.Brackets.{brackets, openings, max_fields, ninth}
use Rattle.grammar.specs.Sets.{in_named}
use Rattle.grammar.specs.WriteOut.{shape, write_out}
use Rattle.grammar.specs.Before.{Before, start, text}
use Rattle.grammar.specs.Refusals.{Fault, too_long, wrong, too_heavy, unopened}
use Rattle.grammar.specs.Loaded.{Passes, Fails, by_sets, by_pattern}
use Rattle.grammar.specs.Code.Codes.{token_of}
use Rattle.grammar.proofs.Size.{weight_heaviest, leaves_64, nodes_within, number_nodes}
use Rattle.grammar.proofs.Tokens.{tokens_length}
use Rattle.grammar.proofs.Unique.{after_alternation, text_alternation}
use Rattle.grammar.proofs.Place.{text_length, alternation_formed, opens_alternation}
use Rattle.tokens.specs.Held.{HoldsCodes}
use Rattle.arrays.specs.declared.Codes.{Codes}
use Rattle.arrays.specs.declared.Pattern.{Pattern}
use Rattle.arrays.specs.Finished.{Finished}
use Rattle.arrays.specs.Finished as Arrays
use Rattle.lengths.specs.Lengths.{lengths}
use Rattle.lengths.specs.Code.{meaning}
use Rattle.lengths.proofs.Accepted.{counted_whole}
use Rattle.reader.specs.declared.size.Size.{Size}
use Rattle.std.specs.Prelude.{Some, None, Result, Ok, Err}
use Rattle.reader.specs.declared.Found.{Found}
use Rattle.reader.specs.declared.refusal.Refusal.{Refusal}
use Rattle.reader.specs.declared.refusal.Fault.{Fault as RefusalFault}
use Rattle.reader.specs.declared.refusal.Fault.TheVariants.{TooLong, StrayByte, TooHeavy, FaultySets}
use Rattle.reader.specs.declared.Brackets.{Brackets}
use Rattle.reader.specs.declared.Text.{Text}
use Rattle.reader.specs.Reading.{brackets_due, WithinRead, fault, tree, TextRead, refusal, within, ReadRight, reads, refuses}
use Rattle.reader.specs.Steps.{no_brackets, and_more, Weighs, light, heavy, Alternated}
use Rattle.grammar.proofs.Openings.{openings_count}
use Rattle.reader.proofs.Passed.{all_brackets}
use Rattle.reader.proofs.Begins.{byte_drop, drop_all}

-- The array before anything is written.
pub holds_none : HoldsCodes (replicate 2815 0) 0 []
holds_none = record { size = length-replicate {A = ℕ} 2815 0; used = refl; same = refl }

module _ {p a b : List ℕ} {n m e : ℕ} {c : Size} (short : length p ≤ 255) {g : Brackets} (t : Alternated p 0 0 e c a n b m no_brackets g) where
  -- It ends before a `)` that has no `(`,
  pub found_close : e < length p → Fault p 2 e
  found_close h =
      let o : Before = after_alternation start t.t in
      let s : text o (drop e p) ≡ p = text_alternation t.t start (drop e p) ∙ t.text in
      let g : drop e p ≡ 41 ∷ drop (e + 1) p = byte_drop p e 41 h (t.end h) in
      wrong short o (41 ∷ drop (e + 1) p) (alternation_formed t.t start tt t.formed t.shallow) (rw (← g) s)
      (unopened (drop (e + 1) p) (opens_alternation t.t start))
      (omega (arith, text_length o (drop e p), ap length s, length-drop e p))

  -- or is the pattern: too heavy,
  module _ (all : length p ≤ e) where
    at_end : e ≡ length p
    at_end = omega (arith, t.inside)

    whole_text : alternation t.t [] ≡ p
    whole_text = ap (alternation t.t) (sym (drop_all p e at_end)) ∙ t.text

    too_heavy_lem : {w : ℕ} → Weighs c.weight w (heaviest t.t) → w ≤ heaviest t.t → 64 < c.weight → 64 < heaviest t.t
    too_heavy_lem (light x y z) k h = absurd (omega arith)
    too_heavy_lem (heavy x y) k h = omega arith

    pub found_heavy : 64 < c.weight → Fault p 8 e
    found_heavy h =
        too_heavy short t.t t.formed (omega (arith, t.shallow)) whole_text (too_heavy_lem t.size.load (weight_heaviest t.t) h) refl at_end

    not_heavy : {w : ℕ} → Weighs c.weight w (heaviest t.t) → c.weight ≤ 64 → heaviest t.t ≤ 64
    not_heavy (light x y z) h = z
    not_heavy (heavy x y) h = absurd (omega arith)

    -- or within the limits.
    pub found_tree : c.weight ≤ 64 → Reads p t.t
    found_tree h = record { text = whole_text; formed = t.formed; short = short; shallow = omega (arith, t.shallow); light = not_heavy t.size.load h }

    -- Its codes all fit, so the arrays made of them are the written-out pattern.
    pub found_written : c.weight ≤ 64 → a ≡ replicate 2815 0 → n ≡ 0 → (loaded : List ℕ) (x : Pattern) → Finished loaded p (take m b) x → Arrays.HoldsPattern x (write_out loaded t.t)
    unfolding write_out
    found_written h z y loaded x f =
        let r = found_tree h in
        let holds : HoldsCodes b m t.wrote.codes = t.wrote.holds [] (rw (z, y) holds_none) in
        let size : length t.wrote.codes ≤ 2815 =
        omega (arith, sym (length-map t.wrote.codes (token_of loaded p)) ∙ ap length (t.wrote.are loaded) ∙ tokens_length (shape (in_named loaded) t.t 0), number_nodes 0 (shape (in_named loaded) t.t 0), nodes_within loaded p t.t r) in
        let codes : take m b ≡ t.wrote.codes = holds.same ∙ take_all 2815 t.wrote.codes size in
        f (shape (in_named loaded) t.t 0) (ap (map (token_of loaded p)) codes ∙ t.wrote.are loaded) (omega (arith, number_count 0 (shape (in_named loaded) t.t 0), leaves_64 loaded p t.t r))

    -- Its brackets are all that were passed.
    pub found_brackets : c.weight ≤ 64 → g ≡ brackets_due t.t
    unfolding ninth
    found_brackets h =
        let d : drop e p ≡ [] = drop_all p e at_end in
        let n : length p ≡ length (alternation t.t []) = ap length (sym whole_text) in
        t.passed.are ∙ ap (λ s. and_more (length p) no_brackets (openings t.t s)) d ∙ all_brackets (length p) (brackets t.t) (openings t.t []) (openings_count t.t [])
        ∙ ap (λ k. record { count = brackets t.t; ninth = cond (ltb max_fields (brackets t.t)) (Some (k - length (get_or (openings t.t []) max_fields []))) None }) n

    -- Its lengths are within the limit of its weight, so they were counted whole.
    pub found_lengths : c.weight ≤ 64 → meaning c.lengths ≡ lengths t.t
    found_lengths h = t.size.lengths ∙ counted_whole p t.t (found_tree h)

-- The text is found to have a fault, or a tree.
module _ {p : List ℕ} (short : length p ≤ 255) {k : Codes} {x : Found} {g : Brackets} (t : Alternated p 0 0 x.at x.size (replicate 2815 0) 0 k.items k.len no_brackets g) where
  pub within_close : x.at < length p → WithinRead p k (Err (record { fault = StrayByte; place = x.at }))
  within_close h = fault (found_close short t h)

  pub within_heavy : length p ≤ x.at → 64 < x.size.weight → WithinRead p k (Err (record { fault = TooHeavy; place = x.at }))
  within_heavy n h = fault (found_heavy short t n h)

  pub within_tree : length p ≤ x.at → x.size.weight ≤ 64 → WithinRead p k (Ok (record { brackets = g; lengths = x.size.lengths }))
  within_tree n h = tree (found_tree short t n h) (found_brackets short t n h) (found_lengths short t n h) (found_written short t n h refl refl)

pub text_faulty : {loaded p : List ℕ} {k : Codes} {q : ℕ} → Fails loaded q → TextRead loaded p k (Err (record { fault = FaultySets; place = q }))
text_faulty f = refusal (by_sets f)

pub text_long : {loaded p : List ℕ} {k : Codes} → Passes loaded → 255 < length p → TextRead loaded p k (Err (record { fault = TooLong; place = 255 }))
text_long sets h = refusal (by_pattern sets (too_long h refl refl))

-- What is handed over is right: a refusal,
pub read_refused : {loaded p : List ℕ} {k : Codes} {e : Refusal} → TextRead loaded p k (Err e) → ReadRight loaded p (Err e)
read_refused (refusal f) = refuses f
read_refused (within sets (fault f)) = refuses (by_pattern sets f)

-- and what was made for an accepted pattern.
pub read_accepted : {loaded p : List ℕ} {k : Codes} {x : Text} (y : Pattern) → TextRead loaded p k (Ok x) → Finished loaded p (take k.len k.items) y
    → ReadRight loaded p (Ok (record { pattern = y; brackets = x.brackets; lengths = x.lengths }))
read_accepted {loaded} y (within sets (tree r g h w)) made =
    let holds = w loaded y made in
    reads (record { sets = sets; reads = r }) holds.decodes (record { holds = subst (Arrays.HoldsPattern y) (sym holds.decodes) holds; counted = g; measured = h })

-- The refusal for that fault at that place.
abbrev pub refused_at : RefusalFault → ℕ → Result Found Refusal
refused_at f q = Err (record { fault = f; place = q })

-- The answer to a pattern of n bytes by what was found from its start: a `)` where the alternation ends has no `(`.
abbrev pub answer_by : ℕ → Result Found Refusal → Result Found Refusal
answer_by n (Err e) = Err e
answer_by n (Ok x) = cond (ltb x.at n) (refused_at StrayByte x.at) (cond (ltb max_weight x.size.weight) (refused_at TooHeavy x.at) (Ok x))

pub answer_refused : {f : RefusalFault} {q : ℕ} (n : ℕ) (part : Result Found Refusal) → part ≡ refused_at f q → refused_at f q ≡ answer_by n part
answer_refused n part e = rw e refl

pub answer_close : {x : Found} (n : ℕ) (part : Result Found Refusal) → part ≡ Ok x → x.at < n → refused_at StrayByte x.at ≡ answer_by n part
answer_close {x} n part q h = rw (q, T_true (ltb x.at n) (lt→ltb x.at n h)) refl

pub answer_heavy : {x : Found} (n : ℕ) (part : Result Found Refusal) → part ≡ Ok x → n ≤ x.at → 64 < x.size.weight → refused_at TooHeavy x.at ≡ answer_by n part
answer_heavy {x} n part q h w = rw (q, not_true (ltb x.at n) (λ t. omega (arith, ltb→lt x.at n t)), T_true (ltb 64 x.size.weight) (lt→ltb 64 x.size.weight w)) refl

pub answer_accepted : {x : Found} (n : ℕ) (part : Result Found Refusal) → part ≡ Ok x → n ≤ x.at → x.size.weight ≤ 64 → Ok x ≡ answer_by n part
answer_accepted {x} n part q h w = rw (q, not_true (ltb x.at n) (λ t. omega (arith, ltb→lt x.at n t)), not_true (ltb 64 x.size.weight) (λ t. omega (arith, ltb→lt 64 x.size.weight t))) refl
