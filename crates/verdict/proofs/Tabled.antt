-- What is owed is what `Found` says.
-- Assumes nothing.
use mathlib.Core.Path.{◌≡◌, refl, sym, ap, ◌∙◌, subst}
use mathlib.Core.Logic.{◌↔◌}
use Prim.Native.Nat.{ℕ, ◌+◌, ◌≤◌, ◌<◌}
use mathlib.Core.List.{List, [], ◌∷◌, ◌++◌}
use mathlib.Core.Option.{Option, none, some}
use native.Mathlib.Omega.{arith}
use native.Mathlib.Decide.{dec_lt}
use lib.ListN.{length, take}
use lib.Seq.{get_or-take, length-take-le}
use lib.Dec.{T, ltb, ltb→lt, lt→ltb}
use Rattle.theory.specs.Pattern.{Re, Numbered}
use Rattle.theory.specs.Standing.{standing, is_witness}
use Rattle.theory.specs.Records.{at, Records, Needs, all_records, up_to_witness}
use Rattle.theory.specs.Code.Search.{Full, SearchEnd}
use Rattle.theory.proofs.Tests.{T_true, not_true, either}
use Rattle.grammar.specs.WriteOut.{write_out}
use Rattle.grammar.proofs.Loaded.{accepts_or_refuses}
use Rattle.grammar.proofs.Size.{write_out_numbered}
use Rattle.verdict.specs.Record.{Form, form_of}
use Rattle.verdict.specs.Table.{body, records_of, records, slots, onto}
use Rattle.verdict.specs.Tabled.{Result, unlike, refused, Whole, whole, Tabled, by_reader, by_records}
use Rattle.verdict.specs.Code.Found.{Found, not_read, same_cuts, first_witness, no_slot, no_room}
use Rattle.theory.proofs.Lines.{snoc_size, snoc_old}
use Rattle.verdict.proofs.OneEnd.{Shown, alike_of, unlike_of, full_of, show, same_outcome}
use Rattle.verdict.proofs.Tables.{number_at, origin_at_lem, records_of_same}
use Rattle.verdict.proofs.One.{result, table, witness, found_one}
use Rattle.verdict.proofs.Finite.{settled}

module _ (r : Re) where
  -- The first n records.
  module _ {L : List (List ℕ)} (a : Records (standing r) L) (n : ℕ) (h : n ≤ length L) where
    size : length (take n L) ≡ n
    size = length-take-le n L h

    old : (k : ℕ) → k < n → at (take n L) k ≡ at L k
    old k l = get_or-take n L k [] l

    pub first_records : Records (standing r) (take n L)
    first_records =
        record {
          bytes = λ k l. let i : k < n = omega (arith, size) in rw (old k i) (a.bytes k (omega arith));
          before = λ k l v b o.
              let i : k < n = omega (arith, size) in
              let (j, m, e) = a.before k (omega arith) v b (rw (old k i) at o) in
              (j, m, ap (standing r) (old j (omega arith)) ∙ e);
          fresh = λ j k o l e.
              let i : k < n = omega (arith, size) in
              a.fresh j k o (omega arith) (ap (standing r) (sym (old j (omega arith))) ∙ e ∙ ap (standing r) (old k i));
        }

    pub first_table : (f : Form) → records_of f (standing r) L (take n L) ≡ records f (standing r) (take n L)
    first_table f =
        records_of_same f r L (take n L) (take n L) λ k l.
        let (j, i, e) = origin_at_lem r first_records k l in
        let m : j < n = omega (arith, size) in
        number_at r a (standing r (body (at (take n L) k))) j (omega arith) (ap (standing r) (sym (old j m)) ∙ e)
        ∙ sym (number_at r first_records (standing r (body (at (take n L) k))) j (omega arith) e)

    -- There are more than n records if there are more lines.
    pub first_full : n < length L → ((k : ℕ) → k < n → T (is_witness (standing r (at L k))) → ⊥) → Full r (take n L)
    first_full l clean =
        record {
          records = first_records;
          none = λ k i t. let m : k < n = omega (arith, size) in clean k m (subst (λ x. T (is_witness (standing r x))) (old k m) t);
          more = (at L n, a.bytes n l, λ k i e. let m : k < n = omega (arith, size) in a.fresh k n m l (ap (standing r) (sym (old k m)) ∙ e));
        }

pub tabled_found : {loaded p t v : List ℕ} {s : Whole} → Tabled loaded p t v s → Found loaded p t v (result s) (table s) (witness s)
tabled_found (by_reader h) = not_read h refl refl refl
tabled_found {loaded} {p} {t} {v} (by_records {a = a} h (all_records {L = L} c)) =
    elim (dec_lt (slots (form_of (write_out loaded a)) (length t)) (length L)) [
      | yes l ↦ rw (T_true (ltb (slots (form_of (write_out loaded a)) (length t)) (length L)) (lt→ltb (slots (form_of (write_out loaded a)) (length t)) (length L) l))
          (no_slot h (first_full (write_out loaded a) c.records (slots (form_of (write_out loaded a)) (length t)) (omega arith) l (λ k i. c.none k (omega arith)))
          (length-take-le (slots (form_of (write_out loaded a)) (length t)) L (omega arith)) refl (ap (onto t) (first_table (write_out loaded a) c.records (slots (form_of (write_out loaded a)) (length t)) (omega arith) (form_of (write_out loaded a)))) refl)
      | no l ↦ rw (not_true (ltb (slots (form_of (write_out loaded a)) (length t)) (length L)) (λ x. l (ltb→lt (slots (form_of (write_out loaded a)) (length t)) (length L) x)))
          (same_cuts h c (omega arith) refl refl refl)
    ]
tabled_found {loaded} {p} {t} {v} (by_records {a = a} h (up_to_witness L w c)) =
    elim (dec_lt (slots (form_of (write_out loaded a)) (length t)) (length (L ++ (w ∷ [])))) [
      | yes l ↦ rw (T_true (ltb (slots (form_of (write_out loaded a)) (length t)) (length (L ++ (w ∷ [])))) (lt→ltb (slots (form_of (write_out loaded a)) (length t)) (length (L ++ (w ∷ []))) l))
          (no_slot h (first_full (write_out loaded a) c.records (slots (form_of (write_out loaded a)) (length t)) (omega arith) l (λ k i x. c.none k (omega (arith, snoc_size L w)) (subst (λ y. T (is_witness (standing (write_out loaded a) y))) (snoc_old L w k (omega (arith, snoc_size L w))) x)))
          (length-take-le (slots (form_of (write_out loaded a)) (length t)) (L ++ (w ∷ [])) (omega arith)) refl (ap (onto t) (first_table (write_out loaded a) c.records (slots (form_of (write_out loaded a)) (length t)) (omega arith) (form_of (write_out loaded a)))) refl)
      | no l ↦ rw (not_true (ltb (slots (form_of (write_out loaded a)) (length t)) (length (L ++ (w ∷ [])))) (λ x. l (ltb→lt (slots (form_of (write_out loaded a)) (length t)) (length (L ++ (w ∷ []))) x)))
          (elim (dec_lt (length v) (length w)) [
            | yes g ↦ rw (T_true (ltb (length v) (length w)) (lt→ltb (length v) (length w) g)) (no_room h c (omega (arith, snoc_size L w)) g refl refl refl)
            | no g ↦ rw (not_true (ltb (length v) (length w)) (λ x. g (ltb→lt (length v) (length w) x)))
                (first_witness h c (omega (arith, snoc_size L w)) (omega arith) (ap (λ n. unlike n (length w)) (snoc_size L w)) refl refl)
          ])
    ]

-- Something is owed for every input,
pub tabled_some : (loaded p t v : List ℕ) → (s : Whole) × Tabled loaded p t v s
tabled_some loaded p t v =
    either
    (λ h. let (a, k) = h in either (λ c. (_, by_records k (all_records c.1))) (λ c. (_, by_records k (up_to_witness c.0 c.1 c.2))) (settled (write_out loaded a) (write_out_numbered loaded a)))
    (λ h. let (n, q, k) = h in (whole (refused n q) t v, by_reader k))
    (accepts_or_refuses loaded p)

-- and one thing: what is right.
pub tabled_exactly : (loaded p t v : List ℕ) (x : Result) (t' v' : List ℕ) → Tabled loaded p t v (whole x t' v') ↔ Found loaded p t v x t' v'
tabled_exactly loaded p t v x t' v' = (λ h. tabled_found h, λ c. let (s, h) = tabled_some loaded p t v in subst (Tabled loaded p t v) (same s h c) h)
  where
    same : (s : Whole) → Tabled loaded p t v s → Found loaded p t v x t' v' → s ≡ whole x t' v'
    same (whole y t'' v'') h c = let (a, b, d) = found_one (tabled_found h) c in rw (a, b, d)

pub tabled_one : {loaded p t v : List ℕ} {s u : Whole} → Tabled loaded p t v s → Tabled loaded p t v u → s ≡ u
tabled_one {s = whole x t' v'} {u = whole y t'' v''} h k = let (a, b, d) = found_one (tabled_found h) (tabled_found k) in rw (a, b, d)

-- The records that a pattern needs are one list, with one witness or none.
lines_of : Shown → List (List ℕ)
lines_of (alike_of L) = L
lines_of (unlike_of L w) = L ++ (w ∷ [])
lines_of (full_of L) = L

witness_of : Shown → Option (List ℕ)
witness_of (alike_of L) = none
witness_of (unlike_of L w) = some w
witness_of (full_of L) = none

outcome : (r : Re) {L : List (List ℕ)} {w : Option (List ℕ)} (n : ℕ) → length L ≤ n → Needs (standing r) L w → SearchEnd r n
outcome r n h (all_records {L = L} a) = SearchEnd.alike L h a
outcome r n h (up_to_witness L w a) = SearchEnd.unlike L w (omega (arith, snoc_size L w)) a

outcome_shows : (r : Re) {L : List (List ℕ)} {w : Option (List ℕ)} (n : ℕ) (h : length L ≤ n) (x : Needs (standing r) L w) → (lines_of (show (outcome r n h x)) ≡ L) × (witness_of (show (outcome r n h x)) ≡ w)
unfolding lines_of witness_of outcome
outcome_shows r n h (all_records a) = (refl, refl)
outcome_shows r n h (up_to_witness L w a) = (refl, refl)

pub needs_one : (r : Re) {L M : List (List ℕ)} {w u : Option (List ℕ)} → Numbered 0 r → Needs (standing r) L w → Needs (standing r) M u → (L ≡ M) × (w ≡ u)
needs_one r {L} {M} d x y =
    let n = length L + length M in
    let h : length L ≤ n = omega arith in
    let g : length M ≤ n = omega arith in
    let e = same_outcome r d (outcome r n h x) (outcome r n g y) in
    (sym (outcome_shows r n h x).0 ∙ ap lines_of e ∙ (outcome_shows r n g y).0, sym (outcome_shows r n h x).1 ∙ ap witness_of e ∙ (outcome_shows r n g y).1)

pub needs_some : (r : Re) → Numbered 0 r → (L : List (List ℕ)) × (w : Option (List ℕ)) × Needs (standing r) L w
needs_some r d = either (λ c. (c.0, none, all_records c.1)) (λ c. (c.0 ++ (c.1 ∷ []), some c.1, up_to_witness c.0 c.1 c.2)) (settled r d)
