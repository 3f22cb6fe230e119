-- The starred reference lines hold, by computation.
-- Assumes nothing.
use mathlib.Core.Path.{◌≡◌, refl, sym, ap, ap₂, ◌∙◌, subst}
use mathlib.Core.Logic.{◌↔◌}
use Prim.Native.Nat.{ℕ, suc, ◌≤◌}
use mathlib.Core.Bool.{Bool, true, false, not, cond, true≢false}
use mathlib.Core.List.{List, [], ◌∷◌, ◌++◌, map}
use native.Mathlib.Omega.{arith}
use native.Mathlib.Decide.{dec_lt, dec_le, ℕ_discrete}
use lib.ListN.{length}
use lib.Dec.{T, ltb}
use Rattle.theory.specs.Pattern.{Re, has, count, number}
use Rattle.theory.specs.Outcomes.{empty_turn, then_leave, outcomes, star_outcomes}
use Rattle.theory.specs.Code.Follow.{start, follow}
use Rattle.theory.specs.Standing.{standing}
use Rattle.theory.specs.Code.Next.{next}
use Rattle.theory.specs.Spans.{nowhere, greedy, posix}
use Rattle.theory.proofs.Run.{check, run, seek, standing_dec, list_dec, stands_add}
use Rattle.theory.proofs.Tests.{T_true, true_T}
use Rattle.extends.specs.Extends.{NoneExtends}
use Rattle.extends.specs.Code.Worklist.{work, search}
use Rattle.extends.specs.Code.Test.{takes, share, rounds, pairs, fails}
use Rattle.extends.proofs.Test.{test_exactly}
use Rattle.grammar.specs.Grammar.{Alternation, kind, inside}
use Rattle.grammar.specs.Limits.{heaviest, weight}
use Rattle.grammar.specs.Sets.{set_table}
use Rattle.grammar.specs.Refusals.{Answer, accepted, refused}
use Rattle.grammar.specs.Loaded.{Accepts, Answers}
use Rattle.grammar.specs.Code.Reader.{read, loop, read_items}
use Rattle.grammar.specs.WriteOut.{write_out, bracketed, shape, chain, optional}
use Rattle.grammar.proofs.Sound.{read_right}
use Rattle.grammar.proofs.Loaded.{answered, fixed_answers, fixed_read}
use Rattle.grammar.proofs.Size.{write_out_numbered}
use Rattle.verdict.specs.Bits.{bits, pack}
use Rattle.verdict.specs.Record.{form_of, record_bits, record_bytes}
use Rattle.verdict.specs.Table.{same, number_of, records_of, records, slots, onto}
use Rattle.verdict.specs.Tabled.{Whole, whole, Result, alike, unlike, refused as refuse, Tabled}
use Rattle.verdict.specs.Area.{area_bytes, cleared}
use Rattle.verdict.specs.Checked.{Checked, by_test, by_table}
use Rattle.verdict.specs.Starred.{Row, cuts, checks, RowHolds, All, starred}
use Rattle.verdict.proofs.OneEnd.{Shown, alike_of, unlike_of, full_of, show}
use Rattle.verdict.proofs.Tabled.{tabled_exactly}
use Rattle.verdict.proofs.One.{answer, searched, read_answer, found, found_exactly}

-- A row with what the definitions compute.
abbrev cut_row : List ℕ → List ℕ → Answer → Row
cut_row p w (accepted a) = cuts p w (greedy (write_out set_table a) w) (posix (write_out set_table a) w)
cut_row p w (refused n q) = checks [] 0 0 (refuse 0 0) [] []

abbrev shown_row : List ℕ → ℕ → ℕ → Re → Shown → Row
shown_row p n m r (alike_of L) = checks p n m (alike (length L)) (records (form_of r) (standing r) L) []
shown_row p n m r (unlike_of L w) =
    cond (ltb m (length w))
    (checks p n m (refuse 11 0) (records (form_of r) (standing r) (L ++ (w ∷ []))) [])
    (checks p n m (unlike (suc (length L)) (length w)) (records (form_of r) (standing r) (L ++ (w ∷ []))) w)
shown_row p n m r (full_of L) = checks p n m (refuse 10 0) (records (form_of r) (standing r) L) []

abbrev table_row : List ℕ → ℕ → ℕ → Answer → Row
table_row p n m (accepted a) = shown_row p n m (write_out set_table a) (show (check (write_out set_table a) (write_out_numbered set_table a) (slots (form_of (write_out set_table a)) n)))
table_row p n m (refused k q) = checks p n m (refuse k q) [] []

-- The test of as many pairs as the pattern has.
abbrev passes : Alternation → Bool
passes a = not (fails (write_out set_table a) (count (write_out set_table a)))

abbrev check_row : List ℕ → ℕ → ℕ → Answer → Row
check_row p n m (accepted a) = cond (passes a) (checks p n m (alike 0) [] []) (table_row p n m (accepted a))
check_row p n m (refused k q) = cuts [] [] nowhere nowhere

computed : Row → Row
computed (cuts p w g s) = cut_row p w (read p)
computed (checks p n m x u w) = check_row p n m (read p)

-- It holds if it is that.
spread : List ℕ → List ℕ → Row → Whole
spread t v (cuts p w g s) = whole (refuse 0 0) [] []
spread t v (checks p n m x u w) = whole x (onto t u) (onto v w)

spread_right : (p t v : List ℕ) (a : Answer) → read_answer set_table t v a ≡ spread t v (table_row p (length t) (length v) a)
unfolding spread
spread_right p t v (refused n q) = refl
spread_right p t v (accepted a) = go (searched set_table t a)
  where
    go : (s : Shown) → answer (write_out set_table a) t v s ≡ spread t v (shown_row p (length t) (length v) (write_out set_table a) s)
    go (alike_of L) = refl
    go (full_of L) = refl
    go (unlike_of L w) = pick (ltb (length v) (length w))
      where
        pick : (c : Bool) → cond c (whole (refuse 11 0) (onto t (records (form_of (write_out set_table a)) (standing (write_out set_table a)) (L ++ (w ∷ [])))) v) (whole (unlike (suc (length L)) (length w)) (onto t (records (form_of (write_out set_table a)) (standing (write_out set_table a)) (L ++ (w ∷ [])))) (onto v w))
            ≡ spread t v (cond c (checks p (length t) (length v) (refuse 11 0) (records (form_of (write_out set_table a)) (standing (write_out set_table a)) (L ++ (w ∷ []))) []) (checks p (length t) (length v) (unlike (suc (length L)) (length w)) (records (form_of (write_out set_table a)) (standing (write_out set_table a)) (L ++ (w ∷ []))) w))
        pick true = refl
        pick false = refl

found_spread : (p t v : List ℕ) → found set_table p t v ≡ spread t v (table_row p (length t) (length v) (read p))
unfolding found
found_spread p t v = spread_right p t v (answered set_table p).0 ∙ ap (λ a. spread t v (table_row p (length t) (length v) a)) (fixed_read p)

spread_checks : (p t v : List ℕ) (n m : ℕ) (x : Result) (u w : List ℕ) → spread t v (checks p n m x u w) ≡ whole x (onto t u) (onto v w)
unfolding spread
spread_checks p t v n m x u w = refl

row_tabled : (p t v : List ℕ) (n m : ℕ) (x : Result) (u w : List ℕ) → table_row p n m (read p) ≡ checks p n m x u w → length t ≡ n → length v ≡ m → Tabled set_table p t v (whole x (onto t u) (onto v w))
row_tabled p t v n m x u w e f g =
    (tabled_exactly set_table p t v x (onto t u) (onto v w)).1 ((found_exactly set_table p t v x (onto t u) (onto v w)).1
    (found_spread p t v ∙ ap₂ (λ k l. spread t v (table_row p k l (read p))) f g ∙ ap (spread t v) e ∙ spread_checks p t v n m x u w))

row_checked : (p t v s : List ℕ) (n m : ℕ) (x : Result) (u w : List ℕ) → (a : Answer) → read p ≡ a → Answers set_table p a → check_row p n m a ≡ checks p n m x u w
    → length t ≡ n → length v ≡ m → area_bytes ≤ length s → Checked set_table p t v s (whole x (onto t u) (onto v w)) (cleared s)
row_checked p t v s n m x u w (refused k q) r h e f g room = absurd (let z : ◌≡◌ {A = ℕ} 0 1 = cc in omega arith)
row_checked p t v s n m x u w (accepted a) r h e f g room = go (passes a) refl e
  where
    exactly : T (passes a) ↔ NoneExtends (write_out set_table a)
    exactly = test_exactly (write_out set_table a) (count (write_out set_table a)) (write_out_numbered set_table a) (omega arith)

    go : (c : Bool) → passes a ≡ c → cond c (checks p n m (alike 0) [] []) (table_row p n m (accepted a)) ≡ checks p n m x u w → Checked set_table p t v s (whole x (onto t u) (onto v w)) (cleared s)
    go true i d =
        let (y, z, k) : (alike 0 ≡ x) × ([] ≡ u) × ([] ≡ w) = (cc, cc, cc) in
        subst (λ o. Checked set_table p t v s o (cleared s)) (ap₂ (λ o l. whole o (onto t l) v) y z ∙ ap (λ l. whole x (onto t u) (onto v l)) k) (by_test h room (exactly.0 (true_T _ i)))
    go false i d =
        by_table h room (λ none. true≢false (sym (T_true _ (exactly.1 none)) ∙ i)) (row_tabled p t v n m x u w (ap (table_row p n m) r ∙ d) f g)

row_holds : (x : Row) → computed x ≡ x → RowHolds x
unfolding RowHolds computed
row_holds (cuts p w g s) e = go (read p) ((fixed_answers p (read p)).1 (read_right p)) e
  where
    go : (a : Answer) → Answers set_table p a → cut_row p w a ≡ cuts p w g s → (a : Alternation) × Accepts set_table p a × (greedy (write_out set_table a) w ≡ g) × (posix (write_out set_table a) w ≡ s)
    go (accepted a) h e = (a, h, (cc), (cc))
    go (refused n q) h e = absurd (let z : ◌≡◌ {A = ℕ} 0 1 = cc in omega arith)
row_holds (checks p n m x u w) e = λ t v s. row_checked p t v s n m x u w (read p) refl ((fixed_answers p (read p)).1 (read_right p)) e

all_hold : (l : List Row) → map computed l ≡ l → All l
unfolding All
all_hold [] e = tt
all_hold (x ∷ l) e = (row_holds x (cc), all_hold l (cc))

pub starred_hold : All starred
unfolding starred computed fails pairs search work share rounds takes greedy posix outcomes star_outcomes empty_turn then_leave start follow has count standing next check run seek standing_dec list_dec stands_add dec_lt dec_le ℕ_discrete read loop kind inside read_items heaviest weight write_out bracketed shape chain optional number bits pack record_bits record_bytes same number_of records_of slots
starred_hold = all_hold starred refl
