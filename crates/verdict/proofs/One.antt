-- For every pattern, table and witness buffer exactly one result with one content of both buffers is right.
-- Assumes nothing.
use mathlib.Core.Path.{◌≡◌, refl, sym, ap, ◌∙◌, subst}
use mathlib.Core.Logic.{◌↔◌}
use Prim.Native.Nat.{ℕ, suc}
use mathlib.Core.Bool.{cond}
use mathlib.Core.List.{List, [], ◌∷◌, ◌++◌}
use native.Mathlib.Omega.{arith}
use native.Mathlib.Decide.{dec_lt}
use lib.ListN.{length}
use lib.Dec.{ltb, ltb→lt, lt→ltb}
use Rattle.theory.specs.Pattern.{Re}
use Rattle.theory.specs.Standing.{standing}
use Rattle.theory.specs.Code.Search.{SearchEnd, alike, unlike, full}
use Rattle.theory.proofs.Run.{check}
use Rattle.theory.proofs.Tests.{T_true, not_true}
use Rattle.grammar.specs.Grammar.{Alternation}
use Rattle.grammar.specs.Loaded.{Accepts, Answers}
use Rattle.grammar.specs.Refusals.{Answer, accepted, refused}
use Rattle.grammar.specs.WriteOut.{write_out}
use Rattle.grammar.proofs.Loaded.{answered, answered_is}
use Rattle.grammar.proofs.Size.{write_out_numbered}
use Rattle.verdict.specs.Record.{form_of}
use Rattle.verdict.specs.Table.{records, slots, onto}
use Rattle.verdict.specs.Tabled.{Whole, whole, Result, alike as same, unlike as differ, refused as refuse}
use Rattle.verdict.specs.Code.Found.{Found, not_read, same_cuts, first_witness, no_slot, no_room}
use Rattle.verdict.proofs.OneEnd.{Shown, alike_of, unlike_of, full_of, show, same_outcome}

abbrev pub result : Whole → Result
result (whole x t v) = x

abbrev pub table : Whole → List ℕ
table (whole x t v) = t

abbrev pub witness : Whole → List ℕ
witness (whole x t v) = v

-- What an outcome's lines make of the buffers.
abbrev pub answer : Re → List ℕ → List ℕ → Shown → Whole
answer r t v (alike_of L) = whole (same (length L)) (onto t (records (form_of r) (standing r) L)) v
answer r t v (unlike_of L w) =
    cond (ltb (length v) (length w))
    (whole (refuse 11 0) (onto t (records (form_of r) (standing r) (L ++ (w ∷ [])))) v)
    (whole (differ (suc (length L)) (length w)) (onto t (records (form_of r) (standing r) (L ++ (w ∷ [])))) (onto v w))
answer r t v (full_of L) = whole (refuse 10 0) (onto t (records (form_of r) (standing r) L)) v

-- The search's outcome for a tree, and the whole answer, computed.
abbrev pub searched : List ℕ → List ℕ → Alternation → Shown
searched loaded t a = show (check (write_out loaded a) (write_out_numbered loaded a) (slots (form_of (write_out loaded a)) (length t)))

abbrev pub read_answer : List ℕ → List ℕ → List ℕ → Answer → Whole
read_answer loaded t v (accepted a) = answer (write_out loaded a) t v (searched loaded t a)
read_answer loaded t v (refused n q) = whole (refuse n q) t v

unfoldable pub found : List ℕ → List ℕ → List ℕ → List ℕ → Whole
found loaded p t v = read_answer loaded t v (answered loaded p).0

-- It is right,
pub found_right : (loaded p t v : List ℕ) → Found loaded p t v (result (found loaded p t v)) (table (found loaded p t v)) (witness (found loaded p t v))
unfolding found
found_right loaded p t v = go (answered loaded p).0 (answered loaded p).1
  where
    outcome : {a : Alternation} → Accepts loaded p a → (o : SearchEnd (write_out loaded a) (slots (form_of (write_out loaded a)) (length t))) → (s : Whole) → answer (write_out loaded a) t v (show o) ≡ s → Found loaded p t v (result s) (table s) (witness s)
    outcome h (alike L i a) s e = same_cuts h a i (ap result (sym e)) (ap table (sym e)) (ap witness (sym e))
    outcome h (full L i a) s e = no_slot h a i (ap result (sym e)) (ap table (sym e)) (ap witness (sym e))
    outcome h (unlike L w i a) s e =
        elim (dec_lt (length v) (length w)) [
          | yes g ↦ (let f = rw (T_true (ltb (length v) (length w)) (lt→ltb (length v) (length w) g)) at e in
              no_room h a i g (ap result (sym f)) (ap table (sym f)) (ap witness (sym f)))
          | no g ↦ (let f = rw (not_true (ltb (length v) (length w)) (λ t. g (ltb→lt (length v) (length w) t))) at e in
              first_witness h a i (omega arith) (ap result (sym f)) (ap table (sym f)) (ap witness (sym f)))
        ]

    go : (x : Answer) → Answers loaded p x → Found loaded p t v (result (read_answer loaded t v x)) (table (read_answer loaded t v x)) (witness (read_answer loaded t v x))
    go (refused n q) h = not_read h refl refl refl
    go (accepted a) h = outcome h (check (write_out loaded a) (write_out_numbered loaded a) (slots (form_of (write_out loaded a)) (length t))) _ refl

-- And nothing else is.
pub found_only : {loaded p t v : List ℕ} {x : Result} {t' v' : List ℕ} → Found loaded p t v x t' v' → found loaded p t v ≡ whole x t' v'
unfolding found
found_only {loaded} {p} {t} {v} {x} {t'} {v'} c = go c
  where
    join : {y : Result} {t'' v'' : List ℕ} → x ≡ y → t' ≡ t'' → v' ≡ v'' → whole y t'' v'' ≡ whole x t' v'
    join e f g = rw (e, f, g)

    by : {a : Alternation} → Accepts loaded p a → (o : SearchEnd (write_out loaded a) (slots (form_of (write_out loaded a)) (length t))) → answer (write_out loaded a) t v (show o) ≡ whole x t' v' → read_answer loaded t v (answered loaded p).0 ≡ whole x t' v'
    by {a} h o e =
        ap (read_answer loaded t v) (answered_is loaded p (accepted a) h)
        ∙ ap (answer (write_out loaded a) t v) (same_outcome (write_out loaded a) (write_out_numbered loaded a) (check (write_out loaded a) (write_out_numbered loaded a) (slots (form_of (write_out loaded a)) (length t))) o)
        ∙ e

    go : Found loaded p t v x t' v' → read_answer loaded t v (answered loaded p).0 ≡ whole x t' v'
    go (not_read {n = n} {q = q} h e f g) = ap (read_answer loaded t v) (answered_is loaded p (refused n q) h) ∙ join e f g
    go (same_cuts {L = L} h a i e f g) = by h (alike L i a) (join e f g)
    go (first_witness {L = L} {w = w} h a i l e f g) =
        by h (unlike L w i a) (rw (not_true (ltb (length v) (length w)) (λ t. omega (arith, ltb→lt (length v) (length w) t))) (join e f g))
    go (no_slot {L = L} h a i e f g) = by h (full L i a) (join e f g)
    go (no_room {L = L} {w = w} h a i l e f g) =
        by h (unlike L w i a) (rw (T_true (ltb (length v) (length w)) (lt→ltb (length v) (length w) l)) (join e f g))

-- The answer is right exactly if it is the computed one,
pub found_exactly : (loaded p t v : List ℕ) (x : Result) (t' v' : List ℕ) → Found loaded p t v x t' v' ↔ (found loaded p t v ≡ whole x t' v')
found_exactly loaded p t v x t' v' = (found_only, λ e. subst (λ s. Found loaded p t v (result s) (table s) (witness s)) e (found_right loaded p t v))

-- and two right answers are one.
pub found_one : {loaded p t v : List ℕ} {x y : Result} {t' t'' v' v'' : List ℕ} → Found loaded p t v x t' v' → Found loaded p t v y t'' v'' → (x ≡ y) × (t' ≡ t'') × (v' ≡ v'')
found_one a b = let e = sym (found_only a) ∙ found_only b in (ap result e, ap table e, ap witness e)
