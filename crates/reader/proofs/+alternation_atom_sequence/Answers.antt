-- The cycle of alternation, sequence and atom. The bytes left fall at each call, thrice counted: an alternation calls a sequence, and a sequence an atom, at the
-- same place. What each finds is what its callees find (`Finds`), and a fault is passed on.
-- Assumes nothing.
use native.Mathlib.Omega.{arith}
use Rattle.reader.specs.Steps.{found_part, found_fault}
use Rattle.reader.proofs.Begins.{depth_max, begun_bar, begun_open, ready_atom, begun_part, fault_deep, fault_open}
use Rattle.reader.proofs.Finds.{passed_on, finding, single, sequence_stop, sequence_part, alternation_last, alternation_or, group_here}
use Rattle.reader.proofs.+alternation_atom_sequence.Goals as goal

-- An alternation.
pub alternation-returns-in_err-first : goal.alternation-returns-in_err-first
alternation-returns-in_err-first t c = passed_on _ c.from_residual.ensures.1 c.in_err-first.ensures

pub alternation-alternation-requires : goal.alternation-alternation-requires
alternation-alternation-requires t c =
    let q = finding c.in_ok-first.ensures in
    (omega (arith, q.forward), (begun_bar c.requires.0 q c.if-first-s.true c.if-s-first-eq124.true, omega (arith, q.passed.few c.requires.1)))

pub alternation-returns-in_err-rest : goal.alternation-returns-in_err-rest
alternation-returns-in_err-rest t c = passed_on _ c.from_residual-in_err-rest.ensures.1 c.in_err-rest.ensures

pub alternation-returns-then-s-first-eq124 : goal.alternation-returns-then-s-first-eq124
alternation-returns-then-s-first-eq124 t c =
    found_part (alternation_or _ _ (finding c.in_ok-first.ensures) c.push_if_empty.ensures.added c.push_if_empty.ensures.kept c.one_at_least-own.ensures c.if-first-s.true c.if-s-first-eq124.true (finding c.in_ok-rest.ensures) c.push.ensures.added c.one_of.ensures)

pub alternation-returns-else-s-first-eq124 : goal.alternation-returns-else-s-first-eq124
alternation-returns-else-s-first-eq124 t c =
    found_part (alternation_last _ (finding c.in_ok-first.ensures) c.push_if_empty.ensures.added c.push_if_empty.ensures.kept c.one_at_least-own.ensures (λ h. c.if-s-first-eq124.false))

pub alternation-returns-else-first-s : goal.alternation-returns-else-first-s
alternation-returns-else-first-s t c =
    found_part (alternation_last _ (finding c.in_ok-first.ensures) c.push_if_empty.ensures.added c.push_if_empty.ensures.kept c.one_at_least-own.ensures (λ h. absurd (omega arith)))

-- An atom.
pub atom-returns-then-c-ne40 : goal.atom-returns-then-c-ne40
atom-returns-then-c-ne40 t c = single _ c.leaf.ensures

pub atom-returns-then-depth-eq-MAX_DEPTH : goal.atom-returns-then-depth-eq-MAX_DEPTH
atom-returns-then-depth-eq-MAX_DEPTH t c = rw c.at.ensures.refusal (found_fault (fault_deep c.requires.0 c.requires.1.before c.if-c-ne40.false c.if-depth-eq-MAX_DEPTH.true))

pub atom-overflow_add-depth : goal.atom-overflow_add-depth
atom-overflow_add-depth t c = omega (arith, depth_max c.requires.0)

pub atom-alternation-requires : goal.atom-alternation-requires
atom-alternation-requires t c =
    (omega arith, (begun_open c.requires.0 c.requires.1.before c.if-c-ne40.false c.if-depth-eq-MAX_DEPTH.false, rw c.open.ensures (omega (arith, c.requires.2))))

pub atom-returns-in_err-inner : goal.atom-returns-in_err-inner
atom-returns-in_err-inner t c = passed_on _ c.from_residual.ensures.1 c.in_err-inner.ensures

pub atom-returns-then-inner-s : goal.atom-returns-then-inner-s
atom-returns-then-inner-s t c = rw c.at-then-inner-s.ensures.refusal (found_fault (fault_open c.requires.0 c.requires.1.before c.if-c-ne40.false c.if-depth-eq-MAX_DEPTH.false (finding c.in_ok-inner.ensures) c.if-inner-s.true))

pub atom-overflow_add-result : goal.atom-overflow_add-result
atom-overflow_add-result t c = omega (arith, (finding c.in_ok-inner.ensures).inside, c.requires.0.begin.short)

pub atom-returns : goal.atom-returns
atom-returns t c = found_part (group_here c.requires.0 c.requires.1.before c.if-c-ne40.false c.open.ensures (finding c.in_ok-inner.ensures) c.if-inner-s.false c.push_field.ensures)

-- A sequence.
pub sequence-returns-then-at-s : goal.sequence-returns-then-at-s
sequence-returns-then-at-s t c = found_part (sequence_stop c.nothing.ensures c.requires.0 (λ l n. absurd (omega arith)))

pub sequence-returns-then-c-eq124 : goal.sequence-returns-then-c-eq124
sequence-returns-then-c-eq124 t c = found_part (sequence_stop c.nothing-then-c-eq124.ensures c.requires.0 (λ l n. absurd (n c.if-c-eq124.true)))

pub sequence-returns-then-c-eq41 : goal.sequence-returns-then-c-eq41
sequence-returns-then-c-eq41 t c = found_part (sequence_stop c.nothing-then-c-eq41.ensures c.requires.0 (λ l n. c.if-c-eq41.true))

pub sequence-returns-in_err-part : goal.sequence-returns-in_err-part
sequence-returns-in_err-part t c = passed_on _ c.from_residual.ensures.1 c.in_err-part.ensures

pub sequence-repeat-requires : goal.sequence-repeat-requires
sequence-repeat-requires t c = ready_atom c.requires.0 (finding c.in_ok-part.ensures)

pub sequence-returns-in_err-repeated : goal.sequence-returns-in_err-repeated
sequence-returns-in_err-repeated t c = passed_on _ c.from_residual-in_err-repeated.ensures.1 c.in_err-repeated.ensures

pub sequence-sequence-requires : goal.sequence-sequence-requires
sequence-sequence-requires t c =
    let a = finding c.in_ok-part.ensures in
    let r = finding c.in_ok-repeated.ensures in
    (omega (arith, a.forward, r.forward), (begun_part c.requires.0 a r, omega (arith, a.passed.few c.requires.1, r.forward)))

pub sequence-returns-in_err-rest : goal.sequence-returns-in_err-rest
sequence-returns-in_err-rest t c = passed_on _ c.from_residual-in_err-rest.ensures.1 c.in_err-rest.ensures

pub sequence-returns : goal.sequence-returns
sequence-returns t c =
    found_part (sequence_part _ (finding c.in_ok-part.ensures) (finding c.in_ok-repeated.ensures) (finding c.in_ok-rest.ensures) c.push_if_more.ensures.added (λ e. c.push_if_more.ensures.kept (λ n. n e)) c.in_row.ensures)
