-- `Queue::run` meets its contract: one record more, a stop, and all records.
use mathlib.Core.Path.{refl, ◌∙◌}
use borrow.Author.Rules.{rules}
use native.Mathlib.Omega.{arith}
use Rattle.std.proofs.lemmas.Result.{err_from_is_err_and}
use Rattle.search.proofs.Works.{record_start, record_step, record_stop, record_end}
use Rattle.search.proofs.Queue.run.Goals as goal

pub loop-q-init : goal.loop-q-init
loop-q-init c = let r = c.requires in (refl, refl, refl, refl, r.1, record_start r.0 r.2 r.3)

pub returns-in_err-work-clause-ran : goal.returns-in_err-work-clause-ran
returns-in_err-work-clause-ran c =
    let i = c.loop-q.invariant in
    let p = err_from_is_err_and c.from_residual.result c.from_residual.ensures.1 in
    rw (p.1, p.2) (record_stop (omega arith) i.5 _ _ (rw (i.2, i.3) at c.in_err-work.ensures.worked))

pub overflow_add-q : goal.overflow_add-q
overflow_add-q c = let h = c.loop-q.invariant.5.within in let most = c.loop-q.invariant.4 in search rules

pub loop-q-smaller : goal.loop-q-smaller
loop-q-smaller c = let h = c.loop-q.invariant.5.within in omega arith

pub loop-q-preserved : goal.loop-q-preserved
loop-q-preserved c =
    let i = c.loop-q.invariant in
    let e = c.in_ok-work.ensures in
    (e.same_table ∙ i.0, e.same_size ∙ i.1, e.same_width ∙ i.2, e.same_limit ∙ i.3, i.4, record_step (omega arith) i.5 (rw (i.2, i.3) at e.worked))

pub returns-clause-ran : goal.returns-clause-ran
returns-clause-ran c = record_end (omega arith) c.loop-q.invariant.5
