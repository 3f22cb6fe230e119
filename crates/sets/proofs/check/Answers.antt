-- At the first entry that fails, each before it passes.
use Rattle.std.proofs.Common.{◌≡◌, ◌∙◌, true, sym, arith, get_or, below_more}
use borrow.Author.Tests.{not-true, not-false}
use Rattle.grammar.specs.Loaded.{passes, unfit, at_entry}
use Rattle.sets.proofs.check.Goals as goal

pub returns-then-loaded-ne-ENTRIES : goal.returns-then-loaded-ne-ENTRIES
returns-then-loaded-ne-ENTRIES c = record { checked = unfit c.if-loaded-ne-ENTRIES.true }

pub returns-then-fails : goal.returns-then-fails
returns-then-fails c =
    let l = c.loop-place in
    record { checked = at_entry l.invariant.0 (omega arith) (not-true _ (sym c.fails.ensures ∙ c.if-fails.true)) l.invariant.1 }

pub loop-place-preserved : goal.loop-place-preserved
loop-place-preserved c =
    let l = c.loop-place in
    (l.invariant.0, below_more (λ k. passes (get_or c.args.loaded.now k 0) ≡ true) l.place l.invariant.1 (not-false _ (sym c.fails.ensures ∙ c.if-fails.false)))
