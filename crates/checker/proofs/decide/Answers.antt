-- `checker::decide` meets its contract: the area is too short, the test passes, or the records say what they say.
use Rattle.checker.proofs.Decides.{decides_known, decides_short, decides_passes, decides_fails}
use Rattle.checker.proofs.decide.Goals as goal

pub by_records-requires : goal.by_records-requires
by_records-requires c = let view = c.view-tables.ensures in decides_known c.requires c.tables_of-own.ensures.right c.view-tables.result view.masks view.tables c.width-width.ensures.width

pub returns-in-Err : goal.returns-in-Err
returns-in-Err c = decides_short (rw c.at.ensures.refusal at c.without_look.ensures) c.in-Err.ensures.tested

pub returns-in-Ok-Passes : goal.returns-in-Ok-Passes
returns-in-Ok-Passes c =
    let view = c.view-tables.ensures in
    decides_passes c.requires c.tables_of-own.ensures.right c.view-tables.result view.masks view.tables c.without_look-in-Ok-Passes.ensures (rw (c.in-Ok-Passes.field-0-is, c.by_sets.ensures.sets) at c.in-Ok-Passes.ensures.tested)

pub returns-in-Ok-Fails : goal.returns-in-Ok-Fails
returns-in-Ok-Fails c =
    let view = c.view-tables.ensures in
    decides_fails c.requires c.tables_of-own.ensures.right c.view-tables.result view.masks view.tables c.width-width.ensures.width (rw (c.in-Ok-Fails.field-0-is, c.by_sets.ensures.sets) at c.in-Ok-Fails.ensures.tested) c.by_records.ensures
