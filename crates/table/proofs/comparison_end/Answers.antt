-- `table::comparison_end` meets its contract: both parts that it looks at, one after the other.
-- Assumes nothing.
use Rattle.std.proofs.Common.{◌∙◌}
use Rattle.std.proofs.lemmas.List.{take_rest}
use Rattle.table.proofs.Comparisons.{front_found, back_found, back_none}
use Rattle.table.proofs.comparison_end.Goals as goal

pub returns-in-Some : goal.returns-in-Some
returns-in-Some c = front_found c.args.u.now c.args.v.now c.requires.0 c.in-Some.place c.in-Some.ensures

pub returns-in_err-place : goal.returns-in_err-place
returns-in_err-place c =
    let a = c.args in
    c.from_residual.ensures ∙ back_none a.u.now a.v.now c.requires.0 c.in_default.ensures (take_rest a.u.now 13) (take_rest a.v.now 13) c.in_err-place.ensures

pub returns : goal.returns
returns c =
    let a = c.args in
    back_found a.u.now a.v.now c.requires.0 c.in_default.ensures (take_rest a.u.now 13) (take_rest a.v.now 13) c.in_ok-place.place c.in_ok-place.ensures
