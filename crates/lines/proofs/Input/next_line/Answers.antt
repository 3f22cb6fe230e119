-- The line ends at the newline, or goes on at the chunk's end.
use Rattle.std.proofs.Common.{refl, sym, ◌∙◌}
use Rattle.lines.proofs.Reading.{next_whole, next_part}
use Rattle.lines.proofs.Input.next_line.Goals as goal

pub returns-in-Some : goal.returns-in-Some
returns-in-Some c =
    let r = c.rest-rest.ensures in
    record { next = next_whole (sym (rw r at c.newline_in.ensures) ∙ c.in-Some.is) (rw (c.first_of.ensures.part, r) at c.keep.ensures) refl refl }

pub returns-in-None : goal.returns-in-None
returns-in-None c =
    let r = c.rest-rest.ensures in
    record { next = next_part (sym (rw r at c.newline_in.ensures) ∙ c.in-None.is) (rw r at c.keep-in-None.ensures) refl refl }
