-- Each line that is whole is answered, and its answer fits.
use Rattle.lines.proofs.Serving.{serving_first, serving_passed, serving_goes_on}
use Rattle.lines.proofs.Input.answer_lines.Goals as goal

pub loop-self-init : goal.loop-self-init
loop-self-init g c = serving_first

pub loop-self-preserved-in-Some : goal.loop-self-preserved-in-Some
loop-self-preserved-in-Some g c =
    let room = c.if-has_room.ensures in
    serving_passed c.loop-self.invariant c.in-Some.ensures (rw c.text.ensures at c.answer.ensures) (rw c.longest.ensures at room.room)

pub loop-self-preserved : goal.loop-self-preserved
loop-self-preserved g c = serving_goes_on c.loop-self.invariant c.in_default.ensures
