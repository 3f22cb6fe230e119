-- `yindorka::yindorka_lengths_with_sets` meets its contract: the reader's answer decides.
-- Assumes nothing.
use Rattle.yindorka.proofs.Answers.{measures_accepted, measures_refused}
use Rattle.yindorka.proofs.yindorka_lengths_with_sets.Goals as goal

pub returns-in-Ok : goal.returns-in-Ok
returns-in-Ok c = record { measured = measures_accepted c.in-Ok.ensures.right c.from.ensures }

pub returns-in-Err : goal.returns-in-Err
returns-in-Err c = record { measured = measures_refused c.in-Err.ensures.right c.from-refusal.ensures }
