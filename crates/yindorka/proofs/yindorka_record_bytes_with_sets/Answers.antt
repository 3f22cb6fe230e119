-- `yindorka::yindorka_record_bytes_with_sets` meets its contract: the reader's answer decides.
-- Assumes nothing.
use Rattle.yindorka.proofs.Answers.{sizes_accepted, sizes_refused}
use Rattle.yindorka.proofs.yindorka_record_bytes_with_sets.Goals as goal

pub returns-in-Ok : goal.returns-in-Ok
returns-in-Ok c = record { sized = sizes_accepted c.in-Ok.ensures.right c.width.ensures.width c.count_of.ensures }

pub returns-in-Err : goal.returns-in-Err
returns-in-Err c = record { sized = sizes_refused c.in-Err.ensures.right c.from.ensures }
