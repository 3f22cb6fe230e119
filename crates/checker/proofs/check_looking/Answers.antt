-- `checker::check_looking` meets its contract: a refused pattern's answer is the reader's, and an accepted one's is decided by its arrays.
use Rattle.checker.proofs.Decides.{accepted_sound, reports_accepted, reports_refused}
use Rattle.checker.proofs.check_looking.Goals as goal

pub decide-requires : goal.decide-requires
decide-requires c = accepted_sound c.in-Ok.ensures.right

pub returns-in-Ok : goal.returns-in-Ok
returns-in-Ok c = record { reported = reports_accepted c.decide.result c.in-Ok.ensures.right c.decide.ensures }

pub returns-in-Err : goal.returns-in-Err
returns-in-Err c = record { reported = reports_refused c.without_look.ensures c.in-Err.ensures.right }
