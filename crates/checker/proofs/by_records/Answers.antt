-- `checker::by_records` meets its contract: each way that the search ends gives its verdict.
-- Assumes nothing.
use Rattle.checker.proofs.Decides.{recorded_alike, recorded_full, recorded_lined, recorded_witness}
use Rattle.checker.proofs.by_records.Goals as goal

pub hand_over-requires : goal.hand_over-requires
hand_over-requires c = recorded_lined c.search-course.ensures.searched c.requires c.in-Witness.is

pub returns-in-Clear : goal.returns-in-Clear
returns-in-Clear c = recorded_alike c.search-course.ensures.searched c.in-Clear.is

pub returns-in-Witness : goal.returns-in-Witness
returns-in-Witness c = recorded_witness c.search-course.ensures.searched c.in-Witness.is c.hand_over.ensures

pub returns-in-Full : goal.returns-in-Full
returns-in-Full c = rw c.at.ensures.refusal (recorded_full c.search-course.ensures.searched c.in-Full.is)
