-- The look through the table.
pub mod Looks
-- How much looking it takes.
pub mod Tallies
pub mod Totals
-- One turn of the search, case by case.
mod Turns
mod Carries
-- Its loops.
mod Works
mod Begins
