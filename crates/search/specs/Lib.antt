-- How much looking a search takes.
pub mod Looking
-- Where a search ends.
pub mod Ends
-- The search on its way, turn by turn.
pub mod Turns
