-- The laws of the round.
pub mod Round
pub mod Turns
