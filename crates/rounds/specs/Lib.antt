-- Turns that go round.
pub mod Round
