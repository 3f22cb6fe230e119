-- The laws of the slots, of the records in them, and of the look.
pub mod Laws
pub mod Comparisons
pub mod Looks
-- What the loops of the code do: a record is copied.
mod Copies
