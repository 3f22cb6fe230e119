-- Sets of leaves as numbers, and the facts of a pattern.
pub mod Sets
pub mod Known
pub mod Moves
