-- The laws of the standings' code.
mod Fronts
mod Right
-- For the layers above.
pub mod Outcomes
pub mod Sets
pub mod Lent
