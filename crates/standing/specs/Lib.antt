-- Standings as the code has them.
pub mod Stands
-- What its private functions do.
pub mod Reads
pub mod Sets
