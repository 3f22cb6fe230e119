-- For the layers above.
pub mod Laws
-- For the functions' proofs: weights and sizes, beginnings and faults, brackets, what is found, and what is handed over.
mod Weights
mod Sizes
mod Begins
mod Passed
mod Finds
mod Scans
mod Border
