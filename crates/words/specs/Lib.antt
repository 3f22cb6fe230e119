-- Sets of leaves as numbers.
pub mod Sets
