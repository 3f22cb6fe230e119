-- The pass in the shape of code; what it will find; what is true of its state; its blocks in arrays.
pub mod Blocks
pub mod Answer
pub mod Invariants
pub mod Arrays
