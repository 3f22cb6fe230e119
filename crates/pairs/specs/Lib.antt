-- What the test promises.
pub mod Tested
-- A lent area as rows of bits; the leaves that share a byte, and the live ones; the search through the pairs.
pub mod Rows
pub mod Leaves
pub mod Steps
