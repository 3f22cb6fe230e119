-- The entries of a table in hex.
mod Entries
-- The words of a line.
pub mod Words
