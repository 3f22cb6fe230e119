-- The byte groups of a pattern, and their numbers.
pub mod Numbers
-- A line in bytes that a person can read.
pub mod Readable
-- The bytes grouped so far, as the code goes through them.
pub mod Turns
