-- What the first records of a pattern have led to, and how many are worked on.
pub mod Worked
-- How a pattern's check stands after so many turns.
pub mod After
