-- Where the lines of records come from, and what a search has found that has worked on so many.
pub mod Traces
-- What the worked records have led to, and how many are worked on.
pub mod Worked
