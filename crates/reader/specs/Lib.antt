-- The numbers of refusals, what the reader hands over, and what its functions find on the way.
pub mod Numbers
pub mod Reading
pub mod Steps
