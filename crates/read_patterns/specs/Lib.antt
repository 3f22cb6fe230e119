-- What is printed for a pattern.
pub mod Line
