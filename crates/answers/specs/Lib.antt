-- The lines that answer a pattern.
pub mod Line
pub mod Cutting
pub mod Answer
