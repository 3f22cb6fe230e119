-- What is lent for lines, and both spans of a line.
pub mod Tables
pub mod Cuts
