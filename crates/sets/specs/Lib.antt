-- What the check of a table says.
pub mod Checks
