-- Definitions in the shape of code.
pub mod Found
pub mod Held
