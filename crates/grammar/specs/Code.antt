-- Definitions in the shape of code.
pub mod Reader
pub mod Tokens
pub mod Codes
