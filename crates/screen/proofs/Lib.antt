-- What is shown of a pattern is its own.
pub mod Laws
mod Showing
