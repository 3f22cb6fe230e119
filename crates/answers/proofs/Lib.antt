-- Laws of the lines that answer a pattern.
mod Cutting
mod Listing
pub mod Kept
pub mod Lent
pub mod Serving
