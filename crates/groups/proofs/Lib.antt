-- The laws of the byte groups: of their lists and numbers, of one turn of the code, of readable lines, and what a group means for the pattern's leaves.
mod Lists
pub mod Numbers
mod Turns
pub mod ReadableLines
pub mod Laws
