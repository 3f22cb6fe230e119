-- The first line of a query, and a table of named sets in hex.
pub mod Hex
pub mod Query
