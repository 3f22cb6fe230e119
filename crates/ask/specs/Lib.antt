-- What is prepared for order lines, and the line of a table of named sets.
pub mod Orders
pub mod Table
