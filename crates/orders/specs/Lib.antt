-- The lines that answer order lines.
pub mod Orders
