-- The slots of a table.
pub mod Slots
-- The look through the records in them.
pub mod Looks
