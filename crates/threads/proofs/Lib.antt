-- The laws of the code, in reading order: slots, and outcomes read one by one.
mod Slots
mod Entered
mod Reading
-- A row, the tables of a pattern, a byte, and the line.
mod Rows
mod Leaves
mod Tables
mod Stepping
mod Ahead
