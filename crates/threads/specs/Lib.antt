-- The way that is handed over.
pub mod Ways
-- What the private functions do: slots, outcomes read one by one, rows and bytes.
pub mod Slots
pub mod Reads
pub mod Steps
