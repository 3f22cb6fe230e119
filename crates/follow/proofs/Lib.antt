-- The laws of the follow tables.
-- Masks of fields, lists of outcomes, and such lists in arrays.
mod Masks
mod Items
mod Lists
mod Joins
-- What is collected from a part, by its parts.
mod Parts
mod Begins
mod Nexts
-- The scan, the copy and the rows.
mod Scans
mod Rows
