-- A line read back along the origin fields.
mod Origins
-- The answer is the right one.
mod Decides
-- Demands 1 and 3 in their words.
pub mod Demand
pub mod Looked
