-- The follow tables of a pattern.
pub mod Rows
pub mod Views
-- A list of outcomes as the code keeps it, and what it collects from a part.
pub mod Good
pub mod Outcomes
pub mod Parts
pub mod Stores
