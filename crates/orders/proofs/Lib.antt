-- The answers to order lines, and what they say of the pattern's bytes.
mod Ordering
pub mod Demand
