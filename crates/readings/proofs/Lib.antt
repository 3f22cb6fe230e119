-- The laws of the replies.
mod Replying
mod Preparing
-- For the layers above.
pub mod Laws
-- Demand 2 in its words.
pub mod Demand
