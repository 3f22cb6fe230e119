-- The least and the greatest length: small cases; of a tree and of its written-out pattern; without lazy signs; when there is no limit; of matches and spans; that both
-- are reached; as the code counts them; for an accepted pattern.
pub mod Cases
pub mod Sums
pub mod Written
pub mod Eager
pub mod NoLimit
pub mod Bounds
pub mod Reached
pub mod Capped
pub mod Accepted
