-- The laws of the definitions, in reading order.
pub mod Cases
pub mod Sets
-- The reader's answer is right, and nothing else is.
pub mod Texts
pub mod Pieces
pub mod Sound
pub mod Unique
pub mod Right
pub mod Place
pub mod Loaded
-- The written-out pattern: its leaves and parts, and its tokens.
pub mod Size
pub mod Openings
pub mod Tokens
pub mod Suffix
pub mod Codes
-- What does not depend on the signs of lazy repeats.
pub mod Eager
pub mod Unsigned
