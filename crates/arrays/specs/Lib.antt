-- The pattern's arrays: what pattern they are, and how they come from the codes.
pub mod Decoded
pub mod Finished
-- The passes of the code.
pub mod Passes
