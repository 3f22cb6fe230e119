-- The checks of an entry: what tests of two parts say.
pub mod Passing
