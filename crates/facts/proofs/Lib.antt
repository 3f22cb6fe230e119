-- For the layers above: numbers as sets of leaves, what a byte makes of a set, and leaves that take a byte.
pub mod Bits
pub mod Rows
pub mod Taken
