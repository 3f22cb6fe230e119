-- The POSIX span; the blocks in arrays; the one set of all starts.
pub mod Spans
pub mod Blocks
pub mod Opens
