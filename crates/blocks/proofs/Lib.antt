pub mod Answer
pub mod Posix
pub mod Bound
pub mod Loops
pub mod Greedy
pub mod Stills
pub mod Opening
