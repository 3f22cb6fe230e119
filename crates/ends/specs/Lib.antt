-- The POSIX end that leaves lead to, and the greedy end.
pub mod Ends
