-- What a pattern and a line are answered with.
pub mod Replies
-- The tables of a pattern.
pub mod Tables
