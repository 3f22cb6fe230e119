-- Request 6: the least and the greatest length that a pattern could match, of its tree and of its written-out pattern; and what the code's values mean.
pub mod Lengths
pub mod Written
pub mod Code
