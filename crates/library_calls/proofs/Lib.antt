-- How long an answer is.
mod Sizes
