-- The area as rows of bits, and pairs marked in it.
mod Rows
mod Marks
-- The leaves that share a byte, and the live ones; what the arrays have of the pattern.
mod Shares
mod Live
mod Given
-- The search through the pairs.
mod Marking
mod Searching
mod Going
mod Deciding
