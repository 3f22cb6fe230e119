-- The laws of the arrays: of each pass, and that the arrays so made are the pattern.
mod Numbering
mod Sizes
mod Masks
mod Parts
mod Right
-- For the layers above.
pub mod Laws
