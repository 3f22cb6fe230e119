-- The laws of blocks, of what an array holds, and of copies.
pub mod Blocks
pub mod Laws
pub mod Copying
pub mod Leading
