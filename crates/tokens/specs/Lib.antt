-- What an array of codes holds, and what the functions write.
pub mod Held
pub mod Copied
