-- The lines that the programs print.
pub mod Text
pub mod Puts
