-- Records in bytes, the table, the checker's result, demand 3 in words, and the starred reference lines.
pub mod Bits
pub mod Record
pub mod Table
pub mod Tabled
pub mod Area
pub mod Checked
pub mod Demand
pub mod Starred
pub mod Code
