-- What the functions of this crate find at a place of a pattern's text.
pub mod Scanned
pub mod Parts
