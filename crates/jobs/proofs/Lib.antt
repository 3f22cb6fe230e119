-- Laws of lines, and of the lines noted so far.
pub mod Lines
pub mod Notes
