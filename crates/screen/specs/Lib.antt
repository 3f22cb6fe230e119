-- What is shown of a pattern.
pub mod Shows
