-- A job file's patterns.
pub mod Job
