-- What the checker promises.
pub mod Verdicts
pub mod Looking
-- A line read back along the origin fields.
pub mod Origins
-- What its private functions do.
pub mod Steps
