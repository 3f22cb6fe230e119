-- What packing and unpacking a standing promise.
pub mod Packing
-- What its private functions do.
pub mod Bytes
