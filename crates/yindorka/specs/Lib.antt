-- What the library's functions promise.
pub mod Calls
