-- Laws of the bytes of a line, of a line while it is read, of the exchange, and of the answers while they are given.
pub mod Laws
pub mod Reading
pub mod Exchanging
pub mod Serving
