-- The laws of chunks of a line, and of places that are passed over.
mod Chunks
mod Places
