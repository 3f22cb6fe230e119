-- Which bytes are looked for, and the places of a line that are passed over.
pub mod Hows
pub mod Places
