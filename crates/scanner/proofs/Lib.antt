-- The laws that the proofs of the functions cite.
mod Places
mod Bytes
mod Names
mod Items
mod Classes
mod Leaves
mod Counts
