-- Laws for the proofs of the lines that the programs print.
pub mod Laws
