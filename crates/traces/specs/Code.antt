-- Definitions in the shape of code. No promise of a public function needs them to be understood: each is tied to the fields by a law.
pub mod Rows
pub mod Pass
pub mod Sets
pub mod Marks
