-- Paper 01's grammar, limits, sets, writing out and refusals, in its order, and paper 02's tables of named sets. `Code` has the reader as a definition that computes, and
-- the written-out pattern as tokens; laws tie both to these.
pub mod Grammar
pub mod Limits
pub mod Sets
pub mod Names
pub mod Brackets
pub mod WriteOut
pub mod Eager
pub mod Before
pub mod Refusals
pub mod Loaded
pub mod Code
