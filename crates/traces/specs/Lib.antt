-- Request 2 of paper 02, "Fields of the greedy span": where a pattern's brackets stand, the list of outcomes with a trace on each, the fields along the most preferred
-- way. `Code` has the definitions in the shape of code, which laws tie to these.
pub mod Brackets
pub mod Traces
pub mod Fields
pub mod Nest
pub mod Code
