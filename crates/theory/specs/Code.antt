-- Definitions in the shape of code, each tied to paper 01's by a law. The promises of the layers beneath need them: `follow::tables_of` (Follow), a standing's `next`
-- (Next) and `search` (Search). Those of `read`, `cut_line`, `check` and of the programs do not.
pub mod Members
pub mod Follow
pub mod Next
pub mod Closure
pub mod Passes
pub mod Search
