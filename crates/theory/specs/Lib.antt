-- Paper 01's definitions, in its order: the written-out pattern, the order of preference, starts and spans, standings, lines and records.
-- `Base` has paper 01's list before the requests. `Matching` and `Preference` are source document 000's. `Code` has the definitions in the shape of code, which laws tie to these.
pub mod Pattern
pub mod Outcomes
pub mod Matching
pub mod Spans
pub mod Standing
pub mod Lines
pub mod Records
pub mod Base
pub mod Preference
pub mod Demand
pub mod Code
