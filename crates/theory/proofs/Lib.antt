-- The laws of the definitions, in reading order.
pub mod Cases
-- Lists, tests, lines.
pub mod Tests
pub mod Members
pub mod Lines
-- The order of preference: paper 01's equations, and the matching relation.
pub mod Outcomes
pub mod Turns
pub mod Equations
pub mod Matching
pub mod Numbering
-- A line that grows by a byte: the standing goes to the next.
pub mod Extend
pub mod Nexts
pub mod Step
pub mod Ends
pub mod Sizes
-- Witnesses and lines cut differently; the search and the records.
pub mod Cut
pub mod Search
pub mod Records
pub mod Run
pub mod Groups
-- Sets of outcomes; what depends on no preference; what the requested changes leave as it was.
pub mod Sets
pub mod Reordered
pub mod Unmoved
-- Source 000's order of preference and denotations.
pub mod Ranked
pub mod Preference
pub mod Linear
pub mod Denotation
pub mod Examples
-- Demand 2 in its words.
pub mod Demand
-- For code: closures without duplicates, the pass forward from a start.
pub mod Closure
pub mod Passes
