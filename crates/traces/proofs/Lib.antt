-- The laws of the definitions, in reading order.
pub mod Cases
pub mod Lists
-- Forgetting the traces gives theory's list.
pub mod Forget
-- Brackets nest.
pub mod Nest
-- The rows, a line that grows by a byte, and the list from its head on.
pub mod Rows
pub mod Extend
pub mod Head
-- The rows of sets, and the pass forward.
pub mod Natural
pub mod Pass
pub mod Fields
-- For code: the rows part by part, each outcome once, and theory's closures.
pub mod Firsts
pub mod Sets
