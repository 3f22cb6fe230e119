-- The bits of unions, intersections and single leaves, and the least leaf of a set.
pub mod Bits
pub mod Leaves
