-- The laws of the definitions, in reading order.
-- Lists; then source 000: no matched string extends to a longer matched one, so no line is cut differently.
pub mod Lists
pub mod Prefix
pub mod Alike
-- The test by pairs fails exactly if some matched string extends to a longer matched one.
pub mod Accepts
pub mod Pairs
-- The search for the pairs, and the test as a function.
pub mod Closing
pub mod Worklist
pub mod Live
pub mod Test
-- Small cases.
pub mod Cases
