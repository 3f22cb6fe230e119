-- What is due for a pattern and a line, and what the code hands over.
pub mod Answer
pub mod Cuts
pub mod Inner
