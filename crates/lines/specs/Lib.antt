-- Lines of the input, the exchange of output for input, and the answers to lines in their order.
pub mod Lines
pub mod Exchange
pub mod Answers
pub mod Steps
