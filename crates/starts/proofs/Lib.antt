-- The laws of the one set of all starts, of the blocks that a byte carries on, of both passes over them, and of the POSIX span that they give.
mod Opens
mod Carries
mod Finishing
mod Searching
mod Whole
