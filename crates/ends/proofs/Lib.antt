-- The laws of the ends: of the last end that leaves lead to, of runs of bytes that keep a standing, and of the greedy end.
mod Lasts
mod Runs
mod Forward
