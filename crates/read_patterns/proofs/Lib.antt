-- The line is the one due.
mod Telling
