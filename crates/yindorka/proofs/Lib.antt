-- The numbers are the answers.
mod Answers
