-- The law of both spans.
mod Both
