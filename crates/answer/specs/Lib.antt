-- The numbers that calls answer with, and the refusals that they stand for.
pub mod Numbers
pub mod Refusals
