-- The two tables of examples, proved.
pub mod Starred
pub mod SendBack
