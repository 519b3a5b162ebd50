-- A law on a run of elements moved down.
pub mod Moved
