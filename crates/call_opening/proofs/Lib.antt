-- Laws on the opening, and on the state before it.
pub mod Openings
pub mod Closed
