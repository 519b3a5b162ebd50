-- Laws on a turn.
pub mod Turns
