-- Laws on the tests of a call: in a row, and on the line that a state and a store hold.
pub mod Halves
pub mod Lines
