-- Laws on the tests of refusals 3 to 5.
pub mod Short
pub mod LinesInShape
pub mod Whole
pub mod FirstRefusal
