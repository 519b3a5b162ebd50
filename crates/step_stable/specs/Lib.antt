-- What the two halves of rule 2 leave.
pub mod Halves
