-- Laws on readings in a lent slice, and the slots beside the columns.
pub mod Runs
pub mod Zeroing
pub mod Closing
pub mod Refusing
pub mod Beside
