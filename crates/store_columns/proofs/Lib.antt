-- Laws on the store's columns: tests over a share; rows and their columns, what is kept, rows written, and a bucket's places.
pub mod Tests
pub mod Chunks
pub mod Readings
pub mod SmallSteps
pub mod LateDue
pub mod Rows
pub mod Kept
pub mod Written
