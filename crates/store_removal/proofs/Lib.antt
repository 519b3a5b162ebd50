-- Laws on runs of readings moved down, on the readings that stay, and on a bucket's readings taken out run by run.
pub mod Moved
pub mod Staying
pub mod Removed
