-- Laws on rule 2: readings removed line by line, the boundary behind the results, and what the rule leaves.
pub mod Removed
pub mod Boundary
pub mod Stable
