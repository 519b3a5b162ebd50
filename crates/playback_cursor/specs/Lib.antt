-- The input cut into lines.
pub mod Cut
pub mod Step
