-- Laws on areas.
pub mod Laid
pub mod Runs
pub mod ThreeRuns
pub mod FourRuns
pub mod Lent
