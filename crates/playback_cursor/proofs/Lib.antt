-- Laws on the cursor.
pub mod WholeLines
pub mod Cuts
pub mod Past
pub mod Refills
pub mod LinesFound
pub mod Turns
