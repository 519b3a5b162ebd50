-- Laws on rule 4: what it leaves.
pub mod Tentative
