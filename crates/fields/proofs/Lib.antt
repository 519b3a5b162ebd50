-- Laws on lines and keyed fields.
pub mod Lines
pub mod Keys
pub mod Words
pub mod Spells
pub mod Fields
pub mod Behind
