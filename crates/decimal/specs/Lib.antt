-- Decimal numbers in text: how they are written, and what a text spells.
pub mod Decimal
pub mod Spelled
