-- Lent areas of bytes.
pub mod Laid
