-- Definitions on places of readings.
pub mod Places
