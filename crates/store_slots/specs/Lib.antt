-- Definitions on a store that is lent as a slice of readings.
pub mod Slots
