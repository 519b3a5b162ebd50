-- Definitions on the settings and their line.
pub mod Sizes
pub mod Limits
pub mod SettingsLine
pub mod ReadLine
