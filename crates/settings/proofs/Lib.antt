-- Laws on the settings line.
pub mod SettingsLines
pub mod Exact
pub mod Lengths
