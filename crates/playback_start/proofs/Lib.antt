-- Laws on the beginning of a playback.
pub mod Fronts
pub mod Starts
