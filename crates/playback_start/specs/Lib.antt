-- The settings played, and how a playback begins.
pub mod Answered
pub mod Start
