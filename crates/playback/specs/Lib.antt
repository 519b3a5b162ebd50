-- The whole of a playback.
pub mod Run
