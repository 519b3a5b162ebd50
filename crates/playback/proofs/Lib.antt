-- Laws on the playback of an input.
pub mod Reached
pub mod Ended
