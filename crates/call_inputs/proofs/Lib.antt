-- Laws on what an accepted input does to its line.
pub mod OneInput
