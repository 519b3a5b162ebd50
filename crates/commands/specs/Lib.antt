-- Definitions on the lines of commands.
pub mod CommandLine
pub mod ReadLine
