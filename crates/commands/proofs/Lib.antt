-- Laws on the lines of commands.
pub mod CommandLines
pub mod Exact
