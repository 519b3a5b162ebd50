-- Laws on a display's two calls.
pub mod Answers
pub mod Calls
