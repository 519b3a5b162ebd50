-- What is decided of a call.
pub mod Deciding
pub mod Stores
