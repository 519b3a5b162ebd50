-- Laws on the send-back store: its places, and results laid, given up and fetched.
pub mod Pieces
pub mod Places
pub mod Stores
pub mod Laying
pub mod Passing
pub mod Fetching
pub mod Emptied
