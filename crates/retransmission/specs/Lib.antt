-- The send-back store: its sizes and its places.
pub mod Sizes
pub mod Places
