-- The calls that texts make.
pub mod Dispatch
pub mod Behind
