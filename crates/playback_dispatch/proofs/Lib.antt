-- Laws on the calls that texts make.
pub mod CatchingUp
pub mod Dispatching
pub mod Few
