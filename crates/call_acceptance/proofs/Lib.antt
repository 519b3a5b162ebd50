-- Laws on an accepted call.
pub mod Held
pub mod AcceptedCalls
