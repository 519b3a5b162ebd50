-- What is decided of a call is what it answers; where a step lacks places.
pub mod LackingPlaces
pub mod Stores
pub mod InOrder
pub mod Answers
