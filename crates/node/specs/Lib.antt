-- The node on what is really handed over: state, stores, text and area.
pub mod Sizes
pub mod Held
pub mod View
pub mod Shape
pub mod Opening
pub mod Calls
pub mod Displays
