-- What is held fixes the state.
pub mod HeldPinned
