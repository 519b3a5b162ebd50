-- Definitions on the store's columns: tests over a share.
pub mod Shape
pub mod Tests
pub mod Steps
