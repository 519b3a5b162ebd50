-- A rule done on state, store and area.
pub mod Done
