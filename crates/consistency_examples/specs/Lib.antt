-- Document 01's listing as calls on a box, and what demand 3's words are on it; how many steps settle it (document 02, W4); the heat
-- balance of an outage (W11).
pub mod Given
pub mod Listing
pub mod Counted
pub mod Balanced
