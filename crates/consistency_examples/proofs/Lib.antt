-- The listing computed, and demand 3 and the count of steps applied to it; an outage computed, and the heat balance applied to it.
pub mod Surely
pub mod Computed
pub mod Listing
pub mod Counted
pub mod Balanced
