-- The customer's starred examples as one table, and examples of the send-back store's rules.
pub mod Given
pub mod Starred
pub mod SendBack
