-- Demand 3 on texts, areas, states and stores: lists of calls, their output in bytes, undos applied to it, and the statement;
-- document 02's count of steps, heat balance and send-back store over the same lists.
pub mod Runs
pub mod Accounts
pub mod Demand
pub mod Plain
pub mod Exactly
pub mod PlainExactly
pub mod Balance
pub mod PlainBalance
pub mod SentBack
pub mod PlainSentBack
