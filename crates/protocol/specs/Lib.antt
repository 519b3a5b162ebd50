-- The node's meaning, apart from bytes and places: lines, rules, refusals 7 to 17; what it is measured against: the monitor, the
-- failure-free run, undos applied; and demand 3 on it.
pub mod Kinds
pub mod Node
pub mod Rules
pub mod Tests
pub mod Displays
pub mod Refusals
pub mod Calls
pub mod Monitor
pub mod FailureFree
pub mod Undos
pub mod Runs
pub mod StepCount
pub mod Demand
pub mod SentBack
