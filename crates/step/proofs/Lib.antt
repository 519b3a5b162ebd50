-- Laws on a step: what the rule that applies does.
pub mod ByRule
