-- What the proofs here share.
pub mod Eight
