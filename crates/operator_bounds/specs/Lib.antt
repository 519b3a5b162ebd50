-- Tests of the meters of operator and checkpoint.
pub mod Places
