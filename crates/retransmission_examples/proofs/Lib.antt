-- That run computed, and the theorem applied to it.
pub mod SentBack
