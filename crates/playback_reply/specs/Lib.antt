-- What a playback prints.
pub mod Sizes
pub mod Reply
pub mod Parts
pub mod Put
