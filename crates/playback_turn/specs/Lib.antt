-- What a text that is played leaves, and one turn.
pub mod Replied
pub mod Turn
