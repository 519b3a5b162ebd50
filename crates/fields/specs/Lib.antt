-- Lines of text: keyed fields joined by single spaces, how one is written and what is read of one.
pub mod Keys
pub mod Line
pub mod Field
pub mod Written
