-- Definitions on the text of a record.
pub mod Sizes
pub mod RecordText
pub mod Parts
