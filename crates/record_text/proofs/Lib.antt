-- Laws on the text of a record.
pub mod RecordText
pub mod Longest
pub mod Lent
pub mod Written
