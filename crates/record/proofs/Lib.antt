-- Laws on output records.
pub mod BytesOf
pub mod Form
pub mod Decoding
pub mod Stores
pub mod AllBytes
