-- Laws on words as bytes.
pub mod LittleEndian
