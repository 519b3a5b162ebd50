-- Laws on what the displays have acknowledged.
pub mod Spans
pub mod Highest
pub mod Near
