-- A line as the tests of a call see it.
pub mod Tests
