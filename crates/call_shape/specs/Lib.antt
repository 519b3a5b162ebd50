-- What the contracts of the shape's tests say of single columns.
pub mod Lent
