-- Laws on the rules of a step over heads and columns.
pub mod StableEnd
pub mod SmallHeads
pub mod Overdue
pub mod InOrder
pub mod Asked
