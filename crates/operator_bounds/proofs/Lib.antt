-- Laws on the bounds of the meters: of one meter, of a loop over them, of operator and checkpoint at once, and of small sums.
pub mod OneMeter
pub mod Turns
pub mod Places
pub mod SmallSums
