pub mod Refusals
pub mod Counts
pub mod Ways
pub mod Taken
pub mod Subroutines
pub mod Chain
