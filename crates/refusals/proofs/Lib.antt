pub mod Walks
pub mod Last
pub mod Turns
pub mod Takes
pub mod Stamps
