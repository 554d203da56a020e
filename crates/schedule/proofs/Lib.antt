pub mod Laid
pub mod Keeping
pub mod Longest
pub mod Naming
pub mod Stamps
pub mod Soon
pub mod Once
