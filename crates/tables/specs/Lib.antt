pub mod Table
pub mod Bounds
