pub mod Rows
pub mod Outputs
