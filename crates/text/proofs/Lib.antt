pub mod Puts
pub mod Outputs
