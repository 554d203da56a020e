pub mod Ready
pub mod Calls
