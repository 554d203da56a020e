pub mod Memory
pub mod Held
