pub mod Exact
pub mod Endings
pub mod Memory
pub mod Taken
pub mod Held
pub mod Demand1
pub mod Demand2
pub mod Demand3
