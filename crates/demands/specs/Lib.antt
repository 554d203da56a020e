pub mod Calls
pub mod Exact
pub mod Demand1
pub mod Demand2
pub mod Demand3
