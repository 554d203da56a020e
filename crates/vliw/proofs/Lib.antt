pub mod Lists
pub mod Runs
pub mod Order
pub mod Flight
pub mod Settle
pub mod Demand3
pub mod Stops
