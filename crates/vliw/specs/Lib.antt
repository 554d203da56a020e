pub mod Run
pub mod Cell
pub mod Machine
pub mod Plain
pub mod Schedule
pub mod Demand3
