pub mod Wrong
pub mod Schedules
pub mod WrongRun
pub mod Checked
pub mod Clusters
pub mod Promise
