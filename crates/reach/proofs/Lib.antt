pub mod Searching
pub mod Growing
pub mod Reaching
pub mod Few
pub mod Once
