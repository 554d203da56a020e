pub mod Load
pub mod Answer
pub mod Passed
