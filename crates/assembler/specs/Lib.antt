pub mod Faults
pub mod Program
pub mod Answer
pub mod Passes
pub mod Promise
pub mod Examples
