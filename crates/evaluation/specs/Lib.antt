pub mod Known
pub mod Evaluated
