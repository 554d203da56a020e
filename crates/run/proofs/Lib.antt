-- Laws of the run.
pub mod Endings
