pub mod Link
pub mod Instruction
pub mod Image
pub mod State
pub mod Valid
