-- Laws of a turn.
pub mod Steps
pub mod Turns
