-- Laws of the pass over an instruction's operations.
pub mod Opcodes
pub mod Growth
pub mod Idle
pub mod Effects
pub mod OnePass
pub mod Passes
