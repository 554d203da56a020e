pub mod Arith
pub mod Value
pub mod Integer
pub mod Laws
pub mod Settled
