mod Signed
mod Modulo
mod Bits
mod Order
pub mod Product
pub mod Bounds
mod Rows
mod Unique
mod OneTable
