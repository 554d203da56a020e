pub mod Range
pub mod Products
pub mod Decimals
