pub mod Instance
pub mod Stays
pub mod Fits
