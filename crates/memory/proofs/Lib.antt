-- Laws of loads and stores.
pub mod Accesses
