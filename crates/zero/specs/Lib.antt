pub mod Zero
pub mod Rebuilt
