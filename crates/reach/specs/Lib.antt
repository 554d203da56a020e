pub mod Nexts
pub mod Laid
pub mod Near
