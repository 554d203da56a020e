pub mod Arrays
pub mod Images
pub mod Validity
pub mod Written
pub mod Phases
pub mod Acts
pub mod Linking
pub mod Aimed
