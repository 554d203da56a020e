pub mod Grammar
pub mod Heard
pub mod Walk
pub mod Labels
pub mod Reader
pub mod Seek
pub mod Each
pub mod Promise
