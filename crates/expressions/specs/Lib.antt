pub mod Grammar
pub mod Meaning
pub mod Reader
pub mod Skipped
pub mod Valued
pub mod Promise
