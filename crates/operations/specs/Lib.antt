pub mod Table
pub mod Grammar
pub mod Meaning
pub mod Reader
pub mod Parsed
pub mod Code
pub mod Promise
