pub mod Reply
pub mod Run
