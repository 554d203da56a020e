pub mod Answers
pub mod Operators
pub mod Seeking
pub mod Tables
