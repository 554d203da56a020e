pub mod Digits
pub mod Finding
pub mod Firsts
pub mod Programs
pub mod Tables
pub mod Heads
