pub mod Bytes
pub mod Ways
pub mod Places
pub mod Found
pub mod Same
pub mod Prefixes
