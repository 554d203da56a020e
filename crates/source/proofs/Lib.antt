pub mod Cutting
pub mod Heard
pub mod Walks
pub mod Places
pub mod Complete
pub mod Sound
pub mod OneWay
