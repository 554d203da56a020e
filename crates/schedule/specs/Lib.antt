pub mod Rule
pub mod Decodable
pub mod Late
pub mod Stamps
pub mod Answer
