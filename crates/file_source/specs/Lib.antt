pub mod CameOf
pub mod Givens
pub mod Made
pub mod Scripts
pub mod Sinks
pub mod Texts
