pub mod Reading
pub mod Schedule
pub mod Moments
pub mod Moving
pub mod Order
pub mod Asks
