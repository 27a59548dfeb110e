pub mod Parts
pub mod Lookups
pub mod Jumps
pub mod Standing
pub mod Taking
pub mod UnitInside
pub mod Turns
pub mod Told
