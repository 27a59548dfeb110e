pub mod Known
pub mod Further
pub mod Builders
pub mod Found
pub mod Lines
