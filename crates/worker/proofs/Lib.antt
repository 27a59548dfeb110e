pub mod Seeing
pub mod Holds
pub mod Looking
pub mod Running
pub mod Working
