pub mod Hands
pub mod Rooms
pub mod Places
