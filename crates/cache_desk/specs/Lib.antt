pub mod Log
pub mod Desk
