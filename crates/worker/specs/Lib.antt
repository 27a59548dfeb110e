pub mod Seen
pub mod Claims
pub mod Shares
pub mod Work
