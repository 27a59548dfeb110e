pub mod Tree
pub mod Search
pub mod Merging
pub mod Growing
pub mod Steps
pub mod Known
