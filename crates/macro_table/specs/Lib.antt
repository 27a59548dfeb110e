pub mod Definition
pub mod Table
pub mod Entries
pub mod Heads
pub mod Names
