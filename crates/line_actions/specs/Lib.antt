pub mod Sites
pub mod Replaced
pub mod Numbers
pub mod Names
pub mod Tests
pub mod Kinds
pub mod Sent
