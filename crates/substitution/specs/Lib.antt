pub mod Strings
pub mod Meaning
pub mod Joins
pub mod Calls
pub mod Parens
pub mod Written
pub mod Places
