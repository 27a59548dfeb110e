pub mod Alone
pub mod Numbers
pub mod Options
pub mod Words
