pub mod Lists
pub mod Meaning
pub mod States
pub mod Cuts
pub mod Straight
