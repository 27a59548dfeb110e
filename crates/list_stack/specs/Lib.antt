pub mod Stacks
pub mod Places
