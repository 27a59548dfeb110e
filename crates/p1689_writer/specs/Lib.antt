pub mod Document
pub mod Puts
