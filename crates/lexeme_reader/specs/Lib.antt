pub mod Character
pub mod Fronts
pub mod Headers
pub mod Names
pub mod Numbers
pub mod Passes
pub mod Quotes
pub mod Raws
