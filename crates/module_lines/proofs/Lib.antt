pub mod Texts
pub mod DottedNames
pub mod Statements
pub mod KnownNames
