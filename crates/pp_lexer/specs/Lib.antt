pub mod Reads
pub mod Lexemes
pub mod Brackets
pub mod Classes
