pub mod LastSeparator
pub mod OptionLemmas
pub mod SizeLemmas
pub mod Utf8Paths
pub mod WalkLemmas
