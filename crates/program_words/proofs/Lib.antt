pub mod FolderCount
pub mod OptionLemmas
pub mod NumberLemmas
pub mod ParseLemmas
pub mod PartLemmas
pub mod RangeLemmas
pub mod ShortRows
