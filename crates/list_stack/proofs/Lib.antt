pub mod ListLemmas
pub mod MeaningLemmas
pub mod PartLemmas
pub mod FoundLemmas
pub mod EntryLemmas
pub mod PlaceLemmas
pub mod StackLemmas
