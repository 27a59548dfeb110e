pub mod NormalLemmas
pub mod WritingLemmas
pub mod FolderLemmas
pub mod CandidateLemmas
