pub mod TestLemmas
pub mod NameLemmas
pub mod OutcomeLemmas
pub mod SiteLemmas
pub mod DispatchLemmas
pub mod ValueLemmas
pub mod KeywordLemmas
pub mod NumberLemmas
