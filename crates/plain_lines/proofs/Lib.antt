pub mod Chains
pub mod DirectiveLemmas
pub mod Places
pub mod GroupLemmas
pub mod ConditionLemmas
pub mod ActLemmas
pub mod PragmaLemmas
pub mod Utf8Lemmas
