pub mod Changes
pub mod HeadLemmas
pub mod Distinct
pub mod Ends
pub mod Defines
