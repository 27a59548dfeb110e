pub mod LogLemmas
pub mod DeskLemmas
pub mod IndexLemmas
