pub mod LineLemmas
pub mod MemoryLemmas
pub mod PlanLemmas
pub mod SinkLemmas
pub mod MadeLemmas
