pub mod JobLists
pub mod MadeMaps
pub mod EndsOver
pub mod StoreEnds
