pub mod Inserting
pub mod RowLemmas
pub mod StoreLemmas
pub mod PlaceLemmas
pub mod MapLemmas
pub mod StoreRunLemmas
pub mod EndLists
