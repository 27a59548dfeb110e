pub mod PlaceLemmas
pub mod NumberLemmas
pub mod RowLemmas
pub mod EndLemmas
pub mod HandLemmas
pub mod ScanLemmas
