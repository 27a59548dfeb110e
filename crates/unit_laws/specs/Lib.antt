pub mod Reduction
pub mod Growth
pub mod KnownAnswers
pub mod Streams
pub mod Skipping
pub mod Chain
pub mod Splicing
