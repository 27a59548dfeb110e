pub mod Computing
pub mod WorkedTexts
pub mod BlankLemmas
pub mod LineLemmas
pub mod LongestLemmas
pub mod QuotedLemmas
pub mod RestLemmas
pub mod LexemeCases
