pub mod TableLemmas
pub mod Utf8Lemmas
pub mod QuotedLemmas
pub mod RawLemmas
pub mod JoiningLemmas
