pub mod MemberLemmas
pub mod ListLemmas
pub mod ValueLemmas
