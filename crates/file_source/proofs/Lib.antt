mod ReadLemmas
mod TextLemmas
