mod Sizes
mod ReadLemmas
