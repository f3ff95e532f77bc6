pub mod Inversions
pub mod JsonLemmas
