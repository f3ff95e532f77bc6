pub mod ReadParts
pub mod StoredParts
pub mod KeptDisks
pub mod NumberSums
pub mod CountedParts
pub mod PushedTexts
