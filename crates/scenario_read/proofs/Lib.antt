pub mod Loop
pub mod Inversions
pub mod ItemFacts
pub mod FileFacts
pub mod EventFacts
pub mod DeathFacts
pub mod Sounds
pub mod OrderFacts
