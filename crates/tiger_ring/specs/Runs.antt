-- What a run of the ring is, in the words of the crates that prove it, passed on: so a crate that stands on this one
-- names none of those.
pub use Rattle.ring_facts.specs.Rings.{IsRingRun}
pub use Rattle.proof_answer.specs.KeptAnswers.{IsOnlyRun}
pub use Rattle.kept_worlds.specs.Worlds.{IsWorld}
pub use Rattle.proof_ring.specs.Beliefs.{BelievesInTime, BeliefsAreInTime}
