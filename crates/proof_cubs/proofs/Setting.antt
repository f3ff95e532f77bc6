-- What the laws of cubs rest on, for any knowledge that goes beyond the cubs' lives.
use Rattle.slot_plan.specs.declared.params.Params.{Params}
use Rattle.slot_plan.specs.Conditions.{IsPlan}
use Rattle.proof_lives.specs.Lives.{Lives, AreLives}
use Rattle.proof_lives.specs.HoldsHere.{AreAllFormed}
use Rattle.proof_lives.specs.FactsBy.{Beyond}
use Rattle.proof_lives.proofs.Fitting.{Fits}

-- The cubs of a plan have lives, and the messages that they take are in form. What is known beyond their lives fits them.
pub record Setting (p : Params) (lives : Lives) (beyond : Beyond) : Type 0 where
  pub plan : IsPlan p
  pub lived : AreLives p lives
  pub formed : AreAllFormed p lives
  pub fits : Fits p lives beyond
