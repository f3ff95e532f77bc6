-- All that is promised of a kept run to a user of the program, and what it follows from.
use Rattle.node_kit.specs.declared.course.Kept.{Kept}
use Rattle.run_promises.specs.Kept.{IsKeptWell}
use Rattle.run_promises.specs.Placing.{EachVisitIsTried, AFreeVisitIsEnough, NobodyWaitsBesideAFreeSlot, WhoFindsRoomIsPut, AnEmptyRingPutsSoon, TheFirstBlockIsDueSoon}
use Rattle.run_promises.specs.House.{WhoPressesPlayIsServed}
use Rattle.run_promises.specs.Served.{WhatNothingHindersComes, OneDeathCostsOneBlock}
use Rattle.run_promises.specs.Reports.{EachReasonIsTrue}
use Rattle.run_promises.specs.Stops.{AStoppedViewerIsGone}

-- the promises
pub record KeepsPromises (k : Kept) : Type 0 where
  pub tried : EachVisitIsTried k
  pub enough : AFreeVisitIsEnough k
  pub turn : NobodyWaitsBesideAFreeSlot k
  pub room : WhoFindsRoomIsPut k
  pub empty : AnEmptyRingPutsSoon k
  pub soon : TheFirstBlockIsDueSoon k
  pub house : WhoPressesPlayIsServed k
  pub comes : WhatNothingHindersComes k
  pub one_death : OneDeathCostsOneBlock k
  pub reasons : EachReasonIsTrue k
  pub stops : AStoppedViewerIsGone k

-- each kept run keeps them
abbrev pub KeptRunsKeepPromises : Type 0
KeptRunsKeepPromises = (k : Kept) → IsKeptWell k → KeepsPromises k
