-- What is claimed of cubs: their rules on splits, mirror states and kills meet the laws.
use Rattle.std.specs.Prelude.{ℕ}
use Rattle.slot_plan.specs.declared.params.Params.{Params}
use Rattle.slot_plan.specs.Conditions.{IsPlan}
use Rattle.disk_core.specs.State.{DiskState}
use Rattle.proof_lives.specs.Lives.{Lives, AreLives}
use Rattle.proof_lives.specs.HoldsHere.{AreAllFormed}
use Rattle.proof_facts.specs.Blocks.{blocks_by}
use Rattle.proof_facts.specs.Carried.{CubsAreTold}
use Rattle.proof_lives.specs.FactsBy.{facts_by, cubs_alone, CameToTick}
use Rattle.proof_facts.specs.Laws.{SplitLaws}
use Rattle.proof_facts.specs.Pieces.{pieces_by}

-- Cubs that get messages in form, and are told what other cubs send, split rightly: their rules and
-- the links between them meet the laws of splits, mirror states and kills.
abbrev pub CubsSplitRightly : Type 0
CubsSplitRightly = (p : Params) (lives : Lives)
    → IsPlan p → AreLives p lives → AreAllFormed p lives → CubsAreTold p lives (cubs_alone p lives)
    → (disk_at : ℕ → DiskState)
    → SplitLaws p (facts_by p lives (cubs_alone p lives)) (pieces_by p lives) (pieces_by p lives)
    (blocks_by p lives disk_at) (CameToTick p lives)
