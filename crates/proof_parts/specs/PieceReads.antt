-- Cubs and their disks meet the laws of asking and serving of mirror pieces.
use Rattle.std.specs.Prelude.{ℕ, ◌≤◌}
use Rattle.slot_plan.specs.declared.params.Params.{Params}
use Rattle.slot_plan.specs.Conditions.{IsPlan}
use Rattle.stripe_layout.specs.declared.catalogue.Catalogue.{Catalogue}
use Rattle.disk_core.specs.State.{DiskState}
use Rattle.proof_lives.specs.Lives.{Lives, AreLives}
use Rattle.proof_lives.specs.HoldsHere.{AreAllFormed}
use Rattle.proof_facts.specs.Blocks.{blocks_by}
use Rattle.proof_lives.specs.FactsBy.{facts_by, cubs_alone, CameToTick}
use Rattle.proof_facts.specs.Laws.{ReadLaws}
use Rattle.proof_facts.specs.Pieces.{pieces_by}
use Rattle.proof_parts.specs.Asks.{HaveDisks}

-- Whatever befalls cubs whose messages are in form, if their disks have the images of a catalogue
-- and answer what they are asked, they meet the laws of asking and serving of pieces.
abbrev pub CubsServePieces : Type 0
CubsServePieces = (p : Params) (catalogue : Catalogue) (lives : Lives) (disk_at : ℕ → DiskState)
    → IsPlan p → AreLives p lives → AreAllFormed p lives
    → HaveDisks p catalogue lives (cubs_alone p lives) disk_at
    → ReadLaws p catalogue (facts_by p lives (cubs_alone p lives)) (pieces_by p lives)
    (blocks_by p lives disk_at) (CameToTick p lives) (λ j. 1 ≤ j)
