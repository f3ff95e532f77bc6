-- Which changes are made in which stage: a cause of one that is not made there is absurd.
use Rattle.std.proofs.Common.{ℕ}
use Rattle.tiger_base.specs.declared.number.Stamp.{Stamp}
use Rattle.slot_plan.specs.declared.params.Params.{Params}
use Rattle.cub_rules.specs.declared.store.Store.{Store}
use Rattle.cub_changes.specs.Changes.{Change}
use Rattle.cub_changes.specs.Changes.Change.{TakeRecord, Queue, QueueApart, AddPiece, Release, Believe, PutStart, SendFirst, SendPlaced, SplitVisits, Forward, AskBlocks, AskPieces, ServeBlocks, DropBackups, ServePieces, Beat}
use Rattle.cub_changes.specs.Causes.{Stage, Cause}
use Rattle.cub_changes.specs.Causes.Stage.{OnMessage, OnRelease, OnDeadman, OnInsertion, OnService}

abbrev pub IsOfMessage : Change → Type 0
IsOfMessage Release = ⊥
IsOfMessage Believe = ⊥
IsOfMessage (PutStart t) = ⊥
IsOfMessage (SendFirst t) = ⊥
IsOfMessage SplitVisits = ⊥
IsOfMessage Forward = ⊥
IsOfMessage AskBlocks = ⊥
IsOfMessage AskPieces = ⊥
IsOfMessage ServeBlocks = ⊥
IsOfMessage DropBackups = ⊥
IsOfMessage ServePieces = ⊥
IsOfMessage Beat = ⊥
IsOfMessage other = Unit {0}

abbrev pub IsOfRelease : Change → Type 0
IsOfRelease Release = Unit {0}
IsOfRelease other = ⊥

abbrev pub IsOfDeadman : Change → Type 0
IsOfDeadman Believe = Unit {0}
IsOfDeadman other = ⊥

abbrev pub IsOfInsertion : Change → Type 0
IsOfInsertion (TakeRecord r) = Unit {0}
IsOfInsertion (PutStart t) = Unit {0}
IsOfInsertion (SendFirst t) = Unit {0}
IsOfInsertion (SendPlaced t) = Unit {0}
IsOfInsertion other = ⊥

abbrev pub IsOfService : Change → Type 0
IsOfService (AddPiece x) = Unit {0}
IsOfService SplitVisits = Unit {0}
IsOfService Forward = Unit {0}
IsOfService AskBlocks = Unit {0}
IsOfService AskPieces = Unit {0}
IsOfService ServeBlocks = Unit {0}
IsOfService DropBackups = Unit {0}
IsOfService ServePieces = Unit {0}
IsOfService Beat = Unit {0}
IsOfService other = ⊥

-- a change may be made in a stage
abbrev pub Fits : Stage → Change → Type 0
Fits (OnMessage link m) x = IsOfMessage x
Fits OnDeadman x = IsOfDeadman x
Fits OnInsertion x = IsOfInsertion x
Fits OnRelease x = IsOfRelease x
Fits OnService x = IsOfService x

module _ (p : Params) (c : ℕ) (stamp : Stamp) (from : Store) where
  pub fits : (g : Stage) (x : Change) (h : Store) → Cause p c stamp g from x h → Fits g x
  fits (OnMessage link m) Believe h a = a.0
  fits (OnMessage link m) (PutStart t) h a = a.0
  fits (OnMessage link m) (SendFirst t) h a = a.0
  fits (OnMessage link m) SplitVisits h a = a.0
  fits (OnMessage link m) Beat h a = a.0
  fits (OnMessage link m) Release h a = a
  fits (OnMessage link m) Forward h a = a
  fits (OnMessage link m) AskBlocks h a = a
  fits (OnMessage link m) AskPieces h a = a
  fits (OnMessage link m) ServeBlocks h a = a
  fits (OnMessage link m) DropBackups h a = a
  fits (OnMessage link m) ServePieces h a = a
  fits (OnMessage link m) other h a = tt
  fits OnDeadman Believe h a = tt
  fits OnDeadman (TakeRecord r) h a = a.0
  fits OnDeadman (Queue b) h a = a.0
  fits OnDeadman (QueueApart b) h a = a.0
  fits OnDeadman (AddPiece x) h a = a.0
  fits OnDeadman (PutStart t) h a = a.0
  fits OnDeadman (SendFirst t) h a = a.0
  fits OnDeadman SplitVisits h a = a.0
  fits OnDeadman Beat h a = a.0
  fits OnDeadman other h a = a
  fits OnInsertion (TakeRecord r) h a = tt
  fits OnInsertion (PutStart t) h a = tt
  fits OnInsertion (SendFirst t) h a = tt
  fits OnInsertion (SendPlaced t) h a = tt
  fits OnInsertion (Queue b) h a = a.0
  fits OnInsertion (QueueApart b) h a = a.0
  fits OnInsertion (AddPiece x) h a = a.0
  fits OnInsertion Believe h a = a.0
  fits OnInsertion SplitVisits h a = a.0
  fits OnInsertion Beat h a = a.0
  fits OnInsertion other h a = a
  fits OnRelease Release h a = tt
  fits OnRelease (TakeRecord r) h a = a.0
  fits OnRelease (Queue b) h a = a.0
  fits OnRelease (QueueApart b) h a = a.0
  fits OnRelease (AddPiece x) h a = a.0
  fits OnRelease Believe h a = a.0
  fits OnRelease (PutStart t) h a = a.0
  fits OnRelease (SendFirst t) h a = a.0
  fits OnRelease SplitVisits h a = a.0
  fits OnRelease Beat h a = a.0
  fits OnRelease other h a = a
  fits OnService (AddPiece x) h a = tt
  fits OnService SplitVisits h a = tt
  fits OnService Forward h a = tt
  fits OnService AskBlocks h a = tt
  fits OnService AskPieces h a = tt
  fits OnService ServeBlocks h a = tt
  fits OnService DropBackups h a = tt
  fits OnService ServePieces h a = tt
  fits OnService Beat h a = tt
  fits OnService (TakeRecord r) h a = a.0
  fits OnService (Queue b) h a = a.0
  fits OnService (QueueApart b) h a = a.0
  fits OnService Believe h a = a.0
  fits OnService (PutStart t) h a = a.0
  fits OnService (SendFirst t) h a = a.0
  fits OnService other h a = a
