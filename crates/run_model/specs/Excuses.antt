-- A visit's block may be missing: a read failed, the block's cub had just died or a piece was lost after its death, and it
-- was not back in time, or the instance was stopped.
use Rattle.std.specs.Prelude.{◌≡◌, ℕ, ◌+◌, ◌*◌, ◌<◌, ◌≤◌, List, ◌⊎◌}
use Rattle.tiger_base.specs.declared.tenancy.Tenancy.{Tenancy}
use Rattle.slot_plan.specs.declared.params.Params.{Params}
use Rattle.slot_plan.specs.Times.{due, cub_of, time_of, takeover}
use Rattle.mirror_pieces.specs.Pieces.{leaving}
use Rattle.node_kit.specs.declared.journal.What.{What}
use Rattle.node_kit.specs.declared.journal.What.TheVariants as what
use Rattle.node_kit.specs.declared.journal.Entry.{Entry}
use Rattle.run_model.specs.Fronts.{AnyByRecursion}
use Rattle.run_model.specs.Served.{journal_at, IsVisitOf}

-- an entry says that the read of a block (piece 0) or of a piece failed, that the node died, that it came back, or that an
-- instance was stopped
abbrev pub IsFailedRead : ℕ → ℕ → ℕ → What → Type 0
IsFailedRead v visit piece (what.ReadFailed want) = (want.instance.0 ≡ v) × (want.visit ≡ visit) × (want.piece ≡ piece)
IsFailedRead v visit piece other = ⊥

abbrev pub IsDeath : What → Type 0
IsDeath what.Died = Unit {0}
IsDeath other = ⊥

abbrev pub IsReturn : What → Type 0
IsReturn what.Returned = Unit {0}
IsReturn other = ⊥

abbrev pub IsStopOf : ℕ → What → Type 0
IsStopOf v (what.Gone instance) = instance.0 ≡ v
IsStopOf v other = ⊥

-- the read failed at a cub
abbrev pub ReadFailed : List (List Entry) → ℕ → ℕ → ℕ → ℕ → Type 0
ReadFailed journals cub v visit piece = AnyByRecursion (λ e. IsFailedRead v visit piece e.what) (journal_at journals cub)

-- a cub died at a true time of which this holds
abbrev pub DiedAt : Params → List (List Entry) → ℕ → (ℕ → Type 0) → Type 0
DiedAt p journals cub When = AnyByRecursion (λ e. IsDeath e.what × When (time_of p e.stamp.beat)) (journal_at journals cub)

-- how long after the reading of its return a cub serves what is due, and lets in what leaves
abbrev pub serves_after : Params → ℕ
serves_after p = p.max_lead + 6 * p.play

abbrev pub lets_in_after : Params → ℕ
lets_in_after p = p.max_lead + 3 * p.play + p.skew

-- a cub came back so early that this time is a span behind the reading of its return, or later
abbrev pub WasBackBy : List (List Entry) → ℕ → ℕ → ℕ → Type 0
WasBackBy journals cub span time =
    AnyByRecursion (λ e. IsReturn e.what × (e.stamp.reading + span ≤ time)) (journal_at journals cub)

-- a cub died before piece k had left, and did not come back in time to let the piece in
abbrev pub DiedBeforePiece : Params → List (List Entry) → Tenancy → ℕ → ℕ → Type 0
DiedBeforePiece p journals t visit k =
    DiedAt p journals (cub_of p (visit + k)) (λ death. death < leaving (due p t.slot.0 visit) k p.play p.pieces + p.beat)
    × (WasBackBy journals (cub_of p (visit + k)) (lets_in_after p) (leaving (due p t.slot.0 visit) k p.play p.pieces) → ⊥)

-- piece k was lost: its read failed anywhere, or its cub died before it had left
abbrev pub PieceIsLost : Params → List (List Entry) → Tenancy → ℕ → ℕ → Type 0
PieceIsLost p journals t visit k =
    AnyByRecursion (λ journal. AnyByRecursion (λ e. IsFailedRead t.instance.0 visit k e.what) journal) journals
    ⊎ DiedBeforePiece p journals t visit k

-- the cub of a visit did not come back in time to serve it: the visit is the tenancy's first, which a cub that came back
-- never serves, or it is due too soon after the return
abbrev pub IsUnservedBack : Params → List (List Entry) → Tenancy → ℕ → Type 0
IsUnservedBack p journals t visit =
    (visit ≡ t.first) ⊎ (WasBackBy journals (cub_of p visit) (serves_after p) (due p t.slot.0 visit) → ⊥)

-- the block's cub died long before and was not back in time, and a piece was lost
pub record LostInPieces (p : Params) (journals : List (List Entry)) (t : Tenancy) (visit : ℕ) : Type 0 where
  pub died : DiedAt p journals (cub_of p visit) (λ death. death + takeover p ≤ due p t.slot.0 visit)
  pub away : IsUnservedBack p journals t visit
  pub piece : ℕ
  pub low : 1 ≤ piece
  pub high : piece ≤ p.pieces
  pub lost : PieceIsLost p journals t visit piece

-- the block's cub died before it had served the visit, and too late for the next one to take over
abbrev pub DiedTooLate : Params → List (List Entry) → Tenancy → ℕ → Type 0
DiedTooLate p journals t visit = DiedAt p journals (cub_of p visit)
    (λ death. (death < due p t.slot.0 visit + p.beat) × (due p t.slot.0 visit < death + takeover p))

-- and it was not back in time
abbrev pub LostInDeath : Params → List (List Entry) → Tenancy → ℕ → Type 0
LostInDeath p journals t visit = DiedTooLate p journals t visit × IsUnservedBack p journals t visit

-- the instance was stopped less than a block play time after the visit was due, or before
abbrev pub WasStopped : Params → List (List Entry) → Tenancy → ℕ → Type 0
WasStopped p journals t visit = AnyByRecursion (λ journal. AnyByRecursion
    (λ e. IsStopOf t.instance.0 e.what × (time_of p e.stamp.beat < due p t.slot.0 visit + p.play)) journal) journals

-- the visit of an instance is excused: by a read, by a piece, by a death or by a stop
pub record IsExcused (p : Params) (journals : List (List Entry)) (v visit : ℕ) : Type 0 where
  pub tenancy : Tenancy
  pub visited : IsVisitOf journals v visit tenancy
  pub excuse : ReadFailed journals (cub_of p visit) tenancy.instance.0 visit 0
      ⊎ (LostInPieces p journals tenancy visit ⊎ (LostInDeath p journals tenancy visit ⊎ WasStopped p journals tenancy visit))
