-- The facts about what the disks answered and what cubs sent of it.
use Rattle.std.specs.Prelude.{◌≡◌, ℕ, ◌<◌, ◌≤◌, true, Option, Some, None, ◌⊎◌}
use Rattle.tiger_base.specs.Span.{LibraryPart}
use Rattle.tiger_base.specs.declared.part.Span.{Span}
use Rattle.tiger_base.specs.declared.number.Instance.{Instance}
use Rattle.tiger_base.specs.declared.number.LinkNo.{LinkNo}
use Rattle.tiger_base.specs.declared.number.SlotNo.{SlotNo}
use Rattle.tiger_base.specs.declared.tenancy.Tenancy.{Tenancy}
use Rattle.tiger_base.specs.declared.message.Msg.TheVariants as msg
use Rattle.tiger_base.specs.Notes.{noted}
use Rattle.slot_plan.specs.declared.params.Params.{Params}
use Rattle.partial_view.specs.declared.line.Line.{Line}
use Rattle.node_kit.specs.Form.{is_in_form}
use Rattle.node_kit.specs.Steps.Input.{Take}
use Rattle.node_kit.specs.Ways.{way_ahead, predecessor}
use Rattle.cub_rules.specs.declared.store.Store.{Store}
use Rattle.disk_core.specs.State.{DiskState}
use Rattle.disk_core.specs.Rules.{is_faulty}
use Rattle.proof_lives.specs.Lives.{Lives, store_at}
use Rattle.lists.specs.Elements.{In}
use Rattle.proof_lives.specs.Facts.{TookMessage}
use Rattle.proof_service.specs.ServiceFacts.{ServiceFacts}
use Rattle.proof_facts.specs.Pieces.{piece, want, stamp_of, HasOwn, SendsPart}

-- Of what it keeps a cub has a record for piece j: the visit's own record for the whole block, and
-- else the piece's record.
abbrev pub HasRecord : Store → Tenancy → ℕ → ℕ → Type 0
HasRecord h t n j =
    ((j ≡ 0) × (x : Line) × HasOwn h t n x) ⊎ ((1 ≤ j) × In (piece t n j) h.pieces.items)

-- In beat b cub c took a disk's answer, in form, to the want of piece j, and it had a record for it.
pub record AnsweredAt (p : Params) (lives : Lives) (c : ℕ) (t : Tenancy) (n j b : ℕ)
    (part : Option LibraryPart) : Type 0 where
  pub small : c < p.cubs
  pub at : ℕ
  pub done : at < lives.count c
  pub reading : ℕ
  pub link : LinkNo
  pub is : lives.input c at ≡ Take (stamp_of b reading) link (msg.ReadDone (want t n j) part)
  pub formed : is_in_form p (noted (msg.ReadDone (want t n j) part)) ≡ true
  pub there : HasRecord (store_at p c (lives.input c) at) t n j

-- The answer had a part.
pub record StoredAt (p : Params) (lives : Lives) (c : ℕ) (t : Tenancy) (n j b : ℕ) : Type 0 where
  pub part : LibraryPart
  pub answered : AnsweredAt p lives c t n j b (Some part)

-- What cub c sent the viewers in beat b of piece j are these bytes of a file.
pub record SendsAt (p : Params) (lives : Lives) (c : ℕ) (t : Tenancy) (n j b : ℕ)
    (span : Span) : Type 0 where
  pub part : LibraryPart
  pub sends : SendsPart p lives c t n j b part
  pub of_part : part.span ≡ span

-- In beat b cub c took the kill of the pieces of visit n of instance v.
pub record KilledAt (p : Params) (lives : Lives) (c v n b : ℕ) : Type 0 where
  pub instance : Instance
  pub same : instance.0 ≡ v
  pub slot : SlotNo
  pub took : TookMessage p lives c (msg.Kill instance slot n) b

-- In beat b cub c was told by its predecessor that it is back, and from when on it serves.
pub record TookBackAt (p : Params) (lives : Lives) (c from b : ℕ) : Type 0 where
  pub took : TookMessage p lives c (msg.Back from) b
  pub link : took.link.0 ≡ (way_ahead p (predecessor p c) 1).0

-- The facts about blocks of these lives, over these disks.
abbrev pub blocks_by : Params → Lives → (ℕ → DiskState) → ServiceFacts
blocks_by p lives disk_at = record {
  Stored = StoredAt p lives;
  Failed = λ c t n j b. AnsweredAt p lives c t n j b None;
  Sends = SendsAt p lives;
  Struck = λ disk b. is_faulty (disk_at disk).faults disk b ≡ true;
  Killed = KilledAt p lives;
  TookBack = TookBackAt p lives;
}
