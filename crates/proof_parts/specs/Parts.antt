-- What becomes of the parts that a cub stores: how they come, how long they stay.
use Rattle.std.specs.Prelude.{◌≡◌, ℕ, suc, ◌+◌, ◌*◌, ◌<◌, ◌≤◌, true, List, Option, Some, None, ◌⊎◌}
use Rattle.tiger_base.specs.Span.{LibraryPart}
use Rattle.tiger_base.specs.declared.number.LinkNo.{LinkNo}
use Rattle.tiger_base.specs.declared.number.Stamp.{Stamp}
use Rattle.tiger_base.specs.declared.tenancy.Want.{Want}
use Rattle.tiger_base.specs.declared.message.Msg.{Msg}
use Rattle.tiger_base.specs.declared.message.Msg.TheVariants as msg
use Rattle.tiger_base.specs.Notes.{noted}
use Rattle.slot_plan.specs.declared.params.Params.{Params}
use Rattle.node_kit.specs.declared.journal.What.TheVariants as what
use Rattle.node_kit.specs.declared.outbox.Out.TheVariants as out
use Rattle.node_kit.specs.Form.{is_in_form}
use Rattle.node_kit.specs.Steps.{Input}
use Rattle.node_kit.specs.Steps.Input.{Take, Tick}
use Rattle.cub_rules.specs.declared.store.StoredPart.{StoredPart}
use Rattle.cub_rules.specs.Messages.{is_wanted}
use Rattle.cub_rules.specs.Records.{stored_for}
use Rattle.cub_rules.specs.Ticks.{is_stale}
use Rattle.disk_core.specs.State.{DiskState}
use Rattle.disk_core.specs.Rules.{read_part}
use Rattle.proof_lives.specs.Lives.{Lives, store_at, outs_in}
use Rattle.lists.specs.Elements.{In}
use Rattle.proof_lives.specs.Facts.{TookMessage}
use Rattle.proof_lives.specs.HoldsHere.{AreAllFormed}
use Rattle.proof_facts.specs.Carried.{AskedDisk, AnswersAsk, DisksAnswer}
use Rattle.proof_lives.specs.FactsBy.{Beyond, CameToTick, cubs_alone}

-- A part that a cub keeps before its input of number i came by a disk's answer, in form, to its
-- want, when the cub had a record for that; and the cub keeps it since.
pub record CameByAnswer (p : Params) (c : ℕ) (inputs : ℕ → Input Msg) (i : ℕ)
    (x : StoredPart) : Type 0 where
  pub at : ℕ
  pub before : at < i
  pub stamp : Stamp
  pub link : LinkNo
  pub is : inputs at ≡ Take stamp link (msg.ReadDone x.want (Some x.part))
  pub formed : is_in_form p (noted (msg.ReadDone x.want (Some x.part))) ≡ true
  pub wanted : is_wanted x.want (store_at p c inputs at) ≡ true
  pub stays : (k : ℕ) → at < k → k ≤ i → In x (store_at p c inputs k).parts

-- It came so, and is what a disk read that the cub had asked for it.
pub record CameFromDisk (p : Params) (lives : Lives) (beyond : Beyond) (disk_at : ℕ → DiskState)
    (c i : ℕ) (x : StoredPart) : Type 0 where
  pub came : CameByAnswer p c (lives.input c) i x
  pub read : AnswersAsk p beyond disk_at c x.want (Some x.part) came.stamp.beat

-- An input may cost a cub a part: a deschedule of its instance, a kill of its visit if it is a
-- piece, or a tick at which it is stale.
abbrev pub MayCost : Params → Input Msg → StoredPart → Type 0
MayCost p (Take stamp link (msg.Deschedule v tag)) x = x.want.instance.0 ≡ v.0
MayCost p (Take stamp link (msg.Kill v slot n)) x =
    (x.want.instance.0 ≡ v.0) × (x.want.visit ≡ n) × (1 ≤ x.want.piece)
MayCost p (Take stamp link other) x = ⊥
MayCost p (Tick stamp) x = is_stale p stamp.reading x ≡ true

-- Some input may have cost a cub a part: one from a number on, and before another.
pub record MayBeLost (p : Params) (inputs : ℕ → Input Msg) (x : StoredPart)
    (from until : ℕ) : Type 0 where
  pub at : ℕ
  pub since : from ≤ at
  pub before : at < until
  pub costs : MayCost p (inputs at) x

-- A part is found for a want among those that are stored, and it is one of that want.
pub record IsFound (want : Want) (parts : List StoredPart) : Type 0 where
  pub part : LibraryPart
  pub found : stored_for want parts ≡ Some part
  pub there : In (record { want = want; part = part }) parts

-- What a cub does at its input of number i with an answer for which it has a record: it stores the
-- part, or writes down that the read failed.
abbrev pub IsKept : Params → Lives → ℕ → ℕ → Want → Option LibraryPart → Type 0
IsKept p lives c i want (Some part) =
    In (record { want = want; part = part }) (store_at p c (lives.input c) (suc i)).parts
IsKept p lives c i want None = In (out.Act (what.ReadFailed want)) (outs_in p lives c i)

-- What cub c asked of a disk for a want in beat x was read in a later beat, and the cub took the
-- answer in one after that, two ways later at the latest. If it had a record for it then, it kept
-- the part, or wrote down that the read failed.
pub record IsTakenBack (p : Params) (lives : Lives) (s : DiskState) (c : ℕ) (want : Want)
    (x : ℕ) : Type 0 where
  pub taken : ℕ
  pub beat : ℕ
  pub took : TookMessage p lives c (msg.ReadDone want (read_part s taken want)) beat
  pub read : x < taken
  pub before : taken < beat
  pub soon : beat ≤ x + 2 * p.delay
  pub kept : is_wanted want (store_at p c (lives.input c) took.at) ≡ true
      → IsKept p lives c took.at want (read_part s taken want)

-- ---- what is claimed of every life

-- Each part that a cub keeps came by an answer.
abbrev pub PartsComeByAnswers : Type 0
PartsComeByAnswers = (p : Params) (c : ℕ) (inputs : ℕ → Input Msg) (i : ℕ) (x : StoredPart)
    → In x (store_at p c inputs i).parts → CameByAnswer p c inputs i x

-- A part stays until an input may cost it.
abbrev pub PartsStay : Type 0
PartsStay = (p : Params) (c : ℕ) (inputs : ℕ → Input Msg) (j i : ℕ) (x : StoredPart)
    → j ≤ i → In x (store_at p c inputs j).parts
    → In x (store_at p c inputs i).parts ⊎ MayBeLost p inputs x j i

-- While a part of a want is stored, one is found for it.
abbrev pub PartsAreFound : Type 0
PartsAreFound = (want : Want) (x : StoredPart) (parts : List StoredPart)
    → In x parts → x.want ≡ want → IsFound want parts

-- What a cub asks of a disk is taken back, and what a cub keeps was read by a disk that it asked.
pub record AreRead (p : Params) (lives : Lives) (disk_at : ℕ → DiskState) : Type 0 where
  pub back : (c disk x b : ℕ) (want : Want)
      → AskedDisk p lives c disk want x → CameToTick p lives c b → x + 2 * p.delay ≤ b
      → IsTakenBack p lives (disk_at disk) c want x
  pub from : (c i : ℕ) (x : StoredPart)
      → c < p.cubs → i ≤ lives.count c → In x (store_at p c (lives.input c) i).parts
      → CameFromDisk p lives (cubs_alone p lives) disk_at c i x

-- So it is in all lives of cubs whose disks answer.
abbrev pub PartsAreRead : Type 0
PartsAreRead = (p : Params) (lives : Lives) (disk_at : ℕ → DiskState)
    → AreAllFormed p lives → DisksAnswer p lives (cubs_alone p lives) disk_at
    → AreRead p lives disk_at
