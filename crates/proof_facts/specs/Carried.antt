-- What the links bring to cubs: what was sent comes in time and in order, and disks answer what they are asked.
use Rattle.std.specs.Prelude.{◌≡◌, ℕ, ◌+◌, ◌*◌, ◌<◌, ◌≤◌, Option, Some}
use Rattle.tiger_base.specs.Span.{LibraryPart}
use Rattle.tiger_base.specs.declared.number.Instance.{Instance}
use Rattle.tiger_base.specs.declared.number.LinkNo.{LinkNo}
use Rattle.tiger_base.specs.declared.number.SlotNo.{SlotNo}
use Rattle.tiger_base.specs.declared.number.Stamp.{Stamp}
use Rattle.tiger_base.specs.declared.tenancy.PieceState.{PieceState}
use Rattle.tiger_base.specs.declared.tenancy.Want.{Want}
use Rattle.tiger_base.specs.declared.message.Msg.{Msg}
use Rattle.tiger_base.specs.declared.message.Msg.TheVariants as msg
use Rattle.slot_plan.specs.declared.params.Params.{Params}
use Rattle.slot_plan.specs.Times.{cub_of, disk_count}
use Rattle.node_kit.specs.declared.outbox.Out.TheVariants as out
use Rattle.node_kit.specs.Links.{links_of, ends_of}
use Rattle.node_kit.specs.Steps.Input.{Take}
use Rattle.node_kit.specs.Ways.{way_ahead, way_to_disk}
use Rattle.disk_core.specs.State.{DiskState}
use Rattle.disk_core.specs.Rules.{read_part}
use Rattle.proof_lives.specs.Lives.{Lives}
use Rattle.proof_lives.specs.Facts.{DidAt, TookMessage}
use Rattle.proof_lives.specs.FactsBy.{Beyond, CameToTick, IsInOneLife}

-- A link leads from one node to another.
abbrev pub Leads : Params → LinkNo → ℕ → ℕ → Type 0
Leads p link from to = ends_of (links_of p) link.0 ≡ Some (from, to)

-- Cub a sent cub c a message on a link, at least one beat before beat y, and at most the greatest
-- delay, and in that life of cub c.
pub record WasSentBy (p : Params) (beyond : Beyond) (a c : ℕ) (link : LinkNo) (m : Msg)
    (y : ℕ) : Type 0 where
  pub beat : ℕ
  pub sent : beyond.Sends a link m beat
  pub later : beat < y
  pub soon : y ≤ beat + p.delay
  pub life : IsInOneLife beyond c beat y

-- Cub a sent a message on a link in beat x or after it.
pub record WasSentSince (beyond : Beyond) (a : ℕ) (link : LinkNo) (m : Msg) (x : ℕ) : Type 0 where
  pub beat : ℕ
  pub sent : beyond.Sends a link m beat
  pub since : x ≤ beat

-- Cub c took a message that was sent on a link in beat x, in time; and whatever it takes on that
-- link later was sent by cub a in that beat or after it.
pub record TookInOrder (p : Params) (lives : Lives) (beyond : Beyond) (a c : ℕ) (link : LinkNo)
    (m : Msg) (x : ℕ) : Type 0 where
  pub at : ℕ
  pub done : at < lives.count c
  pub beat : ℕ
  pub reading : ℕ
  pub is : lives.input c at ≡ Take (record { beat = beat; reading = reading }) link m
  pub later : x < beat
  pub soon : beat ≤ x + p.delay
  pub behind : (i : ℕ) (stamp : Stamp) (o : Msg)
      → at < i → i < lives.count c → lives.input c i ≡ Take stamp link o
      → WasSentSince beyond a link o x

-- A message that cub c took on a link was sent by a cub, as one of those that come so many cubs
-- after it.
pub record CameAhead (p : Params) (beyond : Beyond) (c : ℕ) (link : LinkNo) (m : Msg)
    (y : ℕ) : Type 0 where
  pub from : ℕ
  pub ahead : ℕ
  pub small : from < p.cubs
  pub some : 1 ≤ ahead
  pub way : link ≡ way_ahead p from ahead
  pub to : c ≡ cub_of p (from + ahead)
  pub sent : WasSentBy p beyond from c link m y

-- What the links between cubs bring to one life of each.
pub record CubsAreTold (p : Params) (lives : Lives) (beyond : Beyond) : Type 0 where
  -- A message on a link from a cub was sent by it.
  pub from : (a c i : ℕ) (stamp : Stamp) (link : LinkNo) (m : Msg)
      → Leads p link a c → a < p.cubs → c < p.cubs → i < lives.count c
      → lives.input c i ≡ Take stamp link m
      → WasSentBy p beyond a c link m stamp.beat
  -- A message that a cub sent to another comes in time and in order, if that has not come back since.
  pub to : (a c x b : ℕ) (link : LinkNo) (m : Msg)
      → beyond.Sends a link m x → Leads p link a c → c < p.cubs
      → CameToTick p lives c b → IsInOneLife beyond c x b → x + p.delay ≤ b
      → TookInOrder p lives beyond a c link m x
  -- Only cubs send mirror states.
  pub mirrors : (c i : ℕ) (stamp : Stamp) (link : LinkNo) (x : PieceState)
      → c < p.cubs → i < lives.count c → lives.input c i ≡ Take stamp link (msg.MirrorState x)
      → CameAhead p beyond c link (msg.MirrorState x) stamp.beat
  -- Only cubs send kills.
  pub kills : (c i : ℕ) (stamp : Stamp) (link : LinkNo) (v : Instance) (s : SlotNo) (n : ℕ)
      → c < p.cubs → i < lives.count c → lives.input c i ≡ Take stamp link (msg.Kill v s n)
      → CameAhead p beyond c link (msg.Kill v s n) stamp.beat

-- Cub c asked a disk of its own in a beat of its life.
pub record AskedDisk (p : Params) (lives : Lives) (c disk : ℕ) (want : Want) (b : ℕ) : Type 0 where
  pub inside : disk < disk_count p
  pub own : c ≡ cub_of p disk
  pub ask : DidAt p lives c (out.Send (way_to_disk p disk) (msg.ReadAsk want)) b

-- It asked so in whichever of its lives.
pub record AskedOnce (p : Params) (beyond : Beyond) (c disk : ℕ) (want : Want)
    (b : ℕ) : Type 0 where
  pub inside : disk < disk_count p
  pub own : c ≡ cub_of p disk
  pub ask : beyond.Sends c (way_to_disk p disk) (msg.ReadAsk want) b

-- What cub c asked of a disk in beat x is answered: the disk took the ask in a beat between, and
-- answers what it reads then.
pub record WasAnswered (p : Params) (lives : Lives) (s : DiskState) (c : ℕ) (want : Want)
    (x : ℕ) : Type 0 where
  pub taken : ℕ
  pub beat : ℕ
  pub answer : TookMessage p lives c (msg.ReadDone want (read_part s taken want)) beat
  pub after : x < taken
  pub in_time : taken ≤ x + p.delay
  pub later : taken < beat
  pub soon : beat ≤ taken + p.delay

-- An answer that cub c took in beat y is what a disk read for it, in a beat between the ask and the
-- answer.
pub record AnswersAsk (p : Params) (beyond : Beyond) (disk_at : ℕ → DiskState) (c : ℕ)
    (want : Want) (part : Option LibraryPart) (y : ℕ) : Type 0 where
  pub disk : ℕ
  pub asked : ℕ
  pub taken : ℕ
  pub ask : AskedOnce p beyond c disk want asked
  pub after : asked < taken
  pub in_time : taken ≤ asked + p.delay
  pub later : taken < y
  pub soon : y ≤ taken + p.delay
  pub is : part ≡ read_part (disk_at disk) taken want

-- What the disks and the links to them give.
pub record DisksAnswer (p : Params) (lives : Lives) (beyond : Beyond)
    (disk_at : ℕ → DiskState) : Type 0 where
  -- Who asks a disk has the answer when it comes to its tick of two ways later, in that life.
  pub answered : (c disk x b : ℕ) (want : Want)
      → AskedDisk p lives c disk want x → CameToTick p lives c b → x + 2 * p.delay ≤ b
      → WasAnswered p lives (disk_at disk) c want x
  -- Each answer is to an ask, which may have been one of an earlier life.
  pub of_asks : (c y : ℕ) (want : Want) (part : Option LibraryPart)
      → TookMessage p lives c (msg.ReadDone want part) y
      → AnswersAsk p beyond disk_at c want part y
