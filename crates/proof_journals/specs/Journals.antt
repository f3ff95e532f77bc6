-- What it means that a ring's journals tell its facts, if cubs may die, return, and put out more
-- than their rules say.
use Rattle.std.specs.Prelude.{◌≡◌, ℕ, ◌<◌, Bool, List, length, Some, slice_get}
use Rattle.tiger_base.specs.declared.number.LinkNo.{LinkNo}
use Rattle.tiger_base.specs.declared.number.Stamp.{Stamp}
use Rattle.tiger_base.specs.declared.tenancy.Ask.{Ask}
use Rattle.tiger_base.specs.declared.message.Msg.{Msg}
use Rattle.tiger_base.specs.declared.message.Msg.TheVariants as msg
use Rattle.tiger_base.specs.Notes.{noted}
use Rattle.slot_plan.specs.declared.params.Params.{Params}
use Rattle.slot_plan.specs.Conditions.{IsPlan}
use Rattle.node_kit.specs.declared.course.Order.{Order}
use Rattle.node_kit.specs.declared.journal.Entry.{Entry}
use Rattle.node_kit.specs.Steps.{Deed, Input}
use Rattle.node_kit.specs.Steps.Input.{Take}
use Rattle.run_facts.specs.Histories.{History, last_of}
use Rattle.disk_core.specs.State.{DiskState}
use Rattle.proof_lives.specs.Lives.{Lives}
use Rattle.proof_controller.specs.Controllers.{IsOrdered}
use Rattle.proof_schedule.specs.Laws.{Laws}
use Rattle.proof_moments.specs.Recorded.{IsRecorded}
use Rattle.proof_moments.specs.Ties.{Besides, Keeps, Locals, Logged, Tells}
use Rattle.proof_facts.specs.Beside.{Additions}
use Rattle.proof_facts.specs.Facts.{facts_of}
use Rattle.proof_facts.specs.Laws.{CubLaws}
use Rattle.proof_facts.specs.Lives.{lives_of, later_lives_of}
use Rattle.proof_facts.specs.Rings.{IsRingWith, node_count}

-- Each node of the ring has one journal: what its events of the history wrote.
pub record AreJournalsOf {S : Type 0} (step : S → Input Msg → Deed Msg S) (p : Params)
    (h : History Msg S) (journals : List (List Entry)) : Type 0 where
  pub count : length journals ≡ node_count p
  pub writes : (n : ℕ)
      → n < node_count p → slice_get journals n ≡ Some (last_of noted step h n).journal

-- Each start that a cub took was ordered. The links give this: only the controller sends starts.
abbrev pub AreStartsOrdered : Params → List Order → Lives → Type 0
AreStartsOrdered p orders lives =
    (c i : ℕ) (stamp : Stamp) (link : LinkNo) (ask : Ask) (redundant : Bool)
    → c < p.cubs → i < lives.count c → lives.input c i ≡ Take stamp link (msg.Start redundant ask)
    → IsOrdered orders ask

-- Each entry of a ring's journals tells a fact of the ring.
abbrev pub JournalsTell : (S : Type 0) → Type 0
JournalsTell S =
    (step : S → Input Msg → Deed Msg S) (p : Params) (orders : List Order)
    (disk_at : ℕ → DiskState) (added : Additions) (h : History Msg S) (journals : List (List Entry))
    → IsPlan p → IsRingWith step p orders disk_at added h → AreJournalsOf step p h journals
    → AreStartsOrdered p orders (lives_of h) → AreStartsOrdered p orders (later_lives_of h)
    → Tells p (facts_of p orders h) orders journals

-- Each Put, stop, death, return and belief of a ring has its entry, and whatever the controller began was
-- ordered.
abbrev pub FactsAreLogged : (S : Type 0) → Type 0
FactsAreLogged S =
    (step : S → Input Msg → Deed Msg S) (p : Params) (orders : List Order)
    (disk_at : ℕ → DiskState) (added : Additions) (h : History Msg S) (journals : List (List Entry))
    → IsPlan p → IsRingWith step p orders disk_at added h → AreJournalsOf step p h journals
    → Logged p (facts_of p orders h) orders journals

-- The entries of each journal are in their order, and tell the cub's view at each tick. That a
-- record which a state brings is of a tenancy that was put before is a law of the whole ring, so
-- the laws are premises.
abbrev pub JournalsKeepOrder : (S : Type 0) → Type 0
JournalsKeepOrder S =
    (step : S → Input Msg → Deed Msg S) (p : Params) (orders : List Order)
    (disk_at : ℕ → DiskState) (added : Additions) (h : History Msg S) (journals : List (List Entry))
    → IsPlan p → IsRingWith step p orders disk_at added h → AreJournalsOf step p h journals
    → Laws p (facts_of p orders h)
    → Keeps p (facts_of p orders h) orders journals

-- The journals of the cubs explain what these take and which viewer states they send.
abbrev pub JournalsAreLocal : (S : Type 0) → Type 0
JournalsAreLocal S =
    (step : S → Input Msg → Deed Msg S) (p : Params) (orders : List Order)
    (disk_at : ℕ → DiskState) (added : Additions) (h : History Msg S) (journals : List (List Entry))
    → IsPlan p → IsRingWith step p orders disk_at added h → AreJournalsOf step p h journals
    → Locals p journals

-- The laws of a ring give what its moments need beside one schedule.
abbrev pub LawsGiveBesides : (S : Type 0) → Type 0
LawsGiveBesides S =
    (step : S → Input Msg → Deed Msg S) (p : Params) (orders : List Order)
    (disk_at : ℕ → DiskState) (added : Additions) (h : History Msg S)
    → IsPlan p → IsRingWith step p orders disk_at added h
    → Laws p (facts_of p orders h) → CubLaws p (facts_of p orders h)
    → Besides p (facts_of p orders h)

-- So the facts of a ring that meet the laws are one schedule, and its journals are a record of them.
abbrev pub RingsAreRecorded : (S : Type 0) → Type 0
RingsAreRecorded S =
    (step : S → Input Msg → Deed Msg S) (p : Params) (orders : List Order)
    (disk_at : ℕ → DiskState) (added : Additions) (h : History Msg S) (journals : List (List Entry))
    → IsPlan p → IsRingWith step p orders disk_at added h → AreJournalsOf step p h journals
    → AreStartsOrdered p orders (lives_of h) → AreStartsOrdered p orders (later_lives_of h)
    → Laws p (facts_of p orders h) → CubLaws p (facts_of p orders h)
    → IsRecorded p (facts_of p orders h) orders journals
