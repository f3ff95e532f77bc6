-- Whoever dies is believed dead in time, by the next cub if that one lives.
use Rattle.std.specs.Prelude.{◌≡◌, ℕ, ◌+◌, ◌<◌, ◌≤◌, List}
use Rattle.std.specs.List.{AllByRecursion}
use Rattle.tiger_base.specs.declared.message.Msg.{Msg}
use Rattle.tiger_base.specs.declared.message.Note.TheVariants as note
use Rattle.slot_plan.specs.declared.params.Params.{Params}
use Rattle.slot_plan.specs.Conditions.{IsPlan, longest_way}
use Rattle.slot_plan.specs.Times.{time_of, cub_of}
use Rattle.node_kit.specs.declared.course.Order.{Order}
use Rattle.node_kit.specs.declared.journal.Entry.{Entry}
use Rattle.node_kit.specs.declared.journal.What.{What}
use Rattle.node_kit.specs.declared.journal.What.TheVariants as what
use Rattle.run_facts.specs.Histories.{History}
use Rattle.run_facts.specs.Order.{Noted, beat_of, order_of}
use Rattle.run_claims.specs.Accounts.{Account, log_of}
use Rattle.run_model.specs.Fronts.{AnyByRecursion}
use Rattle.disk_core.specs.State.{DiskState}
use Rattle.ring_nodes.specs.declared.nodes.AnyNode.{AnyNode}
use Rattle.ring_nodes.specs.AllNodes.{any_step}
use Rattle.proof_moments.specs.Ties.{IsTickBelow}
use Rattle.proof_facts.specs.Facts.{facts_of}
use Rattle.proof_journals.specs.Journals.{AreJournalsOf}
use Rattle.proof_ring.specs.Rings.{IsRing}

-- An entry says that this cub is believed dead.
abbrev pub IsBelief : ℕ → What → Type 0
IsBelief dead (what.Believed cub) = cub.0 ≡ dead
IsBelief dead other = ⊥

-- A log has such an entry of a cub, in a beat or before it.
abbrev pub BelievesBy : List Noted → ℕ → ℕ → ℕ → Type 0
BelievesBy log cub dead beat =
    AnyByRecursion (λ x. (x.node ≡ cub) × (beat_of x ≤ beat) × IsBelief dead x.entry.what) log

-- An entry says that a heartbeat was sent.
abbrev pub SendsHeartbeat : What → Type 0
SendsHeartbeat (what.Sent link note.Heartbeat) = Unit {0}
SendsHeartbeat other = ⊥

-- In a log a cub sends no heartbeat from one beat on and before another.
abbrev pub IsSilentFrom : List Noted → ℕ → ℕ → ℕ → Type 0
IsSilentFrom log cub quiet until =
    AllByRecursion (λ x. x.node ≡ cub → SendsHeartbeat x.entry.what → beat_of x < until → beat_of x < quiet) log

-- That a cub is silent from one beat on is noticed at a tick of another one. Its last heartbeat left in the beat before,
-- or earlier; it takes the longest way at most, is heard at a reading ahead by at most the skew, and is good for the
-- deadman time.
abbrev pub IsNoticed : Params → ℕ → ℕ → Type 0
IsNoticed p quiet beat = time_of p quiet + longest_way p + p.skew + p.deadman < time_of p beat + p.beat

-- If an entry says that a cub died, and the next cub ticks when its silence until then is noticed, then it says that it
-- believes the cub dead, in the beat of the tick or before. A cub that dies apart from an event is silent from the beat of
-- its death on, and any other from the beat behind it; one that returns is so until then.
abbrev pub IsBelievedInTime : Params → (ℕ → ℕ → ℕ → Type 0) → List Noted → ℕ → What → Type 0
IsBelievedInTime p ticked log cub what.Died =
    (quiet beat reading : ℕ) → cub < p.cubs → IsSilentFrom log cub quiet beat → ticked (cub_of p (cub + 1)) beat reading
    → IsNoticed p quiet beat → BelievesBy log (cub_of p (cub + 1)) cub beat
IsBelievedInTime p ticked log cub other = Unit {0}

-- And so for each entry of a log. Ticked tells which cub ticked in which beat, at which reading.
abbrev pub BeliefsAreInTime : Params → (ℕ → ℕ → ℕ → Type 0) → List Noted → Type 0
BeliefsAreInTime p ticked log = AllByRecursion (λ x. IsBelievedInTime p ticked log x.node x.entry.what) log

-- In an account of a run whoever dies is believed dead in time.
abbrev pub BelievesInTime : Account → Type 0
BelievesInTime a = BeliefsAreInTime a.plan a.ticked (log_of a)

-- So it is in every history of a ring, over the entries of however many beats.
abbrev pub RingsBelieveInTime : (G : Type 0) → Type 0
RingsBelieveInTime G =
    (p : Params) (orders : List Order) (disk_at : ℕ → DiskState) (h : History Msg (AnyNode G))
    (journals : List (List Entry)) (beats : ℕ)
    → IsPlan p → IsRing p orders disk_at h → AreJournalsOf any_step p h journals
    → BeliefsAreInTime p (IsTickBelow (facts_of p orders h) beats) (order_of beats journals)
