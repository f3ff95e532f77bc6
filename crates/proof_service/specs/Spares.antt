-- What is served where cubs know of their disks' deaths, and no cub dies.
use Rattle.std.specs.Prelude.{◌≡◌, ℕ, ◌+◌, ◌*◌, ◌<◌, ◌≤◌, ◌⊎◌, List, Option, Some, None}
use Rattle.tiger_base.specs.declared.tenancy.Tenancy.{Tenancy}
use Rattle.slot_plan.specs.declared.params.Params.{Params}
use Rattle.slot_plan.specs.Conditions.{IsPlan}
use Rattle.slot_plan.specs.Times.{time_of, due, cub_of, disk_of}
use Rattle.proof_schedule.specs.Facts.{Facts, EnteredBy, ReachedBy}
use Rattle.proof_schedule.specs.Laws.{Laws}
use Rattle.proof_schedule.specs.Logs.{Fact, facts_in}
use Rattle.proof_pieces.specs.PieceFacts.{PieceFacts}
use Rattle.proof_pieces.specs.PieceLaws.{PieceLaws}
use Rattle.proof_pieces.specs.PieceLogs.{PieceFact, pieces_in}
use Rattle.proof_service.specs.Blocks.{AreServedBut, ReadFailed}
use Rattle.proof_service.specs.ServiceFacts.{ServiceFacts, SparedBy}
use Rattle.proof_service.specs.ServiceLaws.{ServiceLaws}
use Rattle.proof_service.specs.ServiceLogs.{ServiceFact, service_in}

-- A disk is dead in beat b: it died in that beat or before it. What gives a disk's death gives the beat
-- from which on the disk is dead, if it dies.
pub record IsDiskDeadIn (death : ℕ → Option ℕ) (disk b : ℕ) : Type 0 where
  pub beat : ℕ
  pub dies : death disk ≡ Some beat
  pub by : beat ≤ b

-- The laws of a run in which no cub dies, and disks may.
pub record SpareLaws (p : Params) (r : Facts) (q : PieceFacts) (death : ℕ → Option ℕ) : Type 0 where
  -- Runner: no cub dies.
  pub calm : (c b : ℕ) → ¬ r.Died c b
  -- Splitting: a cub has split each visit of its own on a dead disk of which it has a record, if it is
  -- due late enough.
  pub spare_due : {c : ℕ} {t : Tenancy} {n b l : ℕ}
      → IsDiskDeadIn death (disk_of p n) b → EnteredBy r c t n b → c ≡ cub_of p n → r.Ticked c b l
      → l + p.read_lead + p.skew + time_of p p.delay + p.beat ≤ due p t.slot.0 n
      → SparedBy q c t n b ⊎ ReachedBy r c t.instance.0 b
  -- Splitting: the mirror states of all pieces go out.
  pub spare_mirrors_due : {c : ℕ} {t : Tenancy} {n b : ℕ} (k : ℕ)
      → q.Spared c t n b → 1 ≤ k → k ≤ p.pieces → q.MirrorSent c k t n k b

-- How long before it is due a visit can still be split at the beat of its disk's death, whatever the
-- cub's clock shows: the read lead, two skews, a way and a beat.
abbrev pub spare_lead : Params → ℕ
spare_lead p = p.read_lead + 2 * p.skew + time_of p p.delay + p.beat

-- The read of one of the pieces of visit n failed.
pub record PieceFailed (p : Params) (w : ServiceFacts) (end : ℕ) (t : Tenancy) (n : ℕ) : Type 0 where
  pub piece : ℕ
  pub low : 1 ≤ piece
  pub high : piece ≤ p.pieces
  pub failed : ReadFailed w end (cub_of p (n + piece)) t n piece

-- The read of its whole block failed, and visit n is due too soon behind the death of its disk in beat
-- x to be split for certain.
pub record DueTooSoon (p : Params) (w : ServiceFacts) (end x : ℕ) (t : Tenancy) (n : ℕ) : Type 0 where
  pub failed : ReadFailed w end (cub_of p n) t n 0
  pub soon : due p t.slot.0 n < time_of p x + spare_lead p

-- Visit n is excused: if its disk does not die, the read of its whole block failed; and if it dies, so
-- did that of a piece, or that of the whole block too soon behind the death.
abbrev pub IsExcusedOn : Params → ServiceFacts → ℕ → Option ℕ → Tenancy → ℕ → Type 0
IsExcusedOn p w end None t n = ReadFailed w end (cub_of p n) t n 0
IsExcusedOn p w end (Some x) t n = PieceFailed p w end t n ⊎ DueTooSoon p w end x t n

-- Whatever the facts of a run of a plan, if they meet the laws of the schedule, of pieces and of
-- blocks, and those of a run in which disks may die, blocks are served but for these excuses.
abbrev pub SpareRunsServeTheirBlocks : Type 0
SpareRunsServeTheirBlocks = (p : Params) (log : List Fact) (more : List PieceFact)
    (rest : List ServiceFact) (end : ℕ) (death : ℕ → Option ℕ)
    → IsPlan p → Laws p (facts_in log) → PieceLaws p (facts_in log) (pieces_in more)
    → ServiceLaws p (facts_in log) (pieces_in more) (service_in rest) end
    → SpareLaws p (facts_in log) (pieces_in more) death
    → AreServedBut p (facts_in log) (pieces_in more) end
    (λ t n. IsExcusedOn p (service_in rest) end (death (disk_of p n)) t n)
