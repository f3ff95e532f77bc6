-- What it means that blocks are served, with stops and deaths.
use Rattle.std.specs.Prelude.{◌≡◌, ℕ, ◌+◌, ◌*◌, ◌<◌, ◌≤◌, ◌⊎◌, List}
use Rattle.tiger_base.specs.declared.tenancy.Tenancy.{Tenancy}
use Rattle.slot_plan.specs.declared.params.Params.{Params}
use Rattle.slot_plan.specs.Conditions.{IsPlan}
use Rattle.slot_plan.specs.Times.{time_of, due, cub_of, takeover}
use Rattle.proof_schedule.specs.Facts.{Facts, enters_from}
use Rattle.proof_schedule.specs.Laws.{Laws}
use Rattle.proof_schedule.specs.Logs.{Fact, facts_in}
use Rattle.proof_schedule.specs.Schedule.{IsHeld}
use Rattle.proof_pieces.specs.PieceFacts.{PieceFacts, leave}
use Rattle.proof_pieces.specs.PieceLaws.{PieceLaws}
use Rattle.proof_pieces.specs.PieceLogs.{PieceFact, pieces_in}
use Rattle.proof_service.specs.ServiceFacts.{ServiceFacts, serves_from}
use Rattle.proof_service.specs.ServiceLaws.{ServiceLaws}
use Rattle.proof_service.specs.ServiceLogs.{ServiceFact, service_in}

-- Cub c sent the viewers piece j when it was to leave, and so early that they got it before the
-- end.
pub record LeftInTime (p : Params) (q : PieceFacts) (end c : ℕ) (t : Tenancy)
    (n j : ℕ) : Type 0 where
  pub beat : ℕ
  pub serves : q.Serves c t n j beat
  pub low : leave p t n j ≤ time_of p beat + p.skew
  pub high : time_of p beat < leave p t n j + p.beat
  pub got : beat + p.delay < end

-- Visit n is delivered: its block left whole from the visit's cub, or each piece j left from the
-- j-th cub after that one.
abbrev pub IsDelivered : Params → PieceFacts → ℕ → Tenancy → ℕ → Type 0
IsDelivered p q end t n = LeftInTime p q end (cub_of p n) t n 0
    ⊎ ((j : ℕ) → 1 ≤ j → j ≤ p.pieces → LeftInTime p q end (cub_of p (n + j)) t n j)

-- The read of piece j failed at cub c before the end.
pub record ReadFailed (w : ServiceFacts) (end c : ℕ) (t : Tenancy) (n j : ℕ) : Type 0 where
  pub beat : ℕ
  pub failed : w.Failed c t n j beat
  pub before : beat < end

-- Cub c died before piece j had left, and did not come back in time to let the piece in.
pub record DiedBeforeLeaving (p : Params) (r : Facts) (end c : ℕ) (t : Tenancy)
    (n j : ℕ) : Type 0 where
  pub beat : ℕ
  pub died : r.Died c beat
  pub before : beat < end
  pub early : time_of p beat < leave p t n j + p.beat
  pub away : (x l : ℕ) → r.Returned c x → r.Ticked c x l → leave p t n j < enters_from p l

-- Piece j of visit n was lost: its read failed, or its cub died before it had left and did not come
-- back in time.
abbrev pub PieceIsLost : Params → Facts → ServiceFacts → ℕ → Tenancy → ℕ → ℕ → Type 0
PieceIsLost p r w end t n j = ReadFailed w end (cub_of p (n + j)) t n j
    ⊎ DiedBeforeLeaving p r end (cub_of p (n + j)) t n j

-- The cub of visit n did not come back in time to serve the visit: it is due before that, or is the
-- tenancy's first, which a cub that has come back never serves.
abbrev pub IsNotBackFor : Params → Facts → Tenancy → ℕ → Type 0
IsNotBackFor p r t n = (x l : ℕ)
    → r.Returned (cub_of p n) x → r.Ticked (cub_of p n) x l
    → (due p t.slot.0 n < serves_from p l) ⊎ (n ≡ t.first)

-- The cub of visit n died so long before the visit was due that the next one takes over, and did
-- not come back in time; and a piece was lost.
pub record LostInPieces (p : Params) (r : Facts) (w : ServiceFacts) (end : ℕ) (t : Tenancy)
    (n : ℕ) : Type 0 where
  pub beat : ℕ
  pub died : r.Died (cub_of p n) beat
  pub before : beat < end
  pub long : time_of p beat + takeover p ≤ due p t.slot.0 n
  pub away : IsNotBackFor p r t n
  pub piece : ℕ
  pub low : 1 ≤ piece
  pub high : piece ≤ p.pieces
  pub lost : PieceIsLost p r w end t n piece

-- The cub of visit n died before it had served the visit, too late for the next one to take over,
-- and did not come back in time.
pub record LostInDeath (p : Params) (r : Facts) (end : ℕ) (t : Tenancy) (n : ℕ) : Type 0 where
  pub beat : ℕ
  pub died : r.Died (cub_of p n) beat
  pub before : beat < end
  pub early : time_of p beat < due p t.slot.0 n + p.beat
  pub late : due p t.slot.0 n < time_of p beat + takeover p
  pub away : IsNotBackFor p r t n

-- Visit n is excused: the read of its whole block failed, a piece was lost, or its cub died near
-- the time at which it was due.
abbrev pub IsExcused : Params → Facts → ServiceFacts → ℕ → Tenancy → ℕ → Type 0
IsExcused p r w end t n = ReadFailed w end (cub_of p n) t n 0
    ⊎ (LostInPieces p r w end t n ⊎ LostInDeath p r end t n)

-- Visit n is settled: it was due two block play times before the beat after the end.
abbrev pub IsSettled : Params → ℕ → Tenancy → ℕ → Type 0
IsSettled p end t n = due p t.slot.0 n + 2 * p.play ≤ time_of p (end + 1)

-- Each stop of t's instance comes a block play time after visit n was due, or later. A sooner one
-- is an excuse too.
abbrev pub IsUnstopped : Params → Facts → Tenancy → ℕ → Type 0
IsUnstopped p r t n = (z : ℕ) → r.Gone t.instance.0 z → due p t.slot.0 n + p.play ≤ time_of p z

-- Blocks are served but for excuses: what holds of all that was put, and of all that is sent to the
-- viewers. Excused tells which visits of a tenancy have an excuse.
pub record AreServedBut (p : Params) (r : Facts) (q : PieceFacts) (end : ℕ)
    (Excused : Tenancy → ℕ → Type 0) : Type 0 where
  -- Each settled visit of a tenancy that was put, and not stopped by then, is delivered or excused.
  pub served : (c x n : ℕ) (t : Tenancy)
      → r.Put c t x → t.first ≤ n → n ≤ t.last → IsSettled p end t n → IsUnstopped p r t n
      → IsDelivered p q end t n ⊎ Excused t n
  -- What is sent is of a visit of a tenancy that was put.
  pub held : (c n j b : ℕ) (t : Tenancy) → q.Serves c t n j b → IsHeld r t n b
  -- Piece j of a visit is sent by the j-th cub after the visit's, and the whole block by the
  -- visit's.
  pub who : (c n j b : ℕ) (t : Tenancy)
      → q.Serves c t n j b → (c ≡ cub_of p (n + j)) × (j ≤ p.pieces)
  -- It is sent when it is to leave, as far as a clock can tell.
  pub in_time : (c n j b : ℕ) (t : Tenancy)
      → q.Serves c t n j b
      → (leave p t n j ≤ time_of p b + p.skew) × (time_of p b < leave p t n j + p.beat)
  -- A visit is split in time.
  pub split : (c n b : ℕ) (t : Tenancy)
      → q.Split c t n b
      → time_of p b + p.read_lead + p.skew + time_of p p.delay + p.beat ≤ due p t.slot.0 n
  -- A piece is asked for in time.
  pub asked : (c n j b : ℕ) (t : Tenancy)
      → q.Asks c t n j b
      → (leave p t n j ≤ time_of p b + p.skew + p.read_lead)
      × (time_of p b + p.read_lead < leave p t n j + p.beat)
  -- Each piece of an instance's visit is sent once.
  pub once : (c d n j a b : ℕ) (t u : Tenancy)
      → q.Serves c t n j a → q.Serves d u n j b → u.instance.0 ≡ t.instance.0
      → (d ≡ c) × (u ≡ t) × (b ≡ a)
  -- The whole block of an instance's visit and a piece of it are never both sent.
  pub alone : (c d n j a b : ℕ) (t u : Tenancy)
      → q.Serves c t n 0 a → q.Serves d u n j b → u.instance.0 ≡ t.instance.0 → j ≡ 0
  -- What is sent of a visit is got before anything of any later visit of the instance is sent.
  pub order : (c d n m i j x y : ℕ) (t u : Tenancy)
      → n < m → q.Serves c t n i x → q.Serves d u m j y → u.instance.0 ≡ t.instance.0
      → x + p.delay < y

-- Blocks are served: the excuses are those of a run in which cubs may die.
abbrev pub AreBlocksServed : Params → Facts → PieceFacts → ServiceFacts → ℕ → Type 0
AreBlocksServed p r q w end = AreServedBut p r q end (IsExcused p r w end)

-- Whatever the facts of a run of a plan, if they meet the laws of the schedule, of pieces and of
-- blocks, blocks are served.
abbrev pub RunsServeTheirBlocks : Type 0
RunsServeTheirBlocks = (p : Params) (log : List Fact) (more : List PieceFact)
    (rest : List ServiceFact) (end : ℕ)
    → IsPlan p → Laws p (facts_in log) → PieceLaws p (facts_in log) (pieces_in more)
    → ServiceLaws p (facts_in log) (pieces_in more) (service_in rest) end
    → AreBlocksServed p (facts_in log) (pieces_in more) (service_in rest) end
