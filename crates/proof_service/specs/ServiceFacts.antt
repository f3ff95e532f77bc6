-- What is known of the blocks of a run, beside the facts of its schedule and its mirror pieces.
use Rattle.std.specs.Prelude.{◌≡◌, ℕ, ◌+◌, ◌*◌, ◌<◌, ◌≤◌, ◌⊎◌}
use Rattle.tiger_base.specs.declared.part.Span.{Span}
use Rattle.tiger_base.specs.declared.tenancy.Tenancy.{Tenancy}
use Rattle.slot_plan.specs.declared.params.Params.{Params}
use Rattle.slot_plan.specs.Times.{due}
use Rattle.proof_schedule.specs.Facts.{Facts, ReachedBy, IsSameLife, enters_from}
use Rattle.proof_pieces.specs.PieceFacts.{PieceFacts, Arises}

-- The facts about blocks, each with its beat b. A piece j of the block of visit n counts from 1; j
-- is 0 for the whole block.
pub record ServiceFacts : Type 1 where
  -- Cub c got piece j from a disk, and a record of t for it was there.
  pub Stored : (c : ℕ) (t : Tenancy) (n j b : ℕ) → Type 0
  -- Cub c got a disk's answer that the read of piece j failed, and a record of t for it was there.
  pub Failed : (c : ℕ) (t : Tenancy) (n j b : ℕ) → Type 0
  -- What cub c sent the viewers of piece j, by a record of t, are these bytes of a file.
  pub Sends : (c : ℕ) (t : Tenancy) (n j b : ℕ) (part : Span) → Type 0
  -- A read fault of the disk lasts in beat b.
  pub Struck : (disk b : ℕ) → Type 0
  -- Cub c was told to drop the pieces of visit n of instance v.
  pub Killed : (c v n b : ℕ) → Type 0
  -- Cub c was told that its predecessor is back, and serves its own visits that are due from a time
  -- on.
  pub TookBack : (c from b : ℕ) → Type 0

-- Cub c was told in beat b or before it to drop the pieces of visit n of instance v.
pub record KilledBy (w : ServiceFacts) (c v n b : ℕ) : Type 0 where
  pub beat : ℕ
  pub killed : w.Killed c v n beat
  pub by : beat ≤ b

-- Cub c split visit n of t in beat b or before it.
pub record SplitBy (q : PieceFacts) (c : ℕ) (t : Tenancy) (n b : ℕ) : Type 0 where
  pub beat : ℕ
  pub split : q.Split c t n beat
  pub by : beat ≤ b

-- Cub c split visit n of t, one of its own, in beat b or before it.
pub record SparedBy (q : PieceFacts) (c : ℕ) (t : Tenancy) (n b : ℕ) : Type 0 where
  pub beat : ℕ
  pub spared : q.Spared c t n beat
  pub by : beat ≤ b

-- The record by which piece j is asked for entered in beat b or before it, in the same life.
pub record ArisesBy (r : Facts) (q : PieceFacts) (c : ℕ) (t : Tenancy) (n j b : ℕ) : Type 0 where
  pub beat : ℕ
  pub arises : Arises r q c t n j beat
  pub by : beat ≤ b
  pub life : IsSameLife r c beat b

-- Cub c asked for piece j in beat b or before it, in the same life.
pub record AsksInLife (r : Facts) (q : PieceFacts) (c : ℕ) (t : Tenancy) (n j b : ℕ) : Type 0 where
  pub beat : ℕ
  pub asks : q.Asks c t n j beat
  pub by : beat ≤ b
  pub life : IsSameLife r c beat b

-- A cub that came back at this reading serves its own visits, but first ones, that are due from
-- this time on. Until then they are left to the next cub.
abbrev pub serves_from : Params → ℕ → ℕ
serves_from p reading = reading + p.max_lead + 6 * p.play

-- Cub c lets in, in beat b, what leaves at this time: if it has come back by then, that is late
-- enough.
abbrev pub LetsIn : Params → Facts → ℕ → ℕ → ℕ → Type 0
LetsIn p r c at b = (x l : ℕ) → r.Returned c x → r.Ticked c x l → x ≤ b → enters_from p l ≤ at

-- Cub c may send piece j of visit n in beat b: if it has come back by then, a whole block only of a
-- visit that is due late enough.
abbrev pub MayServe : Params → Facts → ℕ → Tenancy → ℕ → ℕ → ℕ → Type 0
MayServe p r c t n j b = (x l : ℕ)
    → r.Returned c x → r.Ticked c x l → x ≤ b → j ≡ 0 → serves_from p l ≤ due p t.slot.0 n

-- Visit n is left to cub c in beat b, whatever it was told by then of its predecessor's return: the
-- visit is due before that one serves again, or is the tenancy's first.
abbrev pub IsLeftTo : Params → ServiceFacts → ℕ → Tenancy → ℕ → ℕ → Type 0
IsLeftTo p w c t n b = (from y : ℕ)
    → w.TookBack c from y → y ≤ b → (due p t.slot.0 n < from) ⊎ (n ≡ t.first)

-- What cub c keeps of visit n of instance v may have been dropped by beat b: a deschedule came, or
-- the cub was told to drop the visit's pieces.
abbrev pub IsCutOff : Facts → ServiceFacts → ℕ → ℕ → ℕ → ℕ → Type 0
IsCutOff r w c v n b = ReachedBy r c v b ⊎ KilledBy w c v n b
