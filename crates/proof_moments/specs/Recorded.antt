-- Facts that are one schedule, with journals that tell them.
use Rattle.std.specs.Prelude.{◌≡◌, ℕ, ◌+◌, ◌≤◌, List}
use Rattle.tiger_base.specs.declared.number.LinkNo.{LinkNo}
use Rattle.tiger_base.specs.declared.part.Span.{Span}
use Rattle.tiger_base.specs.declared.tenancy.Want.{Want}
use Rattle.tiger_base.specs.declared.message.Note.TheVariants as note
use Rattle.slot_plan.specs.declared.params.Params.{Params}
use Rattle.slot_plan.specs.Conditions.{IsPlan}
use Rattle.slot_plan.specs.Times.{time_of}
use Rattle.node_kit.specs.declared.course.Order.{Order}
use Rattle.node_kit.specs.declared.journal.What.TheVariants as what
use Rattle.node_kit.specs.declared.journal.Entry.{Entry}
use Rattle.proof_schedule.specs.Facts.{Facts}
use Rattle.proof_schedule.specs.Schedule.{IsOneSchedule}
use Rattle.proof_moments.specs.Ties.{StandsIn, Tells, Logged, Keeps, Besides}

-- The facts of a plan are one schedule, and these journals are a record of them.
pub record IsRecorded (p : Params) (r : Facts) (orders : List Order)
    (journals : List (List Entry)) : Type 0 where
  -- The parameters are those of a plan.
  pub plan : IsPlan p
  -- There is one schedule.
  pub one : IsOneSchedule p r
  -- The facts have what is needed beside it.
  pub more : Besides p r
  -- Each entry tells a fact.
  pub tells : Tells p r orders journals
  -- Each fact has its entry.
  pub logged : Logged p r orders journals
  -- The entries of each journal are in their order.
  pub keeps : Keeps p r orders journals

-- What is sent to the viewers of an instance after its stop is sent within a block play time.
pub record ParcelsAreInTime (p : Params) (r : Facts) (journals : List (List Entry)) : Type 0 where
  -- So is each whole block.
  pub whole : (n : ℕ) (e : Entry) (link : LinkNo) (want : Want) (sent : ℕ) (part : Span) (z : ℕ)
      → StandsIn journals n e → e.what ≡ what.Sent link (note.Whole want sent part)
      → r.Gone want.instance.0 z → time_of p e.stamp.beat ≤ time_of p z + p.play
  -- And so is each piece.
  pub piece : (n : ℕ) (e : Entry) (link : LinkNo) (want : Want) (sent : ℕ) (part : Span) (z : ℕ)
      → StandsIn journals n e → e.what ≡ what.Sent link (note.Piece want sent part)
      → r.Gone want.instance.0 z → time_of p e.stamp.beat ≤ time_of p z + p.play
