-- No instance comes back after its stop: what may still be done for it, and up to when.
use Rattle.std.specs.Prelude.{◌≡◌, ℕ, ◌+◌, ◌≤◌, List}
use Rattle.std.specs.List.{AllByRecursion}
use Rattle.tiger_base.specs.declared.message.Note.TheVariants as note
use Rattle.slot_plan.specs.declared.params.Params.{Params}
use Rattle.slot_plan.specs.Conditions.{longest_way}
use Rattle.slot_plan.specs.Times.{time_of}
use Rattle.node_kit.specs.declared.journal.What.{What}
use Rattle.node_kit.specs.declared.journal.What.TheVariants as what
use Rattle.run_facts.specs.Order.{Noted, beat_of}
use Rattle.run_model.specs.Schedule.{Stop}
use Rattle.run_model.specs.Moments.{Moment, HoldsAtEach}

-- a beat begins within a span of micros after a stop, if the stop is of this instance
abbrev pub IsWithin : Params → ℕ → ℕ → ℕ → Stop → Type 0
IsWithin p v span beat stop = stop.instance ≡ v → time_of p beat ≤ time_of p stop.beat + span

-- a beat begins within a span after every stop of an instance so far
abbrev pub IsSoonAfterStops : Params → Moment → ℕ → ℕ → ℕ → Type 0
IsSoonAfterStops p m v span beat = AllByRecursion (IsWithin p v span beat) m.schedule.stops

-- An entry does nothing for an instance later than it may after the stop: a Put comes within the longest way of a
-- deschedule to a cub; a record is taken, and a block or a piece leaves for the viewers, within a block play time.
abbrev pub BringsNobodyBack : Params → Moment → ℕ → What → Type 0
BringsNobodyBack p m beat (what.Put t) = IsSoonAfterStops p m t.instance.0 (longest_way p) beat
BringsNobodyBack p m beat (what.Took r) = IsSoonAfterStops p m r.tenancy.instance.0 p.play beat
BringsNobodyBack p m beat (what.Sent link (note.Whole want sent part)) =
    IsSoonAfterStops p m want.instance.0 p.play beat
BringsNobodyBack p m beat (what.Sent link (note.Piece want sent part)) =
    IsSoonAfterStops p m want.instance.0 p.play beat
BringsNobodyBack p m beat other = Unit {0}

-- and so does no entry of a log, at the moment before it
abbrev pub NobodyComesBack : Params → List Noted → Type 0
NobodyComesBack p log = HoldsAtEach (λ m x. BringsNobodyBack p m (beat_of x) x.entry.what) log
