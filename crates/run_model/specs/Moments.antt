-- What stands at a moment of a run, which is a front of the order of all entries: all that later entries are judged by.
use Rattle.std.specs.Prelude.{ℕ, Bool, false, ◌&&◌, ◌||◌, ◌==◌, List, [], ◌∷◌, ◌++◌, if◌then◌else◌}
use Rattle.std.specs.List.{fold, list_any}
use Rattle.tiger_base.specs.declared.tenancy.Rec.{Rec}
use Rattle.slot_plan.specs.declared.params.Params.{Params}
use Rattle.slot_plan.specs.Times.{time_of}
use Rattle.node_kit.specs.declared.journal.What.{What}
use Rattle.node_kit.specs.declared.journal.What.TheVariants as what
use Rattle.node_kit.specs.declared.journal.Entry.{Entry}
use Rattle.run_facts.specs.Order.{Noted, beat_of, journal_of}
use Rattle.run_facts.specs.Timed.{is_died}
use Rattle.run_model.specs.Schedule.{Schedule, empty_schedule, after_entry, schedule_of}
use Rattle.run_model.specs.Views.{records_of, recorded}
use Rattle.run_model.specs.Fronts.{Always, AtEach}

-- The schedule; by node the journal so far, the records that were taken and are still there, who has ever died and whom
-- a cub believes dead; by instance who was put; and the beat of the last entry.
pub record Moment : Type 0 where
  pub schedule : Schedule
  pub journal : ℕ → List Entry
  pub records : ℕ → List Rec
  pub dead : ℕ → Bool
  pub believed : ℕ → ℕ → Bool
  pub put : ℕ → Bool
  pub beat : ℕ

-- whether an entry says that cub d is believed dead, and that an instance is put
abbrev pub is_belief_of : ℕ → What → Bool
is_belief_of d (what.Believed cub) = cub.0 == d
is_belief_of d other = false

abbrev pub is_put_of : ℕ → What → Bool
is_put_of v (what.Put t) = t.instance.0 == v
is_put_of v other = false

-- the beat of the last entry, or 0 where there is none
abbrev pub last_beat : List Noted → ℕ
last_beat front = fold (λ beat x. beat_of x) 0 front

-- the moment after these entries, each part by itself
unfoldable pub moment_at : List Noted → Moment
moment_at front = record {
  schedule = schedule_of front;
  journal = λ n. journal_of n front;
  records = λ c. records_of (journal_of c front);
  dead = λ n. list_any (λ e. is_died e.what) (journal_of n front);
  believed = λ c d. list_any (λ e. is_belief_of d e.what) (journal_of c front);
  put = λ v. list_any (λ x. is_put_of v x.entry.what) front;
  beat = last_beat front;
}

-- the moment before the first entry
abbrev pub opening : Moment
opening = record {
  schedule = empty_schedule;
  journal = λ n. [];
  records = λ c. [];
  dead = λ n. false;
  believed = λ c d. false;
  put = λ v. false;
  beat = 0;
}

-- the moment after one more entry
unfoldable pub next_moment : Moment → Noted → Moment
next_moment m x = record {
  schedule = after_entry m.schedule x;
  journal = λ n. if x.node == n then m.journal n ++ x.entry ∷ [] else m.journal n;
  records = λ c. if x.node == c then recorded (m.records c) x.entry.what else m.records c;
  dead = λ n. m.dead n || ((x.node == n) && is_died x.entry.what);
  believed = λ c d. m.believed c d || ((x.node == c) && is_belief_of d x.entry.what);
  put = λ v. m.put v || is_put_of v x.entry.what;
  beat = beat_of x;
}

-- the same moment, entry by entry
abbrev pub moment_of : List Noted → Moment
moment_of front = fold next_moment opening front

-- the view of a cub: none since it died, unless it came back
abbrev pub view_of : Moment → ℕ → List Rec
view_of m c = m.records c

-- the true time of a moment
abbrev pub moment_time : Params → Moment → ℕ
moment_time p m = time_of p m.beat

-- P holds at every moment of a log, and R of each of its entries, at the moment before it
abbrev pub AlwaysHolds : (Moment → Type 0) → List Noted → Type 0
AlwaysHolds P log = Always P next_moment opening log

abbrev pub HoldsAtEach : (Moment → Noted → Type 0) → List Noted → Type 0
HoldsAtEach R log = AtEach R next_moment opening log
