-- What holds of every scenario that breaks no rule. What a plan keeps stands in its type.
use Rattle.std.specs.Prelude.{◌≡◌, ℕ, ◌*◌, ◌<◌, ◌≤◌, List, length, All, take, Some, IfSome, is_some, slice_get}
use Rattle.std.specs.List.{count_by}
use Rattle.std.specs.List.Sorted.{IsNonDecreasingBy}
use Rattle.slot_plan.specs.Times.{disk_count}
use Rattle.node_kit.specs.declared.course.ReadFault.{ReadFault}
use Rattle.node_kit.specs.Courses.{IsCourse}
use Rattle.node_kit.specs.Life.{lifetime_of}
use Rattle.run_facts.specs.Timed.{DieApart}
use Rattle.scenario_read.specs.declared.scenario.FileLine.{FileLine}
use Rattle.scenario_read.specs.declared.scenario.ScEvent.{ScEvent}
use Rattle.scenario_read.specs.declared.scenario.ScEvent.TheVariants.{Begin, Finish}
use Rattle.scenario_read.specs.declared.scenario.Scenario.{Scenario}
use Rattle.scenario_read.specs.Deaths.{most_left}
use Rattle.scenario_read.specs.Events.{beat_of, starts_in, most_blocks}

-- a start is of one of so many files
abbrev pub StartsWithin : ℕ → ScEvent → Type 0
StartsWithin files (Begin beat file) = file.0 < files
StartsWithin files (Finish beat instance) = Unit {0}

-- events in the run's beats, which never fall; each start is of one of the files, and each stop of an instance that was started before
pub record AreEvents (beats files : ℕ) (events : List ScEvent) : Type 0 where
  pub few : length events ≤ 4000
  pub early : All (λ e. beat_of e < beats) events
  pub in_order : IsNonDecreasingBy beat_of events
  pub within : All (StartsWithin files) events
  pub started : (k beat : ℕ) (v : ℕ) → slice_get events k ≡ Some (Finish beat (record { 0 = v })) → v < starts_in (take k events)
  pub few_starts : starts_in events ≤ 2000

-- a name of 1 to 200 bytes, and one of so many disks
pub record IsFile (disks : ℕ) (f : FileLine) : Type 0 where
  pub named : 1 ≤ length f.name
  pub short : length f.name ≤ 200
  pub on_disk : f.disk.0 < disks

-- the reads of one of so many disks fail, in one beat of the run at least
pub record IsReadFault (disks beats : ℕ) (f : ReadFault) : Type 0 where
  pub of_disk : f.disk.0 < disks
  pub some : f.from < f.until
  pub early : f.until ≤ beats

-- no rule is broken. What holds of a course has that only who dies is cut off or comes back, and how much later.
pub record IsScenario (s : Scenario) : Type 0 where
  pub course : IsCourse s.course
  pub beats : 1 ≤ s.course.beats
  pub product : s.course.beats * s.course.plan.params.cubs ≤ 2000000
  pub some_file : 1 ≤ length s.files
  pub few_files : length s.files ≤ 64
  pub files : All (IsFile (disk_count s.course.plan.params)) s.files
  pub events : AreEvents s.course.beats (length s.files) s.events
  pub blocks : most_blocks s.course.plan.params s.course.beats (starts_in s.events) ≤ 400000
  pub few_deaths : count_by is_some s.course.deaths ≤ 32
  pub deaths : All (λ d. IfSome d (λ beat. beat < s.course.beats)) s.course.deaths
  pub few_after : All (λ c. IfSome c (λ after. after ≤ most_left)) s.course.cuts
  pub apart : DieApart s.course.plan.params (lifetime_of s.course)
  pub backs : All (λ b. IfSome b (λ beat. beat < s.course.beats)) s.course.backs
  pub few_faults : length s.course.faults ≤ 1000
  pub faults : All (IsReadFault (disk_count s.course.plan.params) s.course.beats) s.course.faults
