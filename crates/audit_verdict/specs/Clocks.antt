-- Which entries of a log have the reading that the clock of their node shows.
use Rattle.std.specs.Prelude.{◌≡◌, ◌≤◌, List}
use Rattle.std.specs.List.{AllByRecursion}
use Rattle.tiger_base.specs.Limits.{most_beats}
use Rattle.node_kit.specs.Courses.{reading_of}
use Rattle.node_kit.specs.declared.course.Course.{Course}
use Rattle.node_kit.specs.declared.course.Kept.{Kept}
use Rattle.run_facts.specs.Order.{Noted}
use Rattle.run_model.specs.Runs.{order_in}
use Rattle.audit_frame.specs.declared.lines.Line.{Line}

-- the reading of an entry is what the offsets of a course give for the entry's node and beat
abbrev pub ShowsClock : Course → Noted → Type 0
ShowsClock c x = x.entry.stamp.reading ≡ reading_of c x.node x.entry.stamp.beat

-- and so is that of each entry of a log
abbrev pub ShowClocks : Course → List Noted → Type 0
ShowClocks c log = AllByRecursion (ShowsClock c) log

-- and of each entry of a kept run
abbrev pub ShowsClocks : Kept → Type 0
ShowsClocks k = ShowClocks k.course (order_in k)

-- a line is of a beat that a run may have
abbrev pub IsOfBeats : Line → Type 0
IsOfBeats line = line.entry.now.stamp.beat ≤ most_beats
