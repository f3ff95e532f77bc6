-- What a runner hands over of nodes of any lives is a run, complete, and written so.
use Rattle.std.proofs.Common.{ℕ, List}
use Rattle.tiger_base.specs.declared.message.Note.{Note}
use Rattle.link_timing.specs.Clock.{new_clock}
use Rattle.node_kit.specs.declared.course.Course.{Course}
use Rattle.node_kit.specs.Courses.{IsCourse, stamp_in}
use Rattle.node_kit.specs.Life.{death_of, cut_of, back_of}
use Rattle.node_kit.specs.Steps.{Input, Deed}
use Rattle.run_facts.specs.Events.{NodeEvent}
use Rattle.run_lives.specs.Laws.{IsAccounted, AccountsRun, AccountsComplete, AccountsWrite}
use Rattle.run_lives.proofs.Complete.{complete-lives}
use Rattle.run_lives.proofs.Journals.{paced-lives, timed-journals, carried-lives}
use Rattle.run_lives.proofs.Lasting.{Known}
use Rattle.run_lives.proofs.Recorded.{run-lives}

-- what is known of the nodes of a course
abbrev pub known-of : {M S : Type 0} (note : M → Note) (step : S → Input M → Deed M S) (c : Course) (nodes : ℕ)
    (first : ℕ → S) (lost : ℕ → ℕ) (events : ℕ → List (NodeEvent M)) → IsCourse c
    → IsAccounted note step c nodes first lost events → Known M S
known-of note step c nodes first lost events course accounts = record {
  note = note;
  step = step;
  p = c.plan.params;
  when = stamp_in c;
  death = death_of c;
  left = cut_of c;
  back = back_of c;
  later = course.returns_later;
  start = λ l. new_clock l c.delay c.plan.params.delay;
  nodes = nodes;
  beats = c.beats;
  first = first;
  lost = lost;
  events = events;
  accounts = accounts;
}

pub accounts-run : (M S : Type 0) → AccountsRun M S
accounts-run M S note step c nodes first lost events course accounts =
    run-lives (known-of note step c nodes first lost events course accounts)

pub accounts-complete : (M S : Type 0) → AccountsComplete M S
accounts-complete M S note step c nodes first lost events course accounts =
    complete-lives (known-of note step c nodes first lost events course accounts)

pub accounts-write : (M S : Type 0) → AccountsWrite M S
accounts-write M S note step c nodes first lost events journals course accounts size theirs = (
  paced-lives note step c nodes first lost events course accounts journals size theirs,
  timed-journals note step c nodes first lost events course accounts journals size theirs,
  carried-lives note step c nodes first lost events course accounts journals size theirs,
)
