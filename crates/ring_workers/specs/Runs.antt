-- What a run of nodes owes.
use Rattle.std.specs.Prelude.{List}
use Rattle.tiger_base.specs.declared.message.Note.{Note}
use Rattle.node_kit.specs.declared.course.Course.{Course}
use Rattle.node_kit.specs.declared.journal.Entry.{Entry}
use Rattle.node_kit.specs.Life.{lifetime_of}
use Rattle.node_kit.specs.Steps.{Input, Deed}
use Rattle.run_facts.specs.Carried.{AreCarried}
use Rattle.run_facts.specs.Kept.{HaveKept}
use Rattle.run_facts.specs.Paced.{ArePaced}
use Rattle.run_facts.specs.Timed.{AreTimed}

-- the nodes given lived through the course by their own steps and became these, and wrote these journals
pub record IsRunOf {M S : Type 0} (note : M → Note) (step : S → Input M → Deed M S) (c : Course) (given nodes : List S)
    (journals : List (List Entry)) : Type 0 where
  pub kept : HaveKept {M = M} note step c given nodes journals
  pub carried : AreCarried c.plan.params c.beats (lifetime_of c) journals
  pub paced : ArePaced c journals
  pub timed : AreTimed c.plan.params c.beats (lifetime_of c) journals
