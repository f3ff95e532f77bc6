-- What is answered to a record that is to be added.
use Rattle.std.specs.Prelude.{◌==◌, List, Option, Some, None, if◌then◌else◌}
use Rattle.tiger_base.specs.declared.number.Instance.{Instance}
use Rattle.tiger_base.specs.declared.tenancy.Rec.{Rec}
use Rattle.partial_view.specs.declared.line.Line.{Line}
use Rattle.partial_view.specs.declared.view.Added.{Added}
use Rattle.partial_view.specs.declared.view.Added.TheVariants.{New, Known, Other}
use Rattle.partial_view.specs.Lines.{visit_of, instance_of}
use Rattle.partial_view.specs.Views.{line_at}

-- if the visit is taken: the same instance has it, or another one
abbrev pub answer_by : Instance → Instance → Added
answer_by wanted there = if there.0 == wanted.0 then Known else Other there

-- it is new if its visit has no line
abbrev pub answer_at : Instance → Option Line → Added
answer_at wanted None = New
answer_at wanted (Some line) = answer_by wanted (instance_of line)

abbrev pub answer_to : Rec → List Line → Added
answer_to r lines = answer_at r.tenancy.instance (line_at (visit_of r) lines)
