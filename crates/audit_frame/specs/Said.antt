-- What an answer of a walk along the log of a kept run says of a claim.
use Rattle.std.specs.Prelude.{◌≡◌, ℕ, List, Option, Some, None}
use Rattle.node_kit.specs.declared.course.Kept.{Kept}
use Rattle.run_facts.specs.Accounts.{Rising}
use Rattle.run_facts.specs.Order.{Noted, beat_of}
use Rattle.run_model.specs.Runs.{order_in}
use Rattle.audit_frame.specs.First.{Decides}
use Rattle.audit_frame.specs.Lines.{told_by}
use Rattle.audit_frame.specs.declared.lines.Line.{Line}

-- an answer that names no entry says that a claim holds, and one that names an entry that it does not
abbrev pub SaysOf : Option ℕ → Type 0 → Type 0
SaysOf None claim = claim
SaysOf (Some i) claim = claim → ⊥

-- these lines tell the log of a kept run, and the answer decides this of it
pub record IsDecidedAs (k : Kept) (lines : List Line) (claim : List Noted → Type 0) (answer : Option ℕ) : Type 0 where
  pub told : told_by lines ≡ order_in k
  pub decided : Decides claim (told_by lines) answer

-- the beats of the lines that tell the log of a kept run do not fall
abbrev pub LinesRise : Type 0
LinesRise = (k : Kept) (lines : List Line) → told_by lines ≡ order_in k → Rising beat_of (told_by lines)
