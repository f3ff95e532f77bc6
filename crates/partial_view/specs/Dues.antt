-- The due times of lines, beside them.
use Rattle.std.specs.Prelude.{◌≡◌, ℕ, List, map}
use Rattle.slot_plan.specs.declared.params.Params.{Params}
use Rattle.slot_plan.specs.Keys.{due_of}
use Rattle.partial_view.specs.declared.line.Line.{Line}
use Rattle.partial_view.specs.Lines.{key_of}
use Rattle.partial_view.specs.Views.{IsWalk}

-- when each line is due
abbrev pub dues_of : Params → List Line → List ℕ
dues_of p lines = map (λ x. due_of p (key_of x)) lines

-- the due times are those of the lines, one for one
abbrev pub AreDues : Params → List Line → List ℕ → Type 0
AreDues p lines dues = dues ≡ dues_of p lines

-- lines in their order, beside their due times
abbrev pub AreTimed : Params → List Line → List ℕ → Type 0
AreTimed p lines dues = AreDues p lines dues × IsWalk p lines
