-- Work on the lines of a view: the first line for which it is to do is marked or taken out, again and again.
use Rattle.std.specs.Prelude.{◌≡◌, List, ◌++◌}
use Rattle.std.specs.List.{AllByRecursion, flat_map}
use Rattle.partial_view.specs.declared.line.Line.{Line}
use Rattle.partial_view.specs.Views.{Seen}

-- the work is under way: what the lines now become and give out, with what is out already, is what the lines before become and give out
pub record WorkedOn {X : Type 0} (P : Line → Type 0) (outs_of : Line → List X) (lines_of : Line → List Line) (before : Seen) (outs_before : List X) (now : Seen) (outs_now : List X) : Type 0 where
  pub params : now.params ≡ before.params
  pub each : AllByRecursion P now.lines
  pub lines : flat_map lines_of now.lines ≡ flat_map lines_of before.lines
  pub outs : outs_now ++ flat_map outs_of now.lines ≡ outs_before ++ flat_map outs_of before.lines
