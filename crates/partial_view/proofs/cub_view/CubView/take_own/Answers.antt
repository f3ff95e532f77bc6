use Rattle.std.proofs.Common.{◌∙◌, ap}
use Rattle.partial_view.specs.Views.{Seen}
use Rattle.partial_view.specs.Work.{is_whole, first_between}
use Rattle.partial_view.proofs.Firsts.{first_none}
use Rattle.partial_view.proofs.cub_view.CubView.take_own.Goals as goal

pub returns-then-is_before_all-clause-first : goal.returns-then-is_before_all-clause-first
returns-then-is_before_all-clause-first c =
    first_none c.self.inside.view.params is_whole 0 c.args.time c.self.inside.view.lines (c.is_before_all.ensures.later c.if-is_before_all.true)
    ∙ ap (λ (s : Seen). first_between s.params is_whole 0 c.args.time s.lines) c.self.view_is
