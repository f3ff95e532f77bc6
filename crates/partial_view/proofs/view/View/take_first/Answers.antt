use Rattle.std.proofs.Common.{◌∙◌, ap, Option, option_map}
use Rattle.partial_view.specs.declared.turn.Found.{Found}
use Rattle.partial_view.specs.Views.{Seen}
use Rattle.partial_view.specs.Work.{is_left, first_between}
use Rattle.partial_view.proofs.Earliest.{begun_by, before_without_of, first_from_begin}
use Rattle.partial_view.proofs.Within.{spread_without_of}
use Rattle.partial_view.proofs.view.View.take_first.Goals as goal

pub returns-in_err-found-clause-first : goal.returns-in_err-found-clause-first
returns-in_err-found-clause-first c =
    ap (λ (o : Option Found). option_map (λ f. f.line) o) c.from_residual.ensures
    ∙ (c.in_err-found.ensures.first
    ∙ (first_from_begin c.self.inside.wheel.params (is_left c.args.work) c.self.inside.begin c.args.time c.self.inside.wheel.lines c.self.invariant.0
    ∙ ap (λ (s : Seen). first_between s.params (is_left c.args.work) 0 c.args.time s.lines) c.self.view_is))

pub invariant_of-self-2 : goal.invariant_of-self-2
invariant_of-self-2 c =
    begun_by c.self.inside.begin c.self.inside.front.turn c.self.inside.spread.spans.items c.self.inside.wheel c.take_first.new.self _ c.take_first.ensures.left
    (before_without_of c.self.inside.wheel.params c.self.inside.begin _ c.self.inside.wheel.lines c.self.invariant.0) c.self.invariant.1 (spread_without_of c.self.inside.wheel.params c.self.inside.spread.spans.items _ c.self.inside.wheel.lines c.self.invariant.2)

pub returns-clause-first : goal.returns-clause-first
returns-clause-first c =
    c.in_ok-found.ensures.first
    ∙ (first_from_begin c.self.inside.wheel.params (is_left c.args.work) c.self.inside.begin c.args.time c.self.inside.wheel.lines c.self.invariant.0
    ∙ ap (λ (s : Seen). first_between s.params (is_left c.args.work) 0 c.args.time s.lines) c.self.view_is)
