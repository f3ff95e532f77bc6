use Rattle.std.proofs.Common.{◌≡◌, ◌∙◌, sym, ap, subst, arith}
use Rattle.slot_plan.specs.Keys.{due_of}
use Rattle.partial_view.specs.Lines.{visit_of}
use Rattle.partial_view.specs.Views.{Seen, with_record}
use Rattle.partial_view.specs.Work.{NoneBefore}
use Rattle.partial_view.specs.Spread.{AreSpread}
use Rattle.partial_view.specs.Wheel.{bucket_at}
use Rattle.partial_view.proofs.Earliest.{begun_by, before_record}
use Rattle.partial_view.proofs.Rounds.{bucket-is}
use Rattle.partial_view.proofs.Within.{spread_grown, spread_record}
use Rattle.partial_view.proofs.view.View.add_due.Goals as goal
use Rattle.partial_view.proofs.view.View.add_due.Goals.{In_ok-added, After-widen}

due_is : (c : In_ok-added) → c.args.due ≡ due_of c.self.inside.wheel.params (visit_of c.args.rec)
due_is c = subst (λ (s : Seen). c.args.due ≡ due_of s.params (visit_of c.args.rec)) (sym c.self.view_is) c.requires.due

-- each line stands in a bucket of its instance's span, that of the record too
spread_new : (c : After-widen) → AreSpread c.self.inside.wheel.params c.widen.new.self.spans.items (with_record c.self.inside.wheel.params c.args.rec c.self.inside.wheel.lines)
spread_new c =
    let due : c.args.due ≡ due_of c.self.inside.wheel.params (visit_of c.args.rec) = subst (λ (s : Seen). c.args.due ≡ due_of s.params (visit_of c.args.rec)) (sym c.self.view_is) c.requires.due in
    spread_record c.self.inside.wheel.params c.make_place.new.self.spans.items c.widen.new.self.spans.items c.args.rec c.bucket_at.result c.self.inside.wheel.lines
    (bucket-is c.self.inside.wheel.params (visit_of c.args.rec) (c.bucket_at.ensures ∙ ap (λ (s : Seen). bucket_at s.params c.args.due) c.in_ok-added.ensures.ok) due) c.widen.ensures.here c.widen.ensures.others
    (spread_grown c.self.inside.wheel.params c.self.inside.spread.spans.items c.make_place.new.self.spans.items c.self.inside.wheel.lines c.make_place.ensures.same c.self.invariant.2)

spread_is : (c : After-widen) → AreSpread c.add.new.self.params c.widen.new.self.spans.items c.add.new.self.lines
spread_is c = subst (λ (s : Seen). AreSpread s.params c.widen.new.self.spans.items s.lines) (sym c.in_ok-added.ensures.ok) (spread_new c)

pub invariant_of-self-then-due-self : goal.invariant_of-self-then-due-self
invariant_of-self-then-due-self c = (
  subst (λ (s : Seen). NoneBefore s.params c.args.due s.lines) (sym c.in_ok-added.ensures.ok)
      (before_record c.self.inside.wheel.params c.args.due c.self.inside.begin c.args.rec c.self.inside.wheel.lines (omega (arith, c.if-due-self.true)) (omega (arith, due_is (goal.at.invariant_of-self-then-due-self c).In_ok-added)) c.self.invariant.0),
  c.start-self-inside.ensures,
  spread_is (goal.at.invariant_of-self-then-due-self c).After-widen,
)

pub invariant_of-self-else-due-self : goal.invariant_of-self-else-due-self
invariant_of-self-else-due-self c =
    begun_by c.self.inside.begin c.self.inside.front.turn c.widen.new.self.spans.items c.self.inside.wheel c.add.new.self _ c.in_ok-added.ensures.ok
    (before_record c.self.inside.wheel.params c.self.inside.begin c.self.inside.begin c.args.rec c.self.inside.wheel.lines (omega arith) (omega (arith, c.if-due-self.false, due_is (goal.at.invariant_of-self-else-due-self c).In_ok-added)) c.self.invariant.0) c.self.invariant.1 (spread_new (goal.at.invariant_of-self-else-due-self c).After-widen)
