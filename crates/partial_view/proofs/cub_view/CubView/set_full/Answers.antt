use Rattle.std.proofs.Common.{sym, subst}
use Rattle.std.specs.Option.{ForSome}
use Rattle.slot_plan.specs.declared.params.Params.{Params}
use Rattle.partial_view.specs.Free.{IsFullAt, HasEntered}
use Rattle.partial_view.specs.Views.{Seen}
use Rattle.partial_view.proofs.Frees.{full_from}
use Rattle.partial_view.proofs.cub_view.CubView.set_full.Goals as goal

pub invariant_of-self : goal.invariant_of-self
invariant_of-self c = (
  c.self.invariant.0,
  c.self.invariant.1,
  c.self.invariant.2,
  c.self.invariant.3,
  c.self.invariant.4,
  c.take_in.ensures c.self.inside.plan.params c.self.inside.view.lines c.self.invariant.5
      (full_from c.self.inside.plan.params c.args.reading c.self.inside.view.lines (record { disk = c.args.disk; until = c.next_entry-until.result; last = c.args.last }) c.next_entry-until.ensures.none_before
      (subst (λ (q : Params). IsFullAt q c.args.disk.0 c.args.reading c.self.inside.view.lines) c.self.invariant.0
      (subst (λ (s : Seen). IsFullAt s.params c.args.disk.0 c.args.reading s.lines) (sym c.self.view_is) c.requires.full))
      (subst (λ (q : Params). ForSome c.args.last (HasEntered q c.args.reading)) c.self.invariant.0
      (subst (λ (s : Seen). ForSome c.args.last (HasEntered s.params c.args.reading)) (sym c.self.view_is) c.requires.last))),
  c.self.invariant.6,
  c.self.invariant.7,
  c.self.invariant.8,
  c.self.invariant.9,
)
