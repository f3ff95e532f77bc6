use Rattle.std.proofs.Common.{◌∙◌, ap, sym, arith}
use Rattle.slot_plan.specs.Keys.{Key}
use Rattle.partial_view.specs.Views.{with_mark}
use Rattle.partial_view.specs.Wheel.{all_lines}
use Rattle.partial_view.proofs.Rounds.{line-is, line-own, mark-none, seen-now, there-inside, there-marked, there-marks, there-own, there-row, wheel-lent}
use Rattle.partial_view.proofs.wheel.Wheel.mark.Goals as goal

pub returns-in_default-clause-marked : goal.returns-in_default-clause-marked
returns-in_default-clause-marked c =
    sym c.self.view_is ∙ seen-now c.self.inside.plan.params _ _ (λ p ls. with_mark c.args.key c.args.flag ls) c.self.view_is
    (sym (mark-none c.args.key c.args.flag (all_lines c.self.inside.plan.params c.self.inside.buckets.items) (line-own c.self.inside.plan.params c.self.inside.buckets.items c.as_slice.result.now c.args.key c.as_slice.ensures.value c.in_default.ensures.line)))

pub index_mut-requires : goal.index_mut-requires
index_mut-requires c =
    omega (arith, there-inside c.self.inside.plan.params c.as_slice.result.now c.in-Some.found (wheel-lent c.self.inside.plan.params c.self.inside.buckets.items c.as_slice.result.now c.as_slice.ensures.value c.self.invariant.0) c.in-Some.ensures.there, c.as_slice.ensures.len)

pub mark-requires : goal.mark-requires
mark-requires c =
    there-row c.self.inside.plan.params c.self.inside.buckets.items c.in-Some.found c.self.invariant.0 (there-own c.self.inside.plan.params c.self.inside.buckets.items c.as_slice.result.now c.in-Some.found c.as_slice.ensures.value c.in-Some.ensures.there)
    c.index_mut.result.now c.index_mut.ensures.value

pub invariant_of-self : goal.invariant_of-self
invariant_of-self c = (
  there-marked c.self.inside.plan.params c.self.inside.buckets.items c.in-Some.found c.self.invariant.0 (there-own c.self.inside.plan.params c.self.inside.buckets.items c.as_slice.result.now c.in-Some.found c.as_slice.ensures.value c.in-Some.ensures.there)
      c.index_mut.result.now c.index_mut.ensures.value c.args.flag c.mark.new.self c.mark.ensures,
  c.self.invariant.1,
)

pub returns-clause-marked : goal.returns-clause-marked
returns-clause-marked c =
    seen-now c.self.inside.plan.params _ _ (λ p ls. with_mark c.args.key c.args.flag ls) c.self.view_is
    (there-marks c.self.inside.plan.params c.self.inside.buckets.items c.in-Some.found c.self.invariant.0 (there-own c.self.inside.plan.params c.self.inside.buckets.items c.as_slice.result.now c.in-Some.found c.as_slice.ensures.value c.in-Some.ensures.there)
    c.index_mut.result.now c.index_mut.ensures.value c.args.flag c.mark.new.self c.mark.ensures
    ∙ ap (λ (k : Key). with_mark k c.args.flag (all_lines c.self.inside.plan.params c.self.inside.buckets.items)) (line-is c.args.key (all_lines c.self.inside.plan.params c.self.inside.buckets.items) c.in-Some.found.line (sym (line-own c.self.inside.plan.params c.self.inside.buckets.items c.as_slice.result.now c.args.key c.as_slice.ensures.value c.in-Some.ensures.line))))
