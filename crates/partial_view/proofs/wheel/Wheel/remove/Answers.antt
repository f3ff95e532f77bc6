use Rattle.std.proofs.Common.{◌∙◌, ap, sym, arith}
use Rattle.slot_plan.specs.Keys.{Key}
use Rattle.partial_view.specs.Views.{without}
use Rattle.partial_view.specs.Wheel.{all_lines}
use Rattle.partial_view.proofs.Rounds.{line-is, line-own, seen-now, there-inside, there-left, there-own, there-row, there-taken, wheel-lent, without-none}
use Rattle.partial_view.proofs.wheel.Wheel.remove.Goals as goal

pub returns-in_err-found-clause-left : goal.returns-in_err-found-clause-left
returns-in_err-found-clause-left c =
    sym c.self.view_is ∙ seen-now c.self.inside.plan.params _ _ (λ p ls. without c.args.key ls) c.self.view_is
    (sym (without-none c.args.key (all_lines c.self.inside.plan.params c.self.inside.buckets.items) (line-own c.self.inside.plan.params c.self.inside.buckets.items c.as_slice.result.now c.args.key c.as_slice.ensures.value c.in_err-found.ensures.line)))

pub index_mut-requires : goal.index_mut-requires
index_mut-requires c =
    omega (arith, there-inside c.self.inside.plan.params c.as_slice.result.now c.in_ok-found.found (wheel-lent c.self.inside.plan.params c.self.inside.buckets.items c.as_slice.result.now c.as_slice.ensures.value c.self.invariant.0) c.in_ok-found.ensures.there, c.as_slice.ensures.len)

pub take-requires : goal.take-requires
take-requires c =
    there-row c.self.inside.plan.params c.self.inside.buckets.items c.in_ok-found.found c.self.invariant.0 (there-own c.self.inside.plan.params c.self.inside.buckets.items c.as_slice.result.now c.in_ok-found.found c.as_slice.ensures.value c.in_ok-found.ensures.there)
    c.index_mut.result.now c.index_mut.ensures.value

pub invariant_of-self : goal.invariant_of-self
invariant_of-self c = (
  there-taken c.self.inside.plan.params c.self.inside.buckets.items c.in_ok-found.found c.self.invariant.0 (there-own c.self.inside.plan.params c.self.inside.buckets.items c.as_slice.result.now c.in_ok-found.found c.as_slice.ensures.value c.in_ok-found.ensures.there)
      c.index_mut.result.now c.index_mut.ensures.value c.take.new.self c.take.ensures,
  c.self.invariant.1,
)

pub returns-clause-left : goal.returns-clause-left
returns-clause-left c =
    seen-now c.self.inside.plan.params _ _ (λ p ls. without c.args.key ls) c.self.view_is
    (there-left c.self.inside.plan.params c.self.inside.buckets.items c.in_ok-found.found c.self.invariant.0 (there-own c.self.inside.plan.params c.self.inside.buckets.items c.as_slice.result.now c.in_ok-found.found c.as_slice.ensures.value c.in_ok-found.ensures.there)
    c.index_mut.result.now c.index_mut.ensures.value c.take.new.self c.take.ensures
    ∙ ap (λ (k : Key). without k (all_lines c.self.inside.plan.params c.self.inside.buckets.items)) (line-is c.args.key (all_lines c.self.inside.plan.params c.self.inside.buckets.items) c.in_ok-found.found.line (sym (line-own c.self.inside.plan.params c.self.inside.buckets.items c.as_slice.result.now c.args.key c.as_slice.ensures.value c.in_ok-found.ensures.line))))
