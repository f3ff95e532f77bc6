use Rattle.std.proofs.Common.{arith}
use Rattle.partial_view.specs.Lines.{key_of}
use Rattle.partial_view.specs.Views.{with_mark}
use Rattle.partial_view.proofs.Rounds.{seen-now, there-inside, there-marked, there-marks, there-own, there-row, turn-inside, turn-seen, wheel-lent}
use Rattle.partial_view.proofs.wheel.Wheel.mark_first.Goals as goal

pub first_between-requires-clause-turn : goal.first_between-requires-clause-turn
first_between-requires-clause-turn c = turn-inside c.self.inside.plan.params c.args.near.turn c.self.view_is c.requires

pub returns-clause-turn : goal.returns-clause-turn
returns-clause-turn c = turn-seen c.self.inside.plan.params c.in_ok-found.found.due c.in_ok-found.found.place.turn c.self.view_is c.in_ok-found.ensures.there.turn

pub index_mut-requires : goal.index_mut-requires
index_mut-requires c =
    omega (arith, there-inside c.self.inside.plan.params c.as_slice-buckets.result.now c.in_ok-found.found (wheel-lent c.self.inside.plan.params c.self.inside.buckets.items c.as_slice-buckets.result.now c.as_slice-buckets.ensures.value c.self.invariant.0) c.in_ok-found.ensures.there, c.as_slice-buckets.ensures.len)

pub mark-requires : goal.mark-requires
mark-requires c =
    there-row c.self.inside.plan.params c.self.inside.buckets.items c.in_ok-found.found c.self.invariant.0 (there-own c.self.inside.plan.params c.self.inside.buckets.items c.as_slice-buckets.result.now c.in_ok-found.found c.as_slice-buckets.ensures.value c.in_ok-found.ensures.there)
    c.index_mut.result.now c.index_mut.ensures.value

pub invariant_of-self : goal.invariant_of-self
invariant_of-self c = (
  there-marked c.self.inside.plan.params c.self.inside.buckets.items c.in_ok-found.found c.self.invariant.0 (there-own c.self.inside.plan.params c.self.inside.buckets.items c.as_slice-buckets.result.now c.in_ok-found.found c.as_slice-buckets.ensures.value c.in_ok-found.ensures.there)
      c.index_mut.result.now c.index_mut.ensures.value c.args.flag c.mark.new.self c.mark.ensures,
  c.self.invariant.1,
)

pub returns-clause-marked : goal.returns-clause-marked
returns-clause-marked c =
    seen-now c.self.inside.plan.params _ _ (λ p ls. with_mark (key_of c.in_ok-found.found.line) c.args.flag ls) c.self.view_is
    (there-marks c.self.inside.plan.params c.self.inside.buckets.items c.in_ok-found.found c.self.invariant.0 (there-own c.self.inside.plan.params c.self.inside.buckets.items c.as_slice-buckets.result.now c.in_ok-found.found c.as_slice-buckets.ensures.value c.in_ok-found.ensures.there)
    c.index_mut.result.now c.index_mut.ensures.value c.args.flag c.mark.new.self c.mark.ensures)
