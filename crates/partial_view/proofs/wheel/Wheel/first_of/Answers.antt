use Rattle.partial_view.proofs.Within.{span-lent}
use Rattle.partial_view.proofs.wheel.Wheel.first_of.Goals as goal

pub first_of-requires-clause-span : goal.first_of-requires-clause-span
first_of-requires-clause-span c =
    span-lent c.self.inside.plan.params c.self.inside.buckets.items c.as_slice.result.now c.args.instance c.args.span c.self.view_is c.as_slice.ensures.value c.requires
