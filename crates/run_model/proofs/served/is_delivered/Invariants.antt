use Rattle.std.proofs.Common.{◌≡◌, drop}
use Rattle.run_model.specs.Tests.{some_tenancy, came}
use Rattle.run_model.proofs.served.is_delivered.Given as goal

-- what is left decides
abbrev pub invariant-loop-journal : goal.invariant-loop-journal
invariant-loop-journal l =
    let test = came l.k.course.plan.params l.k.catalogue l.k.journals l.n in
    some_tenancy l.k.journals l.v.0 l.n test ≡ some_tenancy (drop l.journal-index l.journal-items) l.v.0 l.n test
