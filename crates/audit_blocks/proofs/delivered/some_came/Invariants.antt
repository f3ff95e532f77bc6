use Rattle.std.proofs.Common.{◌≡◌, ◌&&◌, nat_le, drop}
use Rattle.std.specs.List.{list_any}
use Rattle.tiger_base.specs.declared.tenancy.Tenancy.{Tenancy}
use Rattle.run_model.specs.Tests.{came}
use Rattle.audit_blocks.proofs.delivered.some_came.Given as goal

-- what is left decides
abbrev pub invariant-loop-t : goal.invariant-loop-t
invariant-loop-t l =
    let test = λ (t : Tenancy). nat_le t.first l.n && nat_le l.n t.last && came l.k.course.plan.params l.k.catalogue l.k.journals l.n t in
    list_any test l.puts ≡ list_any test (drop l.t-index l.puts)
