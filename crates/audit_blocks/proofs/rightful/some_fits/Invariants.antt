use Rattle.std.proofs.Common.{◌≡◌, ◌&&◌, nat_le, drop}
use Rattle.std.specs.List.{list_any}
use Rattle.tiger_base.specs.declared.tenancy.Tenancy.{Tenancy}
use Rattle.audit_blocks.specs.Rightful.{fits_tenancy}
use Rattle.audit_blocks.proofs.rightful.some_fits.Given as goal

-- what is left decides
abbrev pub invariant-loop-t : goal.invariant-loop-t
invariant-loop-t l =
    let n = l.cargo.receipt.want.visit in
    let test = λ (t : Tenancy). nat_le t.first n && nat_le n t.last && fits_tenancy l.k.course.plan.params l.k.catalogue l.cargo t in
    list_any test l.puts ≡ list_any test (drop l.t-index l.puts)
