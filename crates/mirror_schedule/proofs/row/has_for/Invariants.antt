use Rattle.std.proofs.Common.{◌≡◌, drop, find}
use Rattle.tiger_base.specs.Records.{same_want, want_of_piece}
use Rattle.mirror_schedule.proofs.row.has_for.Given as goal

abbrev pub invariant-loop-i : goal.invariant-loop-i
invariant-loop-i l =
    find (λ x. same_want l.want (want_of_piece x.0)) (drop l.i l.items.items) ≡ find (λ x. same_want l.want (want_of_piece x.0)) l.items.items
