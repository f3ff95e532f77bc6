use Rattle.std.proofs.Common.{◌≡◌, ◌&&◌, not, false, get_or, take}
use Rattle.tiger_base.specs.declared.number.Instance.{Instance}
use Rattle.deschedule.specs.Holds.{has_ended}
use Rattle.deschedule.proofs.marks.unmark_ended.Given as goal

abbrev pub invariant-loop-place : goal.invariant-loop-place
invariant-loop-place l =
    (v : Instance) → get_or l.marks.items v.0 false ≡ (get_or l.fn.marks.items v.0 false && not (has_ended (take l.place l.holds.items) l.reading v))
