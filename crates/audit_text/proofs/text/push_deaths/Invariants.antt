use Rattle.std.proofs.Common.{◌≡◌, ◌++◌, drop}
use Rattle.audit_text.specs.Texts.{death_items, text_in}
use Rattle.audit_text.proofs.text.push_deaths.Given as goal

-- with what is left, it will be the whole
abbrev pub invariant-loop-death : goal.invariant-loop-death
invariant-loop-death l =
    (l.cub ≡ l.death-index)
    × (l.text.items ++ text_in (death_items l.course.cuts l.course.backs l.cub (drop l.death-index l.death-items)) ≡ l.fn.text.items
    ++ text_in (death_items l.course.cuts l.course.backs 0 l.course.deaths))
