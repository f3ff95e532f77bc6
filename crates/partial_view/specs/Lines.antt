-- The line of a record: which visit it is of, whose, and what was done for it.
use Rattle.std.specs.Prelude.{Bool, true, false, ◌&&◌, ◌==◌}
use Rattle.tiger_base.specs.declared.number.Instance.{Instance}
use Rattle.tiger_base.specs.declared.tenancy.Rec.{Rec}
use Rattle.slot_plan.specs.Keys.{Key}
use Rattle.partial_view.specs.declared.line.Line.{Line}
use Rattle.partial_view.specs.declared.line.Flag.{Flag}
use Rattle.partial_view.specs.declared.line.Flag.TheVariants.{Forwarded, Asked, Split}

-- the slot and the visit of a record, and of a line
abbrev pub visit_of : Rec → Key
visit_of r = (r.tenancy.slot, r.visit)

abbrev pub key_of : Line → Key
key_of line = visit_of line.rec

-- whose line it is
abbrev pub instance_of : Line → Instance
instance_of line = line.rec.tenancy.instance

-- the line of a record for which nothing was done yet
abbrev pub unmarked : Rec → Line
unmarked r = record { rec = r; forwarded = false; asked = false; split = false }

-- the line with a flag set
abbrev pub marked : Flag → Line → Line
marked Forwarded line = record line { forwarded = true }
marked Asked line = record line { asked = true }
marked Split line = record line { split = true }

-- whether two visits are one
abbrev pub same : Key → Key → Bool
same a b = (a.0.0 == b.0.0) && (a.1 == b.1)

-- whether a line is of a visit, and of an instance
abbrev pub is_at : Key → Line → Bool
is_at k line = same k (key_of line)

abbrev pub is_of : Instance → Line → Bool
is_of v line = (instance_of line).0 == v.0
