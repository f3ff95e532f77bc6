-- The view of a cub at a moment: the records that it took, less those that it dropped after that. A death empties it, and
-- it begins anew with a return.
use Rattle.std.specs.Prelude.{Bool, true, false, not, ◌&&◌, ◌==◌, List, [], ◌∷◌, ◌++◌, filter, if◌then◌else◌}
use Rattle.std.specs.List.{list_any}
use Rattle.tiger_base.specs.declared.tenancy.Tenancy.{Tenancy}
use Rattle.tiger_base.specs.declared.tenancy.Kind.{Kind}
use Rattle.tiger_base.specs.declared.tenancy.Kind.TheVariants.{Own, Backup}
use Rattle.tiger_base.specs.declared.tenancy.Rec.{Rec}
use Rattle.node_kit.specs.declared.journal.What.{What}
use Rattle.node_kit.specs.declared.journal.What.TheVariants as what
use Rattle.node_kit.specs.declared.journal.Entry.{Entry}

-- whether two kinds, two tenancies and two records are the same
abbrev pub same_kind : Kind → Kind → Bool
same_kind Own Own = true
same_kind Backup Backup = true
same_kind a b = false

abbrev pub same_tenancy : Tenancy → Tenancy → Bool
same_tenancy t u =
    (t.instance.0 == u.instance.0) && (t.file.0 == u.file.0) && (t.slot.0 == u.slot.0) && (t.first == u.first) && (t.last == u.last)

unfoldable pub same_record : Rec → Rec → Bool
same_record r q = same_tenancy r.tenancy q.tenancy && (r.visit == q.visit) && same_kind r.kind q.kind

-- whether an entry takes a record out of the view: it drops the record, or the cub dies, or is back with an empty view
abbrev pub drops : Rec → What → Bool
drops r (what.Dropped q) = same_record q r
drops r what.Died = true
drops r what.Returned = true
drops r other = false

-- the record that an entry took, unless one of the later entries drops it
abbrev pub taken_by : What → List Entry → List Rec
taken_by (what.Took r) later = if list_any (λ e. drops r e.what) later then [] else r ∷ []
taken_by other later = []

-- the records that a journal says were taken and are still there
abbrev pub records_of : List Entry → List Rec
records_of [] = []
records_of (e ∷ es) = taken_by e.what es ++ records_of es

-- what one more entry makes of them
abbrev pub recorded : List Rec → What → List Rec
recorded records (what.Took r) = records ++ r ∷ []
recorded records (what.Dropped r) = filter (λ q. not (same_record r q)) records
recorded records what.Died = []
recorded records what.Returned = []
recorded records other = records
