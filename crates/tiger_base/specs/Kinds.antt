-- Of which kind a record is.
use Rattle.std.specs.Prelude.{Bool, true, false}
use Rattle.tiger_base.specs.declared.tenancy.Kind.{Kind}
use Rattle.tiger_base.specs.declared.tenancy.Kind.TheVariants.{Own, Backup}

-- whether a cub has the record because the visit is its own
abbrev pub is_own : Kind → Bool
is_own Own = true
is_own Backup = false
