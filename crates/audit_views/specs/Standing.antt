-- What a set of records has that stand by instance.
use Rattle.std.specs.Prelude.{ℕ, Bool, List}
use Rattle.tiger_base.specs.declared.tenancy.Rec.{Rec}
use Rattle.audit_frame.specs.Records.{has_held}
use Rattle.audit_frame.specs.declared.records.By.TheVariants as way
use Rattle.audit_frame.specs.declared.records.Held.{Held}

-- whether a cub has a record
abbrev pub has_record : ℕ → Rec → List Held → Bool
has_record c r records = has_held way.Instance c r records
