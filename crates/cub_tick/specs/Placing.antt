-- How a start is put, as the kind of the record says that its first visit gets, and when none can be.
use Rattle.std.specs.Prelude.{ℕ}
use Rattle.std.specs.List.{AllByRecursion}
use Rattle.tiger_base.specs.declared.tenancy.Kind.{Kind}
use Rattle.tiger_base.specs.declared.tenancy.Kind.TheVariants.{Own, Backup}
use Rattle.tiger_base.specs.declared.tenancy.Tenancy.{Tenancy}
use Rattle.tiger_base.specs.declared.message.Msg.{Msg}
use Rattle.partial_view.specs.Free.{IsFullAt}
use Rattle.slot_plan.specs.declared.params.Params.{Params}
use Rattle.node_kit.specs.Steps.{Deed}
use Rattle.cub_rules.specs.declared.store.Store.{Store}
use Rattle.cub_rules.specs.Ticks.{putting_own, putting_for_dead}

-- on a cub's own disk by an own record, and on a disk of its predecessor by a backup record
abbrev pub putting_by : Kind → Params → ℕ → Tenancy → Store → Deed Msg Store
putting_by Own = putting_own
putting_by Backup = putting_for_dead

-- each start that waits is for a disk of which no visit is free
abbrev pub WaitForFull : ℕ → Store → Type 0
WaitForFull reading h =
    AllByRecursion (λ a. IsFullAt h.view.params a.disk.0 reading h.view.lines) h.starts.waiting
