-- Where disks die and no cub does, each viewer that was put gets its file's blocks, or there is an excuse; and the viewers get
-- nothing else.
use Rattle.std.specs.Prelude.{ℕ, ◌+◌, ◌*◌, ◌<◌, ◌≤◌, List, Option, Some, None, ◌⊎◌}
use Rattle.std.specs.List.{AllByRecursion}
use Rattle.tiger_base.specs.declared.tenancy.Tenancy.{Tenancy}
use Rattle.slot_plan.specs.declared.params.Params.{Params}
use Rattle.slot_plan.specs.Conditions.{longest_way}
use Rattle.slot_plan.specs.Times.{due, cub_of, disk_of, time_of}
use Rattle.stripe_layout.specs.declared.catalogue.Catalogue.{Catalogue}
use Rattle.node_kit.specs.declared.course.ReadFault.{ReadFault}
use Rattle.node_kit.specs.declared.journal.What.{What}
use Rattle.node_kit.specs.declared.journal.What.TheVariants as what
use Rattle.node_kit.specs.declared.journal.Entry.{Entry}
use Rattle.run_facts.specs.Order.{Noted}
use Rattle.run_model.specs.Served.{IsVisitOf, IsDelivered, IsSettled}
use Rattle.run_model.specs.Excuses.{ReadFailed, WasStopped}
use Rattle.run_claims.specs.Served.{IsOfPutIfViewers}
use Rattle.disk_death.specs.Deaths.{death_of_disk}

-- how long before a visit is due it can still be split at the beat of its disk's death, whatever the cub's clock shows
abbrev pub lead_of_splits : Params → ℕ
lead_of_splits p = p.read_lead + 2 * p.skew + longest_way p + p.beat

-- the read of one of the pieces of a visit failed, at the cub of the piece
pub record PieceReadFailed (p : Params) (journals : List (List Entry)) (t : Tenancy) (visit : ℕ) : Type 0 where
  pub piece : ℕ
  pub low : 1 ≤ piece
  pub high : piece ≤ p.pieces
  pub failed : ReadFailed journals (cub_of p (visit + piece)) t.instance.0 visit piece

-- the read of its whole block failed, and the visit is due too soon behind the death of its disk in a beat to be split for
-- certain
pub record IsTooSoon (p : Params) (journals : List (List Entry)) (from : ℕ) (t : Tenancy) (visit : ℕ) : Type 0 where
  pub failed : ReadFailed journals (cub_of p visit) t.instance.0 visit 0
  pub soon : due p t.slot.0 visit < time_of p from + lead_of_splits p

-- By its disk a visit is excused if the read of its whole block failed and the disk does not die; and if it dies, if the read
-- of a piece failed, or that of the whole block too soon behind the death.
abbrev pub IsExcusedByDisk : Params → List (List Entry) → Option ℕ → Tenancy → ℕ → Type 0
IsExcusedByDisk p journals None t visit = ReadFailed journals (cub_of p visit) t.instance.0 visit 0
IsExcusedByDisk p journals (Some from) t visit = PieceReadFailed p journals t visit ⊎ IsTooSoon p journals from t visit

-- the visit of an instance is excused, if a disk that dies is dead from such a beat on: by its disk, or by a stop
pub record IsSpareExcused (p : Params) (journals : List (List Entry)) (death : ℕ → Option ℕ) (v visit : ℕ) : Type 0 where
  pub tenancy : Tenancy
  pub visited : IsVisitOf journals v visit tenancy
  pub excuse : IsExcusedByDisk p journals (death (disk_of p visit)) tenancy visit ⊎ WasStopped p journals tenancy visit

-- each visit of a tenancy that is settled at the end of the run was delivered, or is so excused
abbrev pub IsSpareServed : Params → Catalogue → List (List Entry) → (ℕ → Option ℕ) → ℕ → Tenancy → Type 0
IsSpareServed p catalogue journals death end t =
    (visit : ℕ) → t.first ≤ visit → visit ≤ t.last → IsSettled p end t.slot.0 visit
    → IsDelivered p catalogue journals t.instance.0 visit ⊎ IsSpareExcused p journals death t.instance.0 visit

-- and so for the tenancy of an entry that puts one
abbrev pub IsSpareServedIfPut : Params → Catalogue → List (List Entry) → (ℕ → Option ℕ) → ℕ → What → Type 0
IsSpareServedIfPut p catalogue journals death end (what.Put t) = IsSpareServed p catalogue journals death end t
IsSpareServedIfPut p catalogue journals death end other = Unit {0}

-- each tenancy that a log puts is served by the end, and all that the viewers get is of such a tenancy
pub record AreSpareServed (p : Params) (catalogue : Catalogue) (journals : List (List Entry)) (death : ℕ → Option ℕ) (end : ℕ) (log : List Noted) : Type 0 where
  pub settled : AllByRecursion (λ x. IsSpareServedIfPut p catalogue journals death end x.entry.what) log
  pub got : AllByRecursion (IsOfPutIfViewers p catalogue journals) log

-- from when on the disks of a run of so many beats with these read faults are dead
abbrev pub disk_deaths : List ReadFault → ℕ → ℕ → Option ℕ
disk_deaths faults beats disk = death_of_disk faults beats disk
