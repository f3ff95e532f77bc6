-- The starts that a cub keeps, as two lists, and what happens to them.
use Rattle.std.specs.Prelude.{◌≡◌, Bool, true, false, ◌==◌, ◌||◌, not, List, [], ◌∷◌, ◌++◌, Option, find, filter, if◌then◌else◌}
use Rattle.std.specs.List.{list_any, AllByRecursion}
use Rattle.tiger_base.specs.declared.number.Instance.{Instance}
use Rattle.tiger_base.specs.declared.number.DiskNo.{DiskNo}
use Rattle.tiger_base.specs.declared.tenancy.Ask.{Ask}
use Rattle.instance_marks.specs.Marks.{AreMarked}

-- the starts that wait for a free visit, and those that wait for the predecessor's death, the
-- oldest first
pub record Queues : Type 0 where
  pub waiting : List Ask
  pub redundant : List Ask

abbrev pub is_of : Instance → Ask → Bool
is_of v a = a.instance.0 == v.0

-- whether a start of the instance stands in a list
abbrev pub has_start : List Ask → Instance → Bool
has_start asks v = list_any (is_of v) asks

-- whether it stands in one of the two
abbrev pub is_asked : Queues → Instance → Bool
is_asked q v = has_start q.waiting v || has_start q.redundant v

-- the queues with a further start that waits, unless its instance stands in them already
abbrev pub with_waiting : Queues → Ask → Queues
with_waiting q a =
    if is_asked q a.instance then q else record q { waiting = q.waiting ++ a ∷ [] }

-- the same with a further redundant one
abbrev pub with_redundant : Queues → Ask → Queues
with_redundant q a =
    if is_asked q a.instance then q else record q { redundant = q.redundant ++ a ∷ [] }

-- a list with no start of the instance
abbrev pub without : List Ask → Instance → List Ask
without asks v = filter (λ a. not (is_of v a)) asks

-- the queues with no start of the instance
abbrev pub without_start : Queues → Instance → Queues
without_start q v = record { waiting = without q.waiting v; redundant = without q.redundant v }

-- the queues once the redundant starts wait, behind the others
abbrev pub after_take_over : Queues → Queues
after_take_over q = record { waiting = q.waiting ++ q.redundant; redundant = [] }

-- at most one start of an instance stands in a list
abbrev pub IsOnce : List Ask → Type 0
IsOnce [] = Unit {0}
IsOnce (a ∷ rest) = (has_start rest a.instance ≡ false) × IsOnce rest

-- the oldest start that waits for a disk
abbrev pub oldest_for : List Ask → DiskNo → Option Ask
oldest_for asks disk = find (λ a. a.disk.0 == disk.0) asks

abbrev pub is_disk : DiskNo → DiskNo → Bool
is_disk disk d = d.0 == disk.0

-- whether a disk stands in a list
abbrev pub has_disk : List DiskNo → DiskNo → Bool
has_disk disks disk = list_any (is_disk disk) disks

-- each disk of a list stands in another one
abbrev pub AllStay : List DiskNo → List DiskNo → Type 0
AllStay old new = (disk : DiskNo) → has_disk old disk ≡ true → has_disk new disk ≡ true

-- each start is for one of the disks
abbrev pub AreFor : List DiskNo → List Ask → Type 0
AreFor disks asks = AllByRecursion (λ a. has_disk disks a.disk ≡ true) asks

-- an instance has at most one start in both lists together, those that wait are for some of the
-- disks, and marks tell which instances have a start
pub record AreKept (disks : List DiskNo) (marks : List Bool) (waiting redundant : List Ask) : Type 0 where
  pub once : IsOnce (waiting ++ redundant)
  pub all_for : AreFor disks waiting
  pub marked : AreMarked marks (λ v. has_start waiting v || has_start redundant v)
