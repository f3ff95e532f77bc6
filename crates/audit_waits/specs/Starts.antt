-- Which starts wait at a cub, in the claim's words, and what a walk keeps for that.
use Rattle.std.specs.Prelude.{◌≡◌, ℕ, ◌+◌, ◌%◌, Bool, true, false, not, ◌&&◌, ◌||◌, ◌==◌, List, IsTrue, get_or, ◌↔◌}
use Rattle.std.specs.List.{list_any}
use Rattle.tiger_base.specs.declared.message.Note.{Note}
use Rattle.tiger_base.specs.declared.message.Note.TheVariants as note
use Rattle.tiger_base.specs.declared.tenancy.Ask.{Ask}
use Rattle.slot_plan.specs.declared.params.Params.{Params}
use Rattle.node_kit.specs.declared.journal.Entry.{Entry}
use Rattle.node_kit.specs.declared.journal.What.{What}
use Rattle.node_kit.specs.declared.journal.What.TheVariants as what
use Rattle.node_kit.specs.declared.course.Order.{Order}
use Rattle.node_kit.specs.declared.course.OrderKind.{OrderKind}
use Rattle.node_kit.specs.declared.course.OrderKind.TheVariants as kind
use Rattle.run_model.specs.Fronts.{AnyByRecursion}
use Rattle.run_model.specs.Schedule.{is_stopped}
use Rattle.run_model.specs.Moments.{Moment}
use Rattle.run_model.specs.Orders.{IsOrdered, IsStartOf}
use Rattle.audit_frame.specs.Tables.{has_number, has_pair}
use Rattle.audit_waits.specs.declared.starts.Starts.{Starts}

-- ---- which starts wait

-- a start of an instance was ordered whose file begins on a disk
abbrev pub IsOrderedOn : List Order → ℕ → ℕ → Type 0
IsOrderedOn orders v disk = (ask : Ask) × IsOrdered orders ask × (ask.instance.0 ≡ v) × (ask.disk.0 ≡ disk)

-- the cub that may put a start of a disk: the disk's own cub the plain one, and the next cub the redundant one
abbrev pub cub_for : Params → Bool → ℕ → ℕ
cub_for p false disk = disk % p.cubs
cub_for p true disk = (disk + 1) % p.cubs

-- the start of an instance waits for a disk: it was ordered there, the cub got it, and it was neither put nor stopped
pub record WaitsFor (p : Params) (orders : List Order) (m : Moment) (redundant : Bool) (disk v : ℕ) : Type 0 where
  pub ordered : IsOrderedOn orders v disk
  pub got : AnyByRecursion (λ e. IsStartOf v redundant e.what) (m.journal (cub_for p redundant disk))
  pub put : m.put v ≡ false
  pub stopped : is_stopped v m.schedule.stops ≡ false

-- ---- the same as tests

-- whether an order begins a start of an instance whose file begins on a disk
abbrev pub begins_on : ℕ → ℕ → OrderKind → Bool
begins_on v disk (kind.Begin ask) = (ask.instance.0 == v) && (ask.disk.0 == disk)
begins_on v disk (kind.Finish i) = false

abbrev pub same_way : Bool → Bool → Bool
same_way true redundant = redundant
same_way false redundant = not redundant

-- whether an entry says that a start of an instance was got, the redundant one or the plain one
abbrev pub is_start_of : ℕ → Bool → What → Bool
is_start_of v redundant (what.Got link (note.Start how ask)) = (ask.instance.0 == v) && same_way how redundant
is_start_of v redundant other = false

abbrev pub was_got : ℕ → Bool → List Entry → Bool
was_got v redundant journal = list_any (λ e. is_start_of v redundant e.what) journal

-- whether an entry puts or stops an instance, and whether one did so
abbrev pub ends_wait : ℕ → What → Bool
ends_wait v (what.Put t) = t.instance.0 == v
ends_wait v (what.Gone i) = i.0 == v
ends_wait v other = false

abbrev pub is_over : Moment → ℕ → Bool
is_over m v = m.put v || is_stopped v m.schedule.stops

-- ---- what is kept

-- a table has the disks of the starts that were ordered, in the group of each instance
abbrev pub AreDisksOf : List (ℕ × ℕ) → List Order → Type 0
AreDisksOf disks orders = (v disk : ℕ) → IsTrue (has_pair v disk disks) ↔ IsOrderedOn orders v disk

-- whether an order begins a start on a disk
abbrev pub begins_at : ℕ → OrderKind → Bool
begins_at disk (kind.Begin ask) = ask.disk.0 == disk
begins_at disk (kind.Finish i) = false

-- a row marks each disk on which an order begins a start; a disk for which it has no place counts as marked
abbrev pub AreAsked : List Bool → List Order → Type 0
AreAsked asked orders = (disk : ℕ) → IsTrue (list_any (λ o. begins_at disk o.what) orders) → IsTrue (get_or asked disk true)

-- whether the start of an instance waits for a disk, if the table has the disks of those that were ordered
abbrev pub waits_for : Params → List (ℕ × ℕ) → Moment → Bool → ℕ → ℕ → Bool
waits_for p disks m redundant disk v =
    has_pair v disk disks && (was_got v redundant (m.journal (cub_for p redundant disk)) && not (is_over m v))

-- the table of the plain starts that wait, and that of the redundant ones: in the group of each disk the instances
abbrev pub waiting_in : Bool → Starts → List (ℕ × ℕ)
waiting_in false s = s.plain
waiting_in true s = s.spare

-- starts wait for disks alone for which they were ordered
abbrev pub AreOrdered : Starts → Type 0
AreOrdered s = (redundant : Bool) (disk v : ℕ) → IsTrue (has_pair disk v (waiting_in redundant s)) → IsTrue (has_pair v disk s.disks)

-- tables tell who was put or stopped, and which starts wait
pub record TellsStarts (p : Params) (s : Starts) (m : Moment) : Type 0 where
  pub over : (v : ℕ) → has_number v s.over ≡ is_over m v
  pub waiting : (redundant : Bool) (disk v : ℕ)
      → has_pair disk v (waiting_in redundant s) ≡ waits_for p s.disks m redundant disk v

-- ---- what an entry changes

-- whether a start of an instance that a node gets, the redundant one or the plain one, waits there for a disk
abbrev pub start_lets_in : Params → Starts → Bool → ℕ → ℕ → Bool → ℕ → ℕ → Bool
start_lets_in p s how node i redundant disk v =
    ((i == v) && (has_pair v disk s.disks && (node == cub_for p redundant disk))) && (same_way how redundant && not (has_number v s.over))

-- whether a note that a node gets is a start that waits there for a disk
abbrev pub note_lets_in : Params → Starts → ℕ → Note → Bool → ℕ → ℕ → Bool
note_lets_in p s node (note.Start how ask) redundant disk v = start_lets_in p s how node ask.instance.0 redundant disk v
note_lets_in p s node other redundant disk v = false

-- what a node gets waits besides those that waited: the start of an instance, or whatever a note is
abbrev pub HasLetIn : Params → Bool → ℕ → ℕ → Starts → Starts → Type 0
HasLetIn p how node i old new = (redundant : Bool) (disk v : ℕ)
    → has_pair disk v (waiting_in redundant new)
    ≡ (has_pair disk v (waiting_in redundant old) || start_lets_in p old how node i redundant disk v)

abbrev pub HasTakenNote : Params → ℕ → Note → Starts → Starts → Type 0
HasTakenNote p node n old new = (redundant : Bool) (disk v : ℕ)
    → has_pair disk v (waiting_in redundant new)
    ≡ (has_pair disk v (waiting_in redundant old) || note_lets_in p old node n redundant disk v)

-- an instance is over, and no start of it waits
pub record HasEnded (v : ℕ) (old new : Starts) : Type 0 where
  pub over : (n : ℕ) → has_number n new.over ≡ (has_number n old.over || (v == n))
  pub waiting : (redundant : Bool) (disk n : ℕ)
      → has_pair disk n (waiting_in redundant new) ≡ (has_pair disk n (waiting_in redundant old) && not (v == n))
