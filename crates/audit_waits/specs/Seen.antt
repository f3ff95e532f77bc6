-- Up to which visit tenancies have the visits of a disk that are in the window.
use Rattle.std.specs.Prelude.{◌≡◌, ℕ, ◌+◌, ◌≤◌, Bool, true, not, List, Option, None, IsTrue, get_or, nat_le, if◌then◌else◌}
use Rattle.std.specs.Option.{ForSome}
use Rattle.slot_plan.specs.declared.params.Params.{Params}
use Rattle.slot_plan.specs.Keys.{Key, IsKey, due_of, is_behind}
use Rattle.slot_plan.specs.Windows.{IsOpen}
use Rattle.audit_waits.specs.Holders.{has_its_visit, holder_in}
use Rattle.audit_waits.specs.declared.holders.Holders.{Holders}
use Rattle.audit_waits.specs.declared.seen.Mark.{Mark}

-- each visit of the disk that is in the window and passes a test comes behind a given one, if one is given
abbrev pub IsSoughtBehind : Params → ℕ → ℕ → (Key → Bool) → Option Key → Type 0
IsSoughtBehind p reading disk test last = (k : Key) → IsOpen p reading disk test k → is_behind p last k ≡ true

-- the visit came into the window at the reading or before it
abbrev pub IsIn : Params → ℕ → Key → Type 0
IsIn p reading k = IsKey p k × (due_of p k ≤ reading + p.window_a)

-- whether no tenancy has the visit
abbrev pub is_nobodys : Holders → Key → Bool
is_nobodys h k = not (has_its_visit (holder_in h k.0.0) k.1)

-- from a reading on no visit of the disk in the window is nobody's before the mark's time, and each that is comes behind the mark's
-- last visit, which is in the window by then
pub record IsMark (p : Params) (h : Holders) (disk : ℕ) (m : Mark) : Type 0 where
  pub nobodys : (reading : ℕ) → m.from ≤ reading → (k : Key) → IsOpen p reading disk (is_nobodys h) k
      → (m.until ≤ reading) × (is_behind p m.last k ≡ true)
  pub entered : ForSome m.last (IsIn p m.from)

-- the last visit of a mark, if the mark says anything of a reading
abbrev pub mark_last : Mark → ℕ → Option Key
mark_last m reading = if nat_le m.from reading then m.last else None

-- what is known of a disk before any tick: nothing
abbrev pub nothing_seen : Mark
nothing_seen = record { from = 0; last = None; until = 0 }

-- each disk's mark is right; a disk without one has that of which nothing is known
abbrev pub AreMarks : Params → Holders → List Mark → Type 0
AreMarks p h marks = (disk : ℕ) → IsMark p h disk (get_or marks disk nothing_seen)

-- who had a visit in one table has it in another
abbrev pub KeepsVisits : Holders → Holders → Type 0
KeepsVisits old new = (k : Key) → IsTrue (has_its_visit (holder_in old k.0.0) k.1) → IsTrue (has_its_visit (holder_in new k.0.0) k.1)
