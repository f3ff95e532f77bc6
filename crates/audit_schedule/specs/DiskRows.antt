-- The read faults of each disk, in a row of its own.
use Rattle.std.specs.Prelude.{◌≡◌, ℕ, List, [], ◌∷◌, ◌++◌, get_or}
use Rattle.std.specs.List.{list_any}
use Rattle.node_kit.specs.declared.course.ReadFault.{ReadFault}
use Rattle.audit_schedule.specs.Failures.{lasts_at}

-- the row of a disk tells in which beats some fault of the disk lasts
abbrev pub AreFaultRows : List (List ReadFault) → List ReadFault → Type 0
AreFaultRows rows faults =
    (disk beat : ℕ) → list_any (lasts_at disk beat) (get_or rows disk []) ≡ list_any (lasts_at disk beat) faults

-- the row at a place has one fault more, and the others are as they were
pub record HasTakenFault (place : ℕ) (fault : ReadFault) (old new : List (List ReadFault)) : Type 0 where
  pub here : get_or new place [] ≡ get_or old place [] ++ fault ∷ []
  pub beside : (k : ℕ) → (k ≡ place → ⊥) → get_or new k [] ≡ get_or old k []
