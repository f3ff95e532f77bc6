-- What a walk keeps of the asks that disks got: each that met a fault.
use Rattle.std.specs.Prelude.{◌↔◌, ℕ, ◌+◌, Bool, false, ◌&&◌, ◌==◌, nat_le, nat_lt, List, IsTrue}
use Rattle.std.specs.List.{list_any}
use Rattle.tiger_base.specs.declared.message.Note.{Note}
use Rattle.tiger_base.specs.declared.message.Note.TheVariants as note
use Rattle.tiger_base.specs.Records.{same_want}
use Rattle.tiger_base.specs.declared.tenancy.Want.{Want}
use Rattle.slot_plan.specs.declared.params.Params.{Params}
use Rattle.node_kit.specs.declared.course.ReadFault.{ReadFault}
use Rattle.node_kit.specs.declared.journal.What.{What}
use Rattle.node_kit.specs.declared.journal.What.TheVariants as what
use Rattle.run_model.specs.Fronts.{AnyByRecursion}
use Rattle.run_model.specs.Moments.{Moment}
use Rattle.run_claims.specs.Truths.{FailsIn, disk_with}
use Rattle.audit_frame.specs.Wanted.{WantNumbers, has_want}

-- whether a fault is of a disk and lasts in a beat
abbrev pub lasts_at : ℕ → ℕ → ReadFault → Bool
lasts_at disk beat f = (f.disk.0 == disk) && ((nat_le f.from beat) && (nat_lt beat f.until))

-- whether a node is the disk that has what is wanted, and one of its faults lasts in a beat
abbrev pub meets_fault : Params → List ReadFault → ℕ → ℕ → Want → Bool
meets_fault p faults n beat w = (n == p.cubs + disk_with p w) && list_any (lasts_at (disk_with p w) beat) faults

-- whether a node gets this ask so that it meets a fault, in terms of what is asked, of a note and of an entry
abbrev pub asks_in_fault : Params → List ReadFault → ℕ → ℕ → Want → Want → Bool
asks_in_fault p faults n beat asked w = same_want asked w && meets_fault p faults n beat asked

abbrev pub note_in_fault : Params → List ReadFault → ℕ → ℕ → Note → Want → Bool
note_in_fault p faults n beat (note.ReadAsk asked) w = asks_in_fault p faults n beat asked w
note_in_fault p faults n beat other w = false

abbrev pub got_in_fault : Params → List ReadFault → ℕ → ℕ → What → Want → Bool
got_in_fault p faults n beat (what.Got link k) w = note_in_fault p faults n beat k w
got_in_fault p faults n beat other w = false

-- a set has exactly the wants whose disk got the ask in a beat in which one of its faults lasts
abbrev pub TellsAsks : Params → List ReadFault → WantNumbers → Moment → Type 0
TellsAsks p faults wants m =
    (w : Want) → IsTrue (has_want w wants) ↔ AnyByRecursion (FailsIn faults (disk_with p w) w) (m.journal (p.cubs + disk_with p w))
