-- What cubs believe of one another, and what they report of reads, is true.
use Rattle.std.specs.Prelude.{◌≡◌, ℕ, ◌+◌, ◌<◌, ◌≤◌, true, List}
use Rattle.tiger_base.specs.declared.tenancy.Want.{Want}
use Rattle.tiger_base.specs.declared.message.Note.TheVariants as note
use Rattle.slot_plan.specs.declared.params.Params.{Params}
use Rattle.slot_plan.specs.Times.{disk_of, disk_count}
use Rattle.mirror_pieces.specs.Pieces.{piece_disk}
use Rattle.node_kit.specs.declared.course.ReadFault.{ReadFault}
use Rattle.node_kit.specs.declared.journal.What.{What}
use Rattle.node_kit.specs.declared.journal.What.TheVariants as what
use Rattle.node_kit.specs.declared.journal.Entry.{Entry}
use Rattle.run_facts.specs.Order.{Noted}
use Rattle.run_model.specs.Fronts.{AnyByRecursion}
use Rattle.run_model.specs.Moments.{Moment, HoldsAtEach}

-- a cub that an entry says is believed dead died before it
abbrev pub IsTrueBelief : Moment → What → Type 0
IsTrueBelief m (what.Believed cub) = m.dead cub.0 ≡ true
IsTrueBelief m other = Unit {0}

abbrev pub BeliefsAreTrue : List Noted → Type 0
BeliefsAreTrue log = HoldsAtEach (λ m x. IsTrueBelief m x.entry.what) log

-- a read fault is of a disk and lasts in a beat
abbrev pub Lasts : ℕ → ℕ → ReadFault → Type 0
Lasts disk beat fault = (fault.disk.0 ≡ disk) × (fault.from ≤ beat) × (beat < fault.until)

-- the disk that has what is wanted: for a whole block the disk of its visit, for a piece the disk of that piece's mirror
abbrev pub disk_with : Params → Want → ℕ
disk_with p want = piece_disk (disk_of p want.visit) want.piece (disk_count p)

-- an entry of a disk gets the ask for exactly this
abbrev pub GetsAsk : Want → What → Type 0
GetsAsk want (what.Got link (note.ReadAsk w)) = w ≡ want
GetsAsk want other = ⊥

-- an entry of a disk gets the ask, in a beat in which one of the disk's read faults lasts
abbrev pub FailsIn : List ReadFault → ℕ → Want → Entry → Type 0
FailsIn faults disk want e = GetsAsk want e.what × AnyByRecursion (Lasts disk e.stamp.beat) faults

-- if an entry says that a read failed, the disk that has what was wanted got the ask before, in such a beat
abbrev pub IsTrueFailure : Params → List ReadFault → Moment → What → Type 0
IsTrueFailure p faults m (what.ReadFailed want) =
    AnyByRecursion (FailsIn faults (disk_with p want) want) (m.journal (p.cubs + disk_with p want))
IsTrueFailure p faults m other = Unit {0}

abbrev pub FailuresAreTrue : Params → List ReadFault → List Noted → Type 0
FailuresAreTrue p faults log = HoldsAtEach (λ m x. IsTrueFailure p faults m x.entry.what) log
