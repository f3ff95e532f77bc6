-- The rule of a disk: it answers each read in the event that asks for it.
use Rattle.std.specs.Prelude.{ℕ, ◌==◌, ◌&&◌, nat_le, nat_lt, Bool, List, [], ◌∷◌, Option, None, if◌then◌else◌}
use Rattle.std.specs.List.{list_any}
use Rattle.tiger_base.specs.declared.number.Stamp.{Stamp}
use Rattle.tiger_base.specs.declared.tenancy.Want.{Want}
use Rattle.tiger_base.specs.Span.{LibraryPart}
use Rattle.tiger_base.specs.declared.message.Msg.{Msg}
use Rattle.tiger_base.specs.declared.message.Msg.TheVariants as msg
use Rattle.tiger_base.specs.Notes.{noted}
use Rattle.disk_image.specs.Image.{Image, block_part, piece_part}
use Rattle.node_kit.specs.declared.course.ReadFault.{ReadFault}
use Rattle.node_kit.specs.declared.outbox.Out.TheVariants as out
use Rattle.node_kit.specs.Form.{is_in_form}
use Rattle.node_kit.specs.Steps.{Deed, Input}
use Rattle.node_kit.specs.Steps.Input.{Take, Tick}
use Rattle.node_kit.specs.Ways.{way_from_disk}
use Rattle.node_kit.specs.Deeds.{nothing}
use Rattle.disk_core.specs.State.{DiskState}

-- whether a fault is of the disk, and the beat lies in it: it begins with beat from, and until is the first beat behind it
abbrev pub strikes : ℕ → ℕ → ReadFault → Bool
strikes disk beat fault = fault.disk.0 == disk && nat_le fault.from beat && nat_lt beat fault.until

-- whether the beat lies in a read fault of the disk
unfoldable pub is_faulty : List ReadFault → ℕ → ℕ → Bool
is_faulty faults disk beat = list_any (strikes disk beat) faults

-- what an image has of what is asked: the whole block for piece 0, else the piece
unfoldable pub part_for : Image → Want → Option LibraryPart
part_for m want = if want.piece == 0 then block_part m want.file want.block else piece_part m want.file want.block want.piece

-- what the disk gives for it in a beat: nothing in a read fault
unfoldable pub read_part : DiskState → ℕ → Want → Option LibraryPart
read_part s beat want = if is_faulty s.faults s.disk beat then None else part_for s.image want

abbrev pub answers : Stamp → Msg → DiskState → Deed Msg DiskState
answers stamp (msg.ReadAsk want) s =
    record { outs = out.Send (way_from_disk s.params s.disk) (msg.ReadDone want (read_part s stamp.beat want)) ∷ []; state = s }
answers stamp other s = nothing s

-- what a disk does with a message: it answers a read that is asked in form
unfoldable pub asked : Stamp → Msg → DiskState → Deed Msg DiskState
asked stamp m s = if is_in_form s.params (noted m) then answers stamp m s else nothing s

-- the step of a disk
abbrev pub disk_step : DiskState → Input Msg → Deed Msg DiskState
disk_step s (Take stamp link m) = asked stamp m s
disk_step s (Tick stamp) = nothing s
