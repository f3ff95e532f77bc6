use Rattle.std.proofs.Common.{◌++◌, codes, length, string_bytes, ap}
use Rattle.std.specs.Fmt.{decimal}
use Rattle.file_disk.specs.Extents.{total_len}
use Rattle.stored_disks.proofs.PushedTexts.{four_pushed}
use Rattle.stored_disks.proofs.lines.push_disk.Goals as goal

pub returns : goal.returns
returns c =
    four_pushed c.push_str.result (string_bytes c.args.text.now) (string_bytes c.push_number.new.text) (string_bytes c.push_number-2.new.text) (string_bytes c.push_number-3.new.text) (string_bytes c.push_str.new.self)
    (codes "disk " ++ decimal c.args.disk.0) (codes " parts " ++ decimal (length c.args.dir.now)) (codes " bytes " ++ decimal (total_len c.args.dir.now)) (codes "\n")
    c.in_ok-push_number.ensures (rw (ap length c.extents.ensures) at c.in_ok-push_number-2.ensures) (rw c.bytes.ensures at c.in_ok-push_number-3.ensures) c.push_str.ensures.bytes
