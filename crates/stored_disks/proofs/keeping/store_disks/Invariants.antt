use Rattle.std.proofs.Common.{◌≡◌, string_bytes}
use Rattle.stored_disks.specs.Disks.{disks_of, start_of, disk_lines}
use Rattle.stored_disks.specs.Kept.{AreDisksKept}
use Rattle.stored_disks.proofs.keeping.store_disks.Given as goal

-- the disks so far are kept
abbrev pub invariant-loop-disk : goal.invariant-loop-disk
invariant-loop-disk g l =
    let disks = disks_of l.library l.cat l.pieces in
    record {
      place : l.at ≡ start_of disks l.disk;
      lines : string_bytes l.text ≡ disk_lines disks l.disk;
      kept : AreDisksKept disks l.disk (g.V.Device.state l.fn.dev) (g.V.Device.state l.dev);
    }
