use Rattle.std.proofs.Common.{◌≡◌, ℕ, ◌+◌, ◌<◌, length, get_or}
use Rattle.file_disk.specs.Devices.{byte_at}
use Rattle.file_disk.proofs.mem_device.fill_past.Given as goal

-- the bytes so far are given
abbrev pub invariant-loop-i : goal.invariant-loop-i
invariant-loop-i l = record {
  room : length l.into ≡ length l.fn.into;
  given : (k : ℕ) → k < l.i → byte_at l.told (l.at + k) ≡ get_or l.into k 0;
}
