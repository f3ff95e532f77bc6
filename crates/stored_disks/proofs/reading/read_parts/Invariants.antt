use Rattle.std.proofs.Common.{◌≡◌, take}
use Rattle.stored_disks.specs.Reading.{ArePartsRead}
use Rattle.stored_disks.proofs.reading.read_parts.Given as goal

-- the parts of the numbers so far were read
abbrev pub invariant-loop-number : goal.invariant-loop-number
invariant-loop-number g l = record {
  read : ArePartsRead (g.V.Device.state l.fn.dev) (g.V.Device.state l.dev) (take l.number l.dir);
  names : (g.V.Device.state l.dev).names ≡ (g.V.Device.state l.fn.dev).names;
  refusals : (g.V.Device.state l.dev).refusals ≡ (g.V.Device.state l.fn.dev).refusals;
}
