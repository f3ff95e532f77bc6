use Rattle.std.proofs.Math.Nat.{add-mod}
use Rattle.stripe_layout.proofs.place.disk_after.Goals as goal

pub returns : goal.returns
returns c = let e = add-mod c.args.first.0 c.args.block c.args.disks in cc
