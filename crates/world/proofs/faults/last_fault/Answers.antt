use Rattle.std.proofs.lemmas.Option.{slice_get_read}
use Rattle.std.proofs.Common.{rules, refl, ◌≡◌, ◌<◌, Some, length, slice_get}
use Rattle.world.proofs.faults.last_fault.Goals as goal

pub returns-in-Get : goal.returns-in-Get
returns-in-Get g c =
    let inside : c.in-Get.link.0 < length c.args.channels.now = search rules in
    let there : slice_get c.args.channels.now c.in-Get.link.0 ≡ Some c.index-channels-link.result =
    slice_get_read _ _ _ _ refl inside c.index-channels-link.is in
    rw (c.first_of.ensures, c.take_fault.ensures, c.die_fault-beside.ensures)
    (rw c.last_receiver.ensures (rw c.in-Get.is (rw there refl)))
