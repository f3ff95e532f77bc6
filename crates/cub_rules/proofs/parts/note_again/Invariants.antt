use Rattle.std.proofs.Common.{◌≡◌, length}
use Rattle.cub_rules.proofs.Noted.{AreNotedTo}
use Rattle.cub_rules.proofs.parts.note_again.Given as goal

abbrev pub invariant-loop-i : goal.invariant-loop-i
invariant-loop-i l = record {
  long : length l.marks.items ≡ length l.fn.marks.items;
  noted : AreNotedTo l.marks.items l.items l.i;
}
