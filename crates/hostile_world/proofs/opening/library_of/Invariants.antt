use Rattle.std.proofs.Common.{◌≡◌, ◌≤◌, length, All}
use Rattle.tiger_base.specs.Library.{contents}
use Rattle.hostile_world.proofs.opening.library_of.Given as goal

abbrev pub invariant-loop-file : goal.invariant-loop-file
invariant-loop-file l = record {
  count : length (contents l.files.items) ≡ l._file;
  filled : All (λ bytes. 1 ≤ length bytes) (contents l.files.items);
}
