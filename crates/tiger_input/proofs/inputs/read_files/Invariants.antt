use Rattle.std.proofs.Common.{◌≡◌, ◌+◌, length, sum_by}
use Rattle.tiger_base.specs.Library.{contents}
use Rattle.outside.specs.Told.{NeverFell}
use Rattle.tiger_input.specs.Inputs.{AreRead, names_of, most_files}
use Rattle.tiger_input.proofs.inputs.read_files.Given as goal

abbrev pub invariant-loop-line : goal.invariant-loop-line
invariant-loop-line g l =
    let state = g.F.Files.state in
    record {
      count : length (contents l.read.items) ≡ l.line-index;
      same : (state l.files).told ≡ (state l.fn.files).told;
      never_fell : NeverFell (state l.fn.files).counts (state l.files).counts;
      calls : (state l.files).counts.calls ≡ (state l.fn.files).counts.calls + l.line-index;
      read : AreRead (state l.fn.files).told (names_of l.lines) (contents l.read.items);
      left : l.left + sum_by length (contents l.read.items) ≡ most_files;
    }
