use Rattle.std.proofs.Common.{◌≡◌, ◌*◌, vec_len}
use Rattle.tiger_base.specs.Library.{contents}
use Rattle.scenario_make.specs.Draws.{after}
use Rattle.scenario_make.specs.Files.{lines_by, contents_by}
use Rattle.scenario_make.proofs.files.files.Given as goal

abbrev pub invariant-loop-file : goal.invariant-loop-file
invariant-loop-file l = record {
  count : vec_len l.contents ≡ l.file;
  lines : l.lines.items ≡ lines_by l.fn.generator l.file;
  contents : contents l.contents.items ≡ contents_by l.fn.generator l.file;
  generator : l.generator ≡ after (3 * l.file) l.fn.generator;
}
