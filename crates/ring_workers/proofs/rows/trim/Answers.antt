use Rattle.std.proofs.Common.{◌∙◌, ap}
use Rattle.std.specs.Prelude.{slice_get}
use Rattle.node_kit.proofs.Rows.{get-below}
use Rattle.ring_workers.proofs.rows.trim.Goals as goal

pub returns : goal.returns
returns g c = record {
  count = c.used_rows-used.result;
  front = c.truncate.ensures.items;
  empty = λ q row low there. (let at = ap (λ xs. slice_get xs q) c.as_slice.ensures.value ∙ there in c.used_rows-used.ensures q row low (get-below c.as_slice.result.now q row at) at);
}
