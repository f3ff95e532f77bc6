use Rattle.std.proofs.Common.{◌≡◌, Some}
use Rattle.std.specs.Prelude.{slice_get, vec_len}
use Rattle.std.proofs.lemmas.Option.{slice_get_read}
use Rattle.std.proofs.lemmas.Result.{on_ok_weaker}
use Rattle.run_report.proofs.Rowed.{kept-row}
use Rattle.run_report.proofs.firsts.keep_at.Goals as goal

pub returns : goal.returns
returns c =
    let here : slice_get c.args.rows.now.items c.args.place ≡ Some c.index_mut-row.result.now =
    slice_get_read _ (vec_len c.args.rows.now) _ _ c.args.rows.now.ok.0 c.requires c.index_mut-row.ensures.value in
    on_ok_weaker c.keep.result (λ kept. kept-row _ _ _ _ _ _ here kept) c.keep.ensures
