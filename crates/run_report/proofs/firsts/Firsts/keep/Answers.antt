use Rattle.std.proofs.Common.{ap, ◌∙◌}
use Rattle.std.proofs.lemmas.Result.{on_ok_weaker}
use Rattle.run_report.specs.Tables.{Beats, row_of, key_at}
use Rattle.run_report.proofs.Rowed.{kept-key}
use Rattle.run_report.proofs.firsts.Firsts.keep.Goals as goal

pub returns : goal.returns
returns c = on_ok_weaker c.keep_at.result (λ kept v visit k. kept-key c.args.key (key_at v visit k) c.args.beat _ _ _ (λ n. c.in_ok-reach.ensures.same n ∙ ap (λ (rows : Beats). row_of rows n) c.self.view_is) kept) c.keep_at.ensures
