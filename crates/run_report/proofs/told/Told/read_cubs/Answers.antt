use Rattle.run_model.specs.Served.{journal_at}
use Rattle.run_report.specs.Tables.{deaths_in}
use Rattle.run_report.proofs.Ranges.{map_push}
use Rattle.run_report.proofs.told.Told.read_cubs.Goals as goal

pub loop-cub-preserved : goal.loop-cub-preserved
loop-cub-preserved c = (
  c.in_ok-read_node.ensures.told,
  map_push (λ n. deaths_in (journal_at c.args.journals.now n)) c.loop-cub.cub _ _ _ c.loop-cub.invariant.1 c.in_ok-push.ensures.ok
      c.in_ok-read_node.ensures.deaths,
)
