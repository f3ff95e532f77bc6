use Rattle.run_report.proofs.Hashing.{start-digest}
use Rattle.run_report.proofs.digest.Fronts.digest_of.Goals as goal

pub returns-clause-digest : goal.returns-clause-digest
returns-clause-digest c =
    start-digest c.reach_all.new.self c.args.self.now.library c.args.outcome.now _
    c.in_ok-reach_all.ensures.library c.in_ok-reach_all.ensures.spans c.digest.ensures.digest
