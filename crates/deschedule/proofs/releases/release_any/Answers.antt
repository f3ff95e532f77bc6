use Rattle.std.proofs.Common.{rules, tests}
use Rattle.std.proofs.lemmas.Fn.{filter_same}
use Rattle.deschedule.specs.Holds.{is_kept}
use Rattle.deschedule.proofs.releases.release_any.Goals as goal

pub returns : goal.returns
returns c = filter_same _ (is_kept c.args.reading) _ (λ x b q h. search (rules, tests)) _ _ c.retain.ensures.filtered
