use Rattle.std.proofs.Common.{not, rules, tests}
use Rattle.std.proofs.lemmas.Fn.{filter_same}
use Rattle.net_schedule.specs.declared.ring.Entry.{Entry}
use Rattle.net_schedule.specs.Cubs.{is_for}
use Rattle.net_schedule.proofs.entries.drop_kept.Goals as goal

pub returns : goal.returns
returns c = filter_same _ (λ (e : Entry). not (is_for c.args.v e)) _ (λ x b q h. search (rules, tests)) _ _ c.retain.ensures.filtered
