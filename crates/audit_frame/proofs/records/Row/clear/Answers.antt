use Rattle.std.proofs.Common.{rules, tests, not, ◌==◌}
use Rattle.std.proofs.lemmas.Fn.{filter_same}
use Rattle.audit_frame.specs.declared.records.Held.{Held}
use Rattle.audit_frame.proofs.Kept.{cub_cleared}
use Rattle.audit_frame.proofs.records.Row.clear.Goals as goal

pub returns : goal.returns
returns c = λ w n q. cub_cleared w c.args.cub.0 n q _ _ _ c.self.view_is
    (filter_same _ (λ (h : Held). not (c.args.cub.0 == h.cub)) _ (λ x b f h. search (rules, tests)) _ _ c.retain.ensures.filtered)
