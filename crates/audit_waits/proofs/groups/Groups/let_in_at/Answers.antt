use Rattle.std.proofs.Common.{not, ap, sym, ◌∙◌}
use Rattle.std.proofs.lemmas.Result.{on_ok_weaker}
use Rattle.audit_waits.proofs.Grouped.{here_let_in, not_let_in}
use Rattle.audit_waits.proofs.groups.Groups.let_in_at.Goals as goal

pub returns-then-not-is_cub_for : goal.returns-then-not-is_cub_for
returns-then-not-is_cub_for c = λ d n. not_let_in c.args.v.0 d n c.args.disk.0 _ _ (ap not (sym c.is_cub_for.ensures ∙ c.if-not-is_cub_for.true))

pub returns : goal.returns
returns c = on_ok_weaker c.add.result (λ added d n.
    here_let_in c.args.v.0 d n c.args.disk.0 _ _ _ (ap not (sym c.is_cub_for.ensures ∙ c.if-not-is_cub_for.false)) (added d n)) c.add.ensures
