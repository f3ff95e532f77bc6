use Rattle.std.proofs.lemmas.Result.{on_ok_weaker}
use Rattle.audit_blocks.proofs.Carried.{cargo_said, none_said}
use Rattle.audit_blocks.proofs.keeping.keep_sent.Goals as goal

pub returns-in-Some : goal.returns-in-Some
returns-in-Some c = on_ok_weaker c.keep_cargo.result (λ kept k w r.
    cargo_said c.args.line.now.node.0 c.args.line.now.entry.now.stamp.beat k w r c.in-Some.cargo c.cargo_sent.result _ _ _ c.cargo_sent.ensures
    c.in-Some.is (kept k w r)) c.keep_cargo.ensures

pub returns-in-None : goal.returns-in-None
returns-in-None c = λ k w r.
    none_said c.args.line.now.node.0 c.args.line.now.entry.now.stamp.beat k w r c.cargo_sent.result _ _ c.cargo_sent.ensures c.in-None.is
