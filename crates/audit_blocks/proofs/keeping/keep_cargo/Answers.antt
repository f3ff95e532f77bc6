use Rattle.std.proofs.lemmas.Result.{on_ok_weaker}
use Rattle.audit_blocks.proofs.Carried.{cargo_kept, cargo_left}
use Rattle.audit_blocks.proofs.keeping.keep_cargo.Goals as goal

pub returns : goal.returns
returns c = on_ok_weaker c.add.result (λ added k w r.
    cargo_kept c.args.node.0 c.args.beat k w r c.args.cargo.now c.is_in_beat.result _ _ c.is_in_beat.ensures c.if-not-is_in_beat.false
    (added k w r)) c.add.ensures

pub returns-then-not-is_in_beat : goal.returns-then-not-is_in_beat
returns-then-not-is_in_beat c = λ k w r.
    cargo_left c.args.node.0 c.args.beat k w r c.args.cargo.now c.is_in_beat.result _ c.is_in_beat.ensures c.if-not-is_in_beat.true
