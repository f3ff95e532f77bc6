use Rattle.audit_blocks.proofs.Sharing.{no_visits, put_parted}
use Rattle.audit_blocks.proofs.shares.shares_of_put.Goals as goal

pub returns-then-behind-t : goal.returns-then-behind-t
returns-then-behind-t c =
    no_visits c.args.k.now c.args.t.now c.in_ok-behind.behind c.of_nothing.result c.in_ok-behind.ensures c.if-behind-t.true c.of_nothing.ensures

pub returns : goal.returns
returns c =
    c.shares_between.ensures
    (put_parted c.args.k.now c.args.t.now c.in_ok-behind.behind c.first_past-asked.result c.first_past-settled.result c.in_ok-behind.ensures
    c.first_past-asked.ensures.low c.first_past-asked.ensures.high c.first_past-settled.ensures.high
    c.first_past-settled.ensures.before c.first_past-settled.ensures.behind
    c.first_past-asked.ensures.before c.first_past-asked.ensures.behind)
