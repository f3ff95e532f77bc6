use Rattle.node_kit.specs.declared.journal.What.TheVariants as what
use Rattle.run_model.proofs.Walking.{walks_by, walks_other}
use Rattle.run_model.proofs.slots.Walk.entry.Goals as goal

pub returns-in_ok-put-in-Put : goal.returns-in_ok-put-in-Put
returns-in_ok-put-in-Put c n =
    walks_by c.args.self.now _ n c.args.e.now (what.Put c.in-Put.t) c.in-Put.is c.if-self-eq0.false c.put.ensures.left c.in_ok-put-in-Put.ensures.shows

pub returns-in_ok-stop-in-Gone : goal.returns-in_ok-stop-in-Gone
returns-in_ok-stop-in-Gone c n =
    walks_by c.args.self.now _ n c.args.e.now (what.Gone c.in-Gone.v) c.in-Gone.is c.if-self-eq0.false c.stop.ensures.left c.in_ok-stop-in-Gone.ensures.shows

pub returns-in_default : goal.returns-in_default
returns-in_default c n = walks_other c.args.self.now n c.args.e.now c.in_default.not-Put c.in_default.not-Gone c.if-self-eq0.false
