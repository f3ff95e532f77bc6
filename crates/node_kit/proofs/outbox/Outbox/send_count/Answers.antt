use Rattle.node_kit.proofs.Cutting.{sends-seen}
use Rattle.node_kit.proofs.outbox.Outbox.send_count.Goals as goal

pub returns : goal.returns
returns g c = sends-seen c.self.inside.outs.items c.args.self.now c.self.inside.died c.count_sends.result c.self.view_is
    c.count_sends.ensures
