use Rattle.audit_frame.proofs.Tabled.{ask_added}
use Rattle.audit_frame.proofs.tables.Asks.add.Goals as goal

pub returns : goal.returns
returns c = λ a. ask_added c.args.ask.now a _ _ _ c.self.view_is
    (c.in_ok-insert.ensures.updates.0 ((a.instance.0, a.file.0), (a.count, a.disk.0)))
