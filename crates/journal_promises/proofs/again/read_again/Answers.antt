use Rattle.journal_promises.proofs.Answering.{read_same, read_whole}
use Rattle.journal_promises.proofs.again.read_again.Goals as goal

pub returns-clause-same : goal.returns-clause-same
returns-clause-same c =
    read_same c.args.kept.now c.args.bytes.now c.read_kept.result c.requires.writable c.requires.text c.read_kept.ensures.writable c.read_kept.ensures.exact

pub returns-clause-cause : goal.returns-clause-cause
returns-clause-cause c =
    read_whole c.args.kept.now c.args.bytes.now c.read_kept.result c.requires.writable c.requires.text c.read_kept.ensures.cause
