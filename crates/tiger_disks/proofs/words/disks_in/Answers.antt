use Rattle.tiger_input.specs.Words.{texts_of}
use Rattle.tiger_disks.proofs.Asked.{no_disks}
use Rattle.tiger_disks.proofs.words.disks_in.Goals as goal

pub returns-in-None-forced_in : goal.returns-in-None-forced_in
returns-in-None-forced_in c = no_disks (texts_of c.args.words.now) c.in-None.ensures c.in-None-forced_in.ensures
