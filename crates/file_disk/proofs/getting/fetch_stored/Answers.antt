use Rattle.file_disk.proofs.Fetched.{checked-given, checked-cause}
use Rattle.file_disk.proofs.getting.fetch_stored.Goals as goal

pub returns-in-Ok-clause-given : goal.returns-in-Ok-clause-given
returns-in-Ok-clause-given g c =
    let state = g.V.Device.state in
    checked-given c.args.extent (state c.args.dev.now) (state c.read.new.dev) c.in-Ok.bytes.items c.compared.result
    c.in-Ok.ensures.read c.in-Ok.ensures.len c.compared.ensures.same c.compared.ensures.kept

pub returns-in-Ok-clause-cause : goal.returns-in-Ok-clause-cause
returns-in-Ok-clause-cause g c =
    let state = g.V.Device.state in
    checked-cause c.args.extent (state c.args.dev.now) (state c.read.new.dev) c.in-Ok.bytes.items c.compared.result
    c.in-Ok.ensures.read c.in-Ok.ensures.len c.compared.ensures.other
