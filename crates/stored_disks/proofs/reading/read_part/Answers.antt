use Rattle.stored_disks.proofs.ReadParts.{part-cause, fetch-refuses, fetch-opens-none}
use Rattle.stored_disks.proofs.reading.read_part.Goals as goal

pub returns-in-Ok-clause-read : goal.returns-in-Ok-clause-read
returns-in-Ok-clause-read g c =
    let given = c.in-Ok.ensures.given in
    record { bytes = c.in-Ok._bytes.items; read = given.0; has = given.1 }

pub returns-in-Err-clause-cause : goal.returns-in-Err-clause-cause
returns-in-Err-clause-cause g c =
    let state = g.V.Device.state in
    rw c.fault_of.ensures (part-cause c.args.disk c.args.extent (state c.args.dev.now) (state c.fetch_stored.new.dev) c.in-Err.error c.in-Err.ensures.cause)

pub returns-in-Err-clause-refusals : goal.returns-in-Err-clause-refusals
returns-in-Err-clause-refusals g c =
    let state = g.V.Device.state in
    fetch-refuses c.args.extent (state c.args.dev.now) (state c.fetch_stored.new.dev) c.in-Err.error c.in-Err.ensures.cause

pub returns-in-Err-clause-names : goal.returns-in-Err-clause-names
returns-in-Err-clause-names g c =
    let state = g.V.Device.state in
    fetch-opens-none c.args.extent (state c.args.dev.now) (state c.fetch_stored.new.dev) c.in-Err.error c.in-Err.ensures.cause
