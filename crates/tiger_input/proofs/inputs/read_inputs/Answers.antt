use Rattle.std.proofs.lemmas.Result.{err_from_is_err_and}
use Rattle.std.proofs.Common.{inl}
use Rattle.scenario_read.specs.Meaning.{said_by}
use Rattle.tiger_input.proofs.Readings.{InputsCause-library}
use Rattle.tiger_input.proofs.inputs.read_inputs.Goals as goal

pub returns-in-Err-Fault-clause-cause : goal.returns-in-Err-Fault-clause-cause
returns-in-Err-Fault-clause-cause g c =
    let means = rw (c.as_slice.ensures.value, c.in-Err-Fault.field-0-is) at c.in-Err-Fault.ensures.gives in
    rw c.in-Err-Fault.field-0-is (inl (c.read_one.ensures.counted, record { bytes = c.in_ok-bytes.bytes.items; read = (c.in_ok-bytes.ensures.read, c.in_ok-bytes.ensures.limit); means = means }))

pub returns-in_err-library-clause-cause : goal.returns-in_err-library-clause-cause
returns-in_err-library-clause-cause g c =
    let p = err_from_is_err_and c.from_residual-in_err-library.result c.from_residual-in_err-library.ensures.1 in
    let state = g.F.Files.state in
    let means = rw c.as_slice.ensures.value at c.in-Ok.ensures.gives in
    rw (p.1, p.2) (InputsCause-library c.in_err-library.field-0.0 c.args.name.now c.in_ok-bytes.bytes.items (said_by c.in-Ok.scenario) (state c.args.files.now) (state c.read_one.new.files) (state c.read_library.new.files)
    c.read_one.ensures.same (c.in_ok-bytes.ensures.read, c.in_ok-bytes.ensures.limit) means c.read_one.ensures.counted c.read_one.ensures.never_fell.faults c.read_one.ensures.never_fell.absences c.in_err-library.ensures.cause)

pub returns-clause-read : goal.returns-clause-read
returns-clause-read g c =
    let means = rw c.as_slice.ensures.value at c.in-Ok.ensures.gives in
    let files = rw c.read_one.ensures.same at c.in_ok-library.ensures.read in
    record { bytes = c.in_ok-bytes.bytes.items; read = (c.in_ok-bytes.ensures.read, c.in_ok-bytes.ensures.limit); means = means; files = files; filled = c.in_ok-library.ensures.full }
