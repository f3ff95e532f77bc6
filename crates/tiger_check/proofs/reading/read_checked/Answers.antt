use Rattle.std.proofs.Common.{None, inl}
use Rattle.std.proofs.lemmas.Result.{err_from_is_err_and}
use Rattle.scenario_read.specs.Meaning.{said_by}
use Rattle.tiger_input.proofs.Readings.{InputsCause-library}
use Rattle.tiger_check.proofs.Causes.{one_refused, library_refused, scenario_refused}
use Rattle.tiger_check.proofs.reading.read_checked.Goals as goal

pub returns-in_err-bytes-clause-cause : goal.returns-in_err-bytes-clause-cause
returns-in_err-bytes-clause-cause g c =
    let p = err_from_is_err_and c.from_residual.result c.from_residual.ensures.1 in
    let state = g.F.Files.state in
    rw (p.1, p.2) (scenario_refused c.in_err-bytes.field-0.0 c.args.name.now (state c.args.files.now) (state c.read_one.new.files) c.read_one.ensures.counted c.in_err-bytes.ensures.cause)

pub returns-in_err-bytes-clause-kept : goal.returns-in_err-bytes-clause-kept
returns-in_err-bytes-clause-kept g c =
    let p = err_from_is_err_and c.from_residual.result c.from_residual.ensures.1 in
    let state = g.F.Files.state in
    rw (p.1, p.2) (one_refused c.in_err-bytes.field-0.0 None c.args.name.now _ (state c.args.files.now) (state c.read_one.new.files) c.in_err-bytes.ensures.cause)

pub returns-in-Err-Fault-clause-cause : goal.returns-in-Err-Fault-clause-cause
returns-in-Err-Fault-clause-cause g c =
    let means = rw (c.as_slice.ensures.value, c.in-Err-Fault.field-0-is) at c.in-Err-Fault.ensures.gives in
    rw (c.refusal_of.ensures.same, c.in-Err-Fault.field-0-is) (inl (c.read_one.ensures.counted, record { bytes = c.in_ok-bytes.bytes.items; read = (c.in_ok-bytes.ensures.read, c.in_ok-bytes.ensures.limit); means = means }))

pub returns-in-Err-Fault-clause-kept : goal.returns-in-Err-Fault-clause-kept
returns-in-Err-Fault-clause-kept g c =
    let told = (g.F.Files.state c.args.files.now).told c.args.name.now in
    let means = rw (c.as_slice.ensures.value, c.in-Err-Fault.field-0-is) at c.in-Err-Fault.ensures.gives in
    let kept = rw c.in-Err-Fault.field-0-is at c.refusal_of.ensures.kept in
    kept told (c.in_ok-bytes.ensures.read, c.in_ok-bytes.ensures.limit) means

pub returns-in_err-library-clause-kept : goal.returns-in_err-library-clause-kept
returns-in_err-library-clause-kept g c =
    let p = err_from_is_err_and c.from_residual-in_err-library.result c.from_residual-in_err-library.ensures.1 in
    let state = g.F.Files.state in
    rw (p.1, p.2) (library_refused c.in_err-library.field-0.0 c.in-Ok.scenario.files (state c.read_one.new.files) (state c.read_library.new.files) c.in_err-library.ensures.cause)

pub returns-in_err-library-clause-cause : goal.returns-in_err-library-clause-cause
returns-in_err-library-clause-cause g c =
    let p = err_from_is_err_and c.from_residual-in_err-library.result c.from_residual-in_err-library.ensures.1 in
    let state = g.F.Files.state in
    let means = rw c.as_slice.ensures.value at c.in-Ok.ensures.gives in
    rw (p.1, p.2) (InputsCause-library c.in_err-library.field-0.0 c.args.name.now c.in_ok-bytes.bytes.items (said_by c.in-Ok.scenario) (state c.args.files.now) (state c.read_one.new.files) (state c.read_library.new.files)
    c.read_one.ensures.same (c.in_ok-bytes.ensures.read, c.in_ok-bytes.ensures.limit) means c.read_one.ensures.counted c.read_one.ensures.never_fell.faults c.read_one.ensures.never_fell.absences c.in_err-library.ensures.cause)

pub returns-clause-read : goal.returns-clause-read
returns-clause-read g c =
    let means = rw c.as_slice.ensures.value at c.in-Ok.ensures.gives in
    let files = rw c.read_one.ensures.same at c.in_ok-library.ensures.read in
    record { bytes = c.in_ok-bytes.bytes.items; read = (c.in_ok-bytes.ensures.read, c.in_ok-bytes.ensures.limit); means = means; files = files; filled = c.in_ok-library.ensures.full }
