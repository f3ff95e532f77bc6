use Rattle.std.proofs.Common.{string_bytes}
use Rattle.std.proofs.lemmas.Result.{err_from_is_err_and}
use Rattle.tiger_disks.proofs.Ending.{refused-input, refused-sink, refused-device, stopped-input, stopped-device, stopped-sink, stopped-untouched, done, unwritten-input, unwritten-device, unwritten-sink}
use Rattle.tiger_disks.proofs.disks.write_disks.Goals as goal

-- an input was refused
pub returns-in_err-inputs-clause-input : goal.returns-in_err-inputs-clause-input
returns-in_err-inputs-clause-input g c =
    let p = err_from_is_err_and c.from_residual.result c.from_residual.ensures.1 in
    let state = g.F.Files.state in
    rw (p.1, p.2) (refused-input c.in_err-inputs.field-0.0 c.args.name.now (state c.args.files.now) (state c.read_inputs.new.files) c.in_err-inputs.ensures.cause)

pub returns-in_err-inputs-clause-sink : goal.returns-in_err-inputs-clause-sink
returns-in_err-inputs-clause-sink g c =
    let p = err_from_is_err_and c.from_residual.result c.from_residual.ensures.1 in
    let state = g.F.Files.state in
    rw (p.1, p.2) (refused-sink c.in_err-inputs.field-0.0 c.args.name.now (state c.args.files.now) (state c.read_inputs.new.files) (g.K.Sink.state c.args.out.now) c.in_err-inputs.ensures.cause)

pub returns-in_err-inputs-clause-device : goal.returns-in_err-inputs-clause-device
returns-in_err-inputs-clause-device g c =
    let p = err_from_is_err_and c.from_residual.result c.from_residual.ensures.1 in
    let state = g.F.Files.state in
    let device = g.V.Device.state in
    rw (p.1, p.2) (refused-device c.in_err-inputs.field-0.0 c.args.name.now c.args.image.now (state c.args.files.now) (state c.read_inputs.new.files) c.args.over (device c.args.dev.now) (device c.args.dev.now) c.in_err-inputs.ensures.cause)

-- the disks were not kept
pub returns-in_err-text-clause-input : goal.returns-in_err-text-clause-input
returns-in_err-text-clause-input g c =
    let p = err_from_is_err_and c.from_residual-in_err-text.result c.from_residual-in_err-text.ensures.1 in
    let state = g.F.Files.state in
    let device = g.V.Device.state in
    rw (p.1, p.2) (stopped-input c.in_err-text.field-0.0 c.args.name.now c.args.image.now (state c.args.files.now) (state c.read_inputs.new.files) c.in_ok-inputs.inputs c.args.over (device c.args.dev.now) (device c.keep_disks.new.dev)
    c.in_ok-inputs.ensures.read c.in_ok-inputs.ensures.counted c.in_err-text.ensures.cause)

pub returns-in_err-text-clause-device : goal.returns-in_err-text-clause-device
returns-in_err-text-clause-device g c =
    let p = err_from_is_err_and c.from_residual-in_err-text.result c.from_residual-in_err-text.ensures.1 in
    let state = g.F.Files.state in
    let device = g.V.Device.state in
    rw (p.1, p.2) (stopped-device c.in_err-text.field-0.0 c.args.name.now c.args.image.now (state c.args.files.now) (state c.read_inputs.new.files) c.in_ok-inputs.inputs c.args.over (device c.args.dev.now) (device c.keep_disks.new.dev)
    c.in_ok-inputs.ensures.read c.in_ok-inputs.ensures.counted c.in_err-text.ensures.cause)

pub returns-in_err-text-clause-sink : goal.returns-in_err-text-clause-sink
returns-in_err-text-clause-sink g c =
    let p = err_from_is_err_and c.from_residual-in_err-text.result c.from_residual-in_err-text.ensures.1 in
    let state = g.F.Files.state in
    rw (p.1, p.2) (stopped-sink c.in_err-text.field-0.0 c.args.name.now (state c.args.files.now) (state c.read_inputs.new.files) (g.K.Sink.state c.args.out.now))

pub returns-in_err-text-clause-untouched : goal.returns-in_err-text-clause-untouched
returns-in_err-text-clause-untouched g c =
    let p = err_from_is_err_and c.from_residual-in_err-text.result c.from_residual-in_err-text.ensures.1 in
    let device = g.V.Device.state in
    rw (p.1, p.2) (stopped-untouched c.in_err-text.field-0.0 c.args.image.now c.in_ok-inputs.inputs c.args.over (device c.args.dev.now) (device c.keep_disks.new.dev) c.in_err-text.ensures.cause)

-- the lines were not written whole
pub returns-in_err-put_lines-clause-input : goal.returns-in_err-put_lines-clause-input
returns-in_err-put_lines-clause-input g c =
    let p = err_from_is_err_and c.from_residual-in_err-put_lines.result c.from_residual-in_err-put_lines.ensures.1 in
    let state = g.F.Files.state in
    rw (p.1, p.2) (unwritten-input c.in_err-put_lines.field-0.0 c.args.name.now (state c.args.files.now) (state c.read_inputs.new.files))

pub returns-in_err-put_lines-clause-device : goal.returns-in_err-put_lines-clause-device
returns-in_err-put_lines-clause-device g c =
    let p = err_from_is_err_and c.from_residual-in_err-put_lines.result c.from_residual-in_err-put_lines.ensures.1 in
    let state = g.F.Files.state in
    let device = g.V.Device.state in
    rw (p.1, p.2) (unwritten-device c.in_err-put_lines.field-0.0 (state c.args.files.now) (state c.read_inputs.new.files) c.args.name.now c.args.image.now c.in_ok-inputs.inputs c.args.over (device c.args.dev.now) (device c.keep_disks.new.dev)
    (string_bytes c.in_ok-text.text) c.in_ok-inputs.ensures.read c.in_ok-inputs.ensures.counted c.in_ok-text.ensures.kept)

pub returns-in_err-put_lines-clause-sink : goal.returns-in_err-put_lines-clause-sink
returns-in_err-put_lines-clause-sink g c =
    let p = err_from_is_err_and c.from_residual-in_err-put_lines.result c.from_residual-in_err-put_lines.ensures.1 in
    let state = g.F.Files.state in
    let device = g.V.Device.state in
    let out = g.K.Sink.state in
    let cause = rw c.as_bytes.ensures.value at c.in_err-put_lines.ensures.cause in
    rw (p.1, p.2) (unwritten-sink c.in_err-put_lines.field-0.0 (state c.args.files.now) (state c.read_inputs.new.files) c.args.name.now c.args.image.now c.in_ok-inputs.inputs (device c.args.dev.now) (device c.keep_disks.new.dev)
    (out c.args.out.now) (out c.put_lines.new.out) (string_bytes c.in_ok-text.text) c.in_ok-inputs.ensures.read c.in_ok-inputs.ensures.counted c.in_ok-text.ensures.kept cause)

-- all was done
pub returns-clause-done : goal.returns-clause-done
returns-clause-done g c =
    let state = g.F.Files.state in
    let device = g.V.Device.state in
    let out = g.K.Sink.state in
    let written = rw c.as_bytes.ensures.value at c.in_ok-put_lines.ensures.written in
    done (state c.args.files.now) (state c.read_inputs.new.files) c.args.name.now c.args.image.now c.in_ok-inputs.inputs (device c.args.dev.now) (device c.keep_disks.new.dev)
    (out c.args.out.now) (out c.put_lines.new.out) (string_bytes c.in_ok-text.text) c.in_ok-inputs.ensures.read c.in_ok-inputs.ensures.counted c.in_ok-text.ensures.kept written
