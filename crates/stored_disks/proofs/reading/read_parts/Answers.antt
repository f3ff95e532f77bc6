use Rattle.std.proofs.Common.{◌∙◌, List, length, take, refl, ap, subst, arith}
use Rattle.std.proofs.lemmas.List.{take_all, length-take}
use Rattle.std.proofs.lemmas.Result.{err_from_is_err_and}
use Rattle.file_disk.specs.declared.directory.Extent.{Extent}
use Rattle.stored_disks.specs.Reading.{ArePartsRead}
use Rattle.stored_disks.proofs.ReadParts.{reads-of, read-turn, cause-behind}
use Rattle.stored_disks.proofs.reading.read_parts.Goals as goal

pub loop-number-init : goal.loop-number-init
loop-number-init g c = record { read = refl; names = refl; refusals = refl }

pub read_number-requires-clause-faults : goal.read_number-requires-clause-faults
read_number-requires-clause-faults g c =
    let state = g.V.Device.state in
    let dir = c.args.dir.now in
    let r = reads-of (state c.args.dev.now) (state c.loop-number.dev) (take c.loop-number.number dir) c.loop-number.invariant.read in
    omega (arith, c.requires.faults, r.faults)

pub read_number-requires-clause-reads : goal.read_number-requires-clause-reads
read_number-requires-clause-reads g c =
    let state = g.V.Device.state in
    let dir = c.args.dir.now in
    let r = reads-of (state c.args.dev.now) (state c.loop-number.dev) (take c.loop-number.number dir) c.loop-number.invariant.read in
    let within = ap length c.extents-number-end.ensures in
    let short = length-take c.loop-number.number dir in
    omega (arith, c.requires.reads, r.reads, within, short)

pub loop-number-preserved : goal.loop-number-preserved
loop-number-preserved g c =
    let state = g.V.Device.state in
    record {
      read = read-turn (state c.args.dev.now) (state c.loop-number.dev) (state c.read_number.new.dev) c.args.dir.now c.loop-number.number c.loop-number.invariant.read c.in_ok-read_number.ensures.read;
      names = c.read_number.ensures.names ∙ c.loop-number.invariant.names;
      refusals = c.read_number.ensures.refusals ∙ c.loop-number.invariant.refusals;
    }

pub returns-in_err-read_number-clause-cause : goal.returns-in_err-read_number-clause-cause
returns-in_err-read_number-clause-cause g c =
    let p = err_from_is_err_and c.from_residual.result c.from_residual.ensures.1 in
    let state = g.V.Device.state in
    rw (p.1, p.2) (cause-behind c.args.disk c.args.dir.now c.loop-number.number (state c.args.dev.now) (state c.loop-number.dev) (state c.read_number.new.dev) c.in_err-read_number.field-0.0
    c.loop-number.invariant.read c.in_err-read_number.ensures.cause)

pub returns-clause-read : goal.returns-clause-read
returns-clause-read g c =
    let state = g.V.Device.state in
    let dir = c.args.dir.now in
    let within = ap length c.extents-number-end.ensures in
    let all = take_all c.loop-number.number dir (omega (arith, within)) in
    subst (λ (es : List Extent). ArePartsRead (state c.args.dev.now) (state c.loop-number.dev) es) all c.loop-number.invariant.read
