use Rattle.std.proofs.lemmas.Result.{err_from_is_err_and}
use Rattle.stored_disks.specs.Disks.{disks_of}
use Rattle.scenario_disks.proofs.InImages.{in-image, not-opened, opens-none, opens-one, not-kept}
use Rattle.scenario_disks.proofs.keeping.in_image.Goals as goal

pub returns-in_err-open-clause-cause : goal.returns-in_err-open-clause-cause
returns-in_err-open-clause-cause g c =
    let p = err_from_is_err_and c.from_residual.result c.from_residual.ensures.1 in
    let state = g.V.Device.state in
    rw (p.1, p.2) (not-opened c.args.image.now (disks_of c.args.library.now c.args.cat.now c.args.pieces) c.args.over (state c.args.dev.now) (state c.open.new.self) c.in_err-open.field-0.0 c.in_err-open.ensures.cause)

pub returns-in_err-store_disks-clause-cause : goal.returns-in_err-store_disks-clause-cause
returns-in_err-store_disks-clause-cause g c =
    let p = err_from_is_err_and c.from_residual-in_err-store_disks.result c.from_residual-in_err-store_disks.ensures.1 in
    let state = g.V.Device.state in
    rw (p.1, p.2) (not-kept c.args.image.now (disks_of c.args.library.now c.args.cat.now c.args.pieces) c.args.over (state c.args.dev.now) (state c.open.new.self) (state c.store_disks.new.dev) c.in_err-store_disks.field-0.0 c.in_ok-open.ensures.opened c.store_disks.ensures.names c.in_err-store_disks.ensures.cause)

pub returns-clause-kept : goal.returns-clause-kept
returns-clause-kept g c =
    let state = g.V.Device.state in
    let e = c.in_ok-store_disks.ensures in
    in-image c.args.image.now (disks_of c.args.library.now c.args.cat.now c.args.pieces) (state c.args.dev.now) (state c.open.new.self) (state c.store_disks.new.dev) c.requires.few_parts c.in_ok-open.ensures.opened
    e.kept e.stand e.outside e.reads e.no_fault c.store_disks.ensures.names c.store_disks.ensures.refusals

pub returns-in_err-open-clause-names : goal.returns-in_err-open-clause-names
returns-in_err-open-clause-names g c =
    let state = g.V.Device.state in
    opens-none c.args.image.now c.args.over (state c.args.dev.now) (state c.open.new.self) c.in_err-open.field-0.0 c.in_err-open.ensures.cause

pub returns-in_err-store_disks-clause-names : goal.returns-in_err-store_disks-clause-names
returns-in_err-store_disks-clause-names g c =
    let state = g.V.Device.state in
    opens-one c.args.image.now (state c.args.dev.now) (state c.open.new.self) (state c.store_disks.new.dev) c.in_ok-open.ensures.opened c.store_disks.ensures.names

pub returns-clause-names : goal.returns-clause-names
returns-clause-names g c =
    let state = g.V.Device.state in
    opens-one c.args.image.now (state c.args.dev.now) (state c.open.new.self) (state c.store_disks.new.dev) c.in_ok-open.ensures.opened c.store_disks.ensures.names
