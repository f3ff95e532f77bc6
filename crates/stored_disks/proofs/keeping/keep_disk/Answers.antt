use Rattle.std.proofs.Common.{◌∙◌, length, ap, arith}
use Rattle.std.proofs.lemmas.Result.{err_from_is_err_and}
use Rattle.stored_disks.specs.Disks.{disks_of, start_of, parts_on}
use Rattle.stored_disks.proofs.StoredParts.{length-placed}
use Rattle.stored_disks.proofs.KeptDisks.{kept-disk, kept-extents, not-read, store-cause, store-refuses, store-opens-none}
use Rattle.stored_disks.proofs.keeping.keep_disk.Goals as goal

pub read_parts-requires-clause-reads : goal.read_parts-requires-clause-reads
read_parts-requires-clause-reads g c =
    let s = disks_of c.args.library.now c.args.cat.now c.args.pieces in
    let extents = kept-extents s c.args.disk.0 c.in_ok-image.image c.args.at c.in_ok-dir.dir c.in_ok-image.ensures c.requires.place c.in_ok-dir.ensures.directory in
    let number = ap length extents ∙ length-placed (start_of s c.args.disk.0) (parts_on s c.args.disk.0) in
    omega (arith, c.requires.reads, number, c.in_ok-dir.ensures.written.reads)

pub returns-in_err-dir-clause-cause : goal.returns-in_err-dir-clause-cause
returns-in_err-dir-clause-cause g c =
    let p = err_from_is_err_and c.from_residual-in_err-dir.result c.from_residual-in_err-dir.ensures.1 in
    let state = g.V.Device.state in
    rw (p.1, p.2) (store-cause (disks_of c.args.library.now c.args.cat.now c.args.pieces) (state c.args.dev.now) (state c.store.new.dev) c.args.at _ c.in_err-dir.field-0.0 c.in_err-dir.ensures.cause)

pub returns-in_err-dir-clause-refusals : goal.returns-in_err-dir-clause-refusals
returns-in_err-dir-clause-refusals g c =
    let state = g.V.Device.state in
    store-refuses (state c.args.dev.now) (state c.store.new.dev) c.args.at _ c.in_err-dir.field-0.0 c.in_err-dir.ensures.cause

pub returns-in_err-dir-clause-names : goal.returns-in_err-dir-clause-names
returns-in_err-dir-clause-names g c =
    let state = g.V.Device.state in
    store-opens-none (state c.args.dev.now) (state c.store.new.dev) c.args.at _ c.in_err-dir.field-0.0 c.in_err-dir.ensures.cause

pub returns-in_err-read_parts-clause-cause : goal.returns-in_err-read_parts-clause-cause
returns-in_err-read_parts-clause-cause g c =
    let p = err_from_is_err_and c.from_residual-in_err-read_parts.result c.from_residual-in_err-read_parts.ensures.1 in
    let state = g.V.Device.state in
    let s = disks_of c.args.library.now c.args.cat.now c.args.pieces in
    rw (p.1, p.2) (not-read s c.args.disk c.in_ok-image.image c.args.at (state c.args.dev.now) (state c.store.new.dev) (state c.read_parts.new.dev) c.in_ok-dir.dir c.in_err-read_parts.field-0.0 c.in_ok-image.ensures c.requires.place
    c.requires.there c.in_ok-dir.ensures.written c.in_ok-dir.ensures.directory c.in_err-read_parts.ensures.cause)

pub returns-clause-directory : goal.returns-clause-directory
returns-clause-directory g c =
    let s = disks_of c.args.library.now c.args.cat.now c.args.pieces in
    kept-extents s c.args.disk.0 c.in_ok-image.image c.args.at c.in_ok-dir.dir c.in_ok-image.ensures c.requires.place c.in_ok-dir.ensures.directory

pub returns-clause-kept : goal.returns-clause-kept
returns-clause-kept g c =
    let state = g.V.Device.state in
    let s = disks_of c.args.library.now c.args.cat.now c.args.pieces in
    kept-disk s c.args.disk.0 c.in_ok-image.image c.args.at (state c.args.dev.now) (state c.store.new.dev) (state c.read_parts.new.dev) c.in_ok-dir.dir c.in_ok-image.ensures c.requires.place
    c.in_ok-dir.ensures.written c.in_ok-dir.ensures.directory c.in_ok-read_parts.ensures.read
