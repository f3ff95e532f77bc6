use Rattle.std.proofs.Common.{◌≡◌, ◌∙◌, ◌+◌, ℕ, ap, subst, string_bytes, arith}
use Rattle.std.proofs.lemmas.Result.{err_from_is_err_and}
use Rattle.file_disk.specs.Devices.{AreSameOutside}
use Rattle.stored_disks.specs.Disks.{disks_of, start_of, disk_lines}
use Rattle.stored_disks.specs.Kept.{AreDisksKept, StandEach}
use Rattle.stored_disks.proofs.KeptDisks.{disk-counted, disks-counted, disks-outside, disks-cause, stand-each, start-low, more-kept, more-bytes, more-lines}
use Rattle.stored_disks.proofs.CountedParts.{all-counted, within-count}
use Rattle.stored_disks.proofs.keeping.store_disks.Goals as goal

pub keep_disk-requires-clause-room : goal.keep_disk-requires-clause-room
keep_disk-requires-clause-room g c =
    let disks = disks_of c.args.library.now c.args.cat.now c.args.pieces in
    let low = start-low disks c.loop-disk.disk c.requires.few_files c.requires.short in
    omega (arith, low, c.loop-disk.invariant.place, c.args.cat.now.sound.disks_high)

pub keep_disk-requires-clause-faults : goal.keep_disk-requires-clause-faults
keep_disk-requires-clause-faults g c =
    let state = g.V.Device.state in
    let disks = disks_of c.args.library.now c.args.cat.now c.args.pieces in
    let k = disks-counted disks c.loop-disk.disk (state c.args.dev.now) (state c.loop-disk.dev) c.loop-disk.invariant.kept in
    omega (arith, c.requires.faults, k.faults)

pub keep_disk-requires-clause-reads : goal.keep_disk-requires-clause-reads
keep_disk-requires-clause-reads g c =
    let state = g.V.Device.state in
    let disks = disks_of c.args.library.now c.args.cat.now c.args.pieces in
    let k = disks-counted disks c.loop-disk.disk (state c.args.dev.now) (state c.loop-disk.dev) c.loop-disk.invariant.kept in
    let within = within-count disks c.loop-disk.disk (omega arith) c.requires.few_pieces in
    omega (arith, c.requires.reads, k.reads, within)

-- the place behind a disk is far below the greatest number
pub overflow_add-at : goal.overflow_add-at
overflow_add-at g c =
    let disks = disks_of c.args.library.now c.args.cat.now c.args.pieces in
    let d = c.loop-disk.disk in
    let next = more-bytes disks d c.loop-disk.at c.bytes-at.result c.in_ok-dir.dir c.loop-disk.invariant.place c.in_ok-dir.ensures.directory c.bytes-at.ensures in
    let low = start-low disks (d + 1) c.requires.few_files c.requires.short in
    omega (arith, next, low, c.args.cat.now.sound.disks_high)

pub loop-disk-preserved : goal.loop-disk-preserved
loop-disk-preserved g c =
    let state = g.V.Device.state in
    let disks = disks_of c.args.library.now c.args.cat.now c.args.pieces in
    let d = c.loop-disk.disk in
    let es = c.in_ok-dir.dir in
    record {
      place = more-bytes disks d c.loop-disk.at c.bytes-at.result es c.loop-disk.invariant.place c.in_ok-dir.ensures.directory c.bytes-at.ensures;
      lines = more-lines disks d (string_bytes c.loop-disk.text) (string_bytes c.push_disk.new.text) es c.loop-disk.invariant.lines c.in_ok-dir.ensures.directory c.in_ok-push_disk.ensures;
      kept = more-kept disks d (state c.args.dev.now) (state c.loop-disk.dev) (state c.keep_disk.new.dev) c.loop-disk.invariant.kept c.in_ok-dir.ensures.kept;
    }

-- a disk was not kept
pub returns-in_err-dir-clause-cause : goal.returns-in_err-dir-clause-cause
returns-in_err-dir-clause-cause g c =
    let p = err_from_is_err_and c.from_residual.result c.from_residual.ensures.1 in
    let state = g.V.Device.state in
    let disks = disks_of c.args.library.now c.args.cat.now c.args.pieces in
    rw (p.1, p.2) (disks-cause disks c.loop-disk.disk (state c.args.dev.now) (state c.loop-disk.dev) (state c.keep_disk.new.dev) c.in_err-dir.field-0.0 c.loop-disk.invariant.kept c.in_err-dir.ensures.cause)

pub returns-in_err-dir-clause-refusals : goal.returns-in_err-dir-clause-refusals
returns-in_err-dir-clause-refusals g c =
    let state = g.V.Device.state in
    let disks = disks_of c.args.library.now c.args.cat.now c.args.pieces in
    let k = disks-counted disks c.loop-disk.disk (state c.args.dev.now) (state c.loop-disk.dev) c.loop-disk.invariant.kept in
    c.keep_disk.ensures.refusals ∙ k.refusals

pub returns-in_err-dir-clause-names : goal.returns-in_err-dir-clause-names
returns-in_err-dir-clause-names g c =
    let state = g.V.Device.state in
    let disks = disks_of c.args.library.now c.args.cat.now c.args.pieces in
    let k = disks-counted disks c.loop-disk.disk (state c.args.dev.now) (state c.loop-disk.dev) c.loop-disk.invariant.kept in
    c.keep_disk.ensures.names ∙ k.names

-- there was no memory for its line
pub returns-in_err-push_disk-clause-cause : goal.returns-in_err-push_disk-clause-cause
returns-in_err-push_disk-clause-cause g c =
    let p = err_from_is_err_and c.from_residual-in_err-push_disk.result c.from_residual-in_err-push_disk.ensures.1 in
    let state = g.V.Device.state in
    let disks = disks_of c.args.library.now c.args.cat.now c.args.pieces in
    let k = disks-counted disks c.loop-disk.disk (state c.args.dev.now) (state c.loop-disk.dev) c.loop-disk.invariant.kept in
    let one = disk-counted disks c.loop-disk.disk (state c.loop-disk.dev) (state c.keep_disk.new.dev) c.in_ok-dir.ensures.kept in
    rw (p.1, p.2) (one.faults ∙ k.faults)

pub returns-in_err-push_disk-clause-refusals : goal.returns-in_err-push_disk-clause-refusals
returns-in_err-push_disk-clause-refusals g c =
    let state = g.V.Device.state in
    let disks = disks_of c.args.library.now c.args.cat.now c.args.pieces in
    let k = disks-counted disks c.loop-disk.disk (state c.args.dev.now) (state c.loop-disk.dev) c.loop-disk.invariant.kept in
    c.keep_disk.ensures.refusals ∙ k.refusals

pub returns-in_err-push_disk-clause-names : goal.returns-in_err-push_disk-clause-names
returns-in_err-push_disk-clause-names g c =
    let state = g.V.Device.state in
    let disks = disks_of c.args.library.now c.args.cat.now c.args.pieces in
    let k = disks-counted disks c.loop-disk.disk (state c.args.dev.now) (state c.loop-disk.dev) c.loop-disk.invariant.kept in
    c.keep_disk.ensures.names ∙ k.names

-- all are kept
pub returns-clause-kept : goal.returns-clause-kept
returns-clause-kept g c =
    let state = g.V.Device.state in
    let disks = disks_of c.args.library.now c.args.cat.now c.args.pieces in
    let all : c.loop-disk.disk ≡ c.args.cat.now.disks = omega arith in
    subst (λ (n : ℕ). AreDisksKept disks n (state c.args.dev.now) (state c.loop-disk.dev)) all c.loop-disk.invariant.kept

pub returns-clause-lines : goal.returns-clause-lines
returns-clause-lines g c =
    let disks = disks_of c.args.library.now c.args.cat.now c.args.pieces in
    let all : c.loop-disk.disk ≡ c.args.cat.now.disks = omega arith in
    c.loop-disk.invariant.lines ∙ ap (disk_lines disks) all

pub returns-clause-stand : goal.returns-clause-stand
returns-clause-stand g c =
    let state = g.V.Device.state in
    let disks = disks_of c.args.library.now c.args.cat.now c.args.pieces in
    let all : c.loop-disk.disk ≡ c.args.cat.now.disks = omega arith in
    subst (λ (n : ℕ). StandEach disks n (state c.loop-disk.dev).told) all
    (stand-each disks c.loop-disk.disk (state c.args.dev.now) (state c.loop-disk.dev) c.loop-disk.invariant.kept)

pub returns-clause-outside : goal.returns-clause-outside
returns-clause-outside g c =
    let state = g.V.Device.state in
    let disks = disks_of c.args.library.now c.args.cat.now c.args.pieces in
    let all : c.loop-disk.disk ≡ c.args.cat.now.disks = omega arith in
    subst (λ (n : ℕ). AreSameOutside (state c.args.dev.now).told (state c.loop-disk.dev).told 0 (start_of disks n)) all
    (disks-outside disks c.loop-disk.disk (state c.args.dev.now) (state c.loop-disk.dev) c.loop-disk.invariant.kept)

pub returns-clause-reads : goal.returns-clause-reads
returns-clause-reads g c =
    let state = g.V.Device.state in
    let disks = disks_of c.args.library.now c.args.cat.now c.args.pieces in
    let all : c.loop-disk.disk ≡ c.args.cat.now.disks = omega arith in
    let kept = subst (λ (n : ℕ). AreDisksKept disks n (state c.args.dev.now) (state c.loop-disk.dev)) all c.loop-disk.invariant.kept in
    let k = disks-counted disks c.args.cat.now.disks (state c.args.dev.now) (state c.loop-disk.dev) kept in
    omega (arith, k.reads, all-counted disks c.requires.few_pieces)

pub returns-clause-no_fault : goal.returns-clause-no_fault
returns-clause-no_fault g c =
    let state = g.V.Device.state in
    let disks = disks_of c.args.library.now c.args.cat.now c.args.pieces in
    (disks-counted disks c.loop-disk.disk (state c.args.dev.now) (state c.loop-disk.dev) c.loop-disk.invariant.kept).faults

pub returns-clause-refusals : goal.returns-clause-refusals
returns-clause-refusals g c =
    let state = g.V.Device.state in
    let disks = disks_of c.args.library.now c.args.cat.now c.args.pieces in
    (disks-counted disks c.loop-disk.disk (state c.args.dev.now) (state c.loop-disk.dev) c.loop-disk.invariant.kept).refusals

pub returns-clause-names : goal.returns-clause-names
returns-clause-names g c =
    let state = g.V.Device.state in
    let disks = disks_of c.args.library.now c.args.cat.now c.args.pieces in
    (disks-counted disks c.loop-disk.disk (state c.args.dev.now) (state c.loop-disk.dev) c.loop-disk.invariant.kept).names
