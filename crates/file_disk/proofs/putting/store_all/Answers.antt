use Rattle.std.proofs.Common.{[], length, arith}
use Rattle.std.proofs.lemmas.Result.{err_from_is_err_and}
use Rattle.file_disk.specs.Extents.{all_bytes}
use Rattle.file_disk.specs.Parts.{parts_of_files, disk_parts, most_pieces}
use Rattle.file_disk.specs.Storing.{Stored, StoreCause, progress}
use Rattle.file_disk.proofs.Joining.{size-append, stored-none, stored-join, cause-join}
use Rattle.file_disk.proofs.Single.{last-stored, last-cause}
use Rattle.file_disk.proofs.putting.store_all.Goals as goal

pub store_files-requires-clause-end : goal.store_files-requires-clause-end
unfolding disk_parts
store_files-requires-clause-end g c =
    let m = c.args.image.now in
    omega (arith, c.requires.end, size-append (parts_of_files m 0 1) (parts_of_files m 1 most_pieces))

pub store_files-requires-2-clause-end : goal.store_files-requires-2-clause-end
unfolding disk_parts
store_files-requires-2-clause-end g c =
    let m = c.args.image.now in
    omega (arith, c.requires.end, c.in_ok-store_files.ensures.stored.next, size-append (parts_of_files m 0 1) (parts_of_files m 1 most_pieces))

-- the whole blocks were cut short
pub returns-in_err-store_files-clause-cause : goal.returns-in_err-store_files-clause-cause
unfolding disk_parts
returns-in_err-store_files-clause-cause g c =
    let p = err_from_is_err_and c.from_residual.result c.from_residual.ensures.1 in
    let m = c.args.image.now in
    let state = g.V.Device.state in
    let wholes = parts_of_files m 0 1 in
    let pieces = parts_of_files m 1 most_pieces in
    let old = progress c.args.draft.now (state c.args.dev.now) in
    rw (p.1, p.2) (cause-join old old (state c.store_files.new.dev) [] (length (all_bytes wholes)) (length (all_bytes (disk_parts m))) c.in_err-store_files.field-0.0
    (stored-none old) (omega (arith, size-append wholes pieces)) c.in_err-store_files.ensures.cause)

pub returns-clause-stored : goal.returns-clause-stored
unfolding disk_parts
returns-clause-stored g c =
    let m = c.args.image.now in
    let state = g.V.Device.state in
    let wholes = parts_of_files m 0 1 in
    let pieces = parts_of_files m 1 most_pieces in
    let old = progress c.args.draft.now (state c.args.dev.now) in
    let mid = progress c.store_files.new.draft (state c.store_files.new.dev) in
    let new = progress c.store_files-2.new.draft (state c.store_files-2.new.dev) in
    last-stored c.store_files-2.result (Stored mid new pieces) _ (λ s. stored-join old mid new wholes pieces c.in_ok-store_files.ensures.stored s) c.store_files-2.ensures.stored

pub returns-clause-cause : goal.returns-clause-cause
unfolding disk_parts
returns-clause-cause g c =
    let m = c.args.image.now in
    let state = g.V.Device.state in
    let wholes = parts_of_files m 0 1 in
    let pieces = parts_of_files m 1 most_pieces in
    let old = progress c.args.draft.now (state c.args.dev.now) in
    let mid = progress c.store_files.new.draft (state c.store_files.new.dev) in
    let whole = size-append wholes pieces in
    last-cause c.store_files-2.result (StoreCause mid.device (state c.store_files-2.new.dev) mid.next (length (all_bytes pieces))) _
    (λ fault s. cause-join old mid (state c.store_files-2.new.dev) wholes (length (all_bytes pieces)) _ fault c.in_ok-store_files.ensures.stored (omega (arith, whole)) s) c.store_files-2.ensures.cause
