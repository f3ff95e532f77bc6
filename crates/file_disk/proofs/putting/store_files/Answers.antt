use Rattle.std.proofs.Common.{◌≡◌, ◌+◌, ◌≤◌, ℕ, List, length, refl, ap, arith}
use Rattle.std.proofs.lemmas.Result.{err_from_is_err_and}
use Rattle.stripe_layout.specs.declared.catalogue.Catalogue.{Catalogue}
use Rattle.file_disk.specs.Parts.{parts_of_files, parts_of_file}
use Rattle.file_disk.specs.Devices.{last_end}
use Rattle.file_disk.specs.Extents.{NamedPart, all_bytes}
use Rattle.file_disk.specs.Storing.{progress}
use Rattle.file_disk.proofs.Joining.{stored-none, stored-as}
use Rattle.file_disk.proofs.Ranges.{parts_in, parts-front, turned, cut-turn}
use Rattle.file_disk.proofs.putting.store_files.Goals as goal

pub loop-file-init : goal.loop-file-init
loop-file-init g c = stored-none (progress c.args.draft.now (g.V.Device.state c.args.dev.now))

pub store_file-requires-clause-faults : goal.store_file-requires-clause-faults
store_file-requires-clause-faults g c = omega (arith, c.requires.faults, c.loop-file.invariant.written.faults)

-- what is left of the room is enough for one turn
pub store_file-requires-clause-end : goal.store_file-requires-clause-end
unfolding parts_of_files
store_file-requires-clause-end g c =
    let parts : ℕ → List NamedPart = parts_of_file c.args.image.now c.args.first c.args.count in
    let room : c.args.draft.now.next + length (all_bytes (parts_in parts 0 (length c.args.image.now.catalogue.files))) ≤ last_end = c.requires.end in
    let front = parts-front parts 0 c.loop-file.file (length c.args.image.now.catalogue.files) c.loop-file.file (omega (arith, ap (λ (k : Catalogue). length k.files) c.requires.catalogue, c.len-file-end.ensures)) (omega arith) in
    omega (arith, room, c.loop-file.invariant.next, front)

pub loop-file-preserved : goal.loop-file-preserved
loop-file-preserved g c =
    let state = g.V.Device.state in
    turned (parts_of_file c.args.image.now c.args.first c.args.count) 0 c.loop-file.file (c.loop-file.file + 1) c.loop-file.file (progress c.args.draft.now (state c.args.dev.now)) (progress c.loop-file.draft (state c.loop-file.dev))
    (progress c.store_file.new.draft (state c.store_file.new.dev)) refl (omega arith) c.loop-file.invariant c.in_ok-store_file.ensures.stored

pub returns-in_err-store_file-clause-cause : goal.returns-in_err-store_file-clause-cause
unfolding parts_of_files
returns-in_err-store_file-clause-cause g c =
    let p = err_from_is_err_and c.from_residual.result c.from_residual.ensures.1 in
    let state = g.V.Device.state in
    rw (p.1, p.2) (cut-turn (parts_of_file c.args.image.now c.args.first c.args.count) 0 c.loop-file.file (length c.args.image.now.catalogue.files) c.loop-file.file (progress c.args.draft.now (state c.args.dev.now)) (progress c.loop-file.draft (state c.loop-file.dev))
    (state c.store_file.new.dev) c.in_err-store_file.field-0.0 (omega (arith, ap (λ (k : Catalogue). length k.files) c.requires.catalogue, c.len-file-end.ensures)) (omega arith) c.loop-file.invariant c.in_err-store_file.ensures.cause)

pub returns-clause-stored : goal.returns-clause-stored
unfolding parts_of_files
returns-clause-stored g c =
    let state = g.V.Device.state in
    let parts : ℕ → List NamedPart = parts_of_file c.args.image.now c.args.first c.args.count in
    let all : c.loop-file.file ≡ (length c.args.image.now.catalogue.files) = omega (arith, ap (λ (k : Catalogue). length k.files) c.requires.catalogue, c.len-file-end.ensures) in
    stored-as (progress c.args.draft.now (state c.args.dev.now)) (progress c.loop-file.draft (state c.loop-file.dev)) (parts_in parts 0 c.loop-file.file) (parts_in parts 0 (length c.args.image.now.catalogue.files))
    (ap (λ (k : ℕ). parts_in parts 0 k) all) c.loop-file.invariant
