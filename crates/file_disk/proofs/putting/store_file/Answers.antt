use Rattle.std.proofs.Common.{◌≡◌, ◌+◌, ◌≤◌, ℕ, List, length, refl, ap, arith}
use Rattle.std.proofs.lemmas.Result.{err_from_is_err_and}
use Rattle.stripe_layout.specs.Places.{block_count}
use Rattle.stripe_layout.specs.declared.catalogue.Catalogue.{Catalogue}
use Rattle.file_disk.specs.Parts.{parts_of_file, parts_of_block}
use Rattle.file_disk.specs.Devices.{last_end}
use Rattle.file_disk.specs.Extents.{NamedPart, all_bytes}
use Rattle.file_disk.specs.Storing.{progress}
use Rattle.file_disk.proofs.Joining.{stored-none, stored-as}
use Rattle.file_disk.proofs.Ranges.{parts_in, parts-front, turned, cut-turn}
use Rattle.file_disk.proofs.putting.store_file.Goals as goal

pub loop-block-init : goal.loop-block-init
loop-block-init g c = stored-none (progress c.args.draft.now (g.V.Device.state c.args.dev.now))

pub store_block-requires-clause-faults : goal.store_block-requires-clause-faults
store_block-requires-clause-faults g c = omega (arith, c.requires.faults, c.loop-block.invariant.written.faults)

-- what is left of the room is enough for one turn
pub store_block-requires-clause-end : goal.store_block-requires-clause-end
unfolding parts_of_file
store_block-requires-clause-end g c =
    let parts : ℕ → List NamedPart = parts_of_block c.args.image.now c.args.first c.args.count c.args.file.0 in
    let room : c.args.draft.now.next + length (all_bytes (parts_in parts 0 (block_count c.args.image.now.catalogue c.args.file.0))) ≤ last_end = c.requires.end in
    let front = parts-front parts 0 c.loop-block.block (block_count c.args.image.now.catalogue c.args.file.0) c.loop-block.block (omega (arith, ap (λ (k : Catalogue). block_count k c.args.file.0) c.requires.catalogue, c.block_count-block-end.ensures.value)) (omega arith) in
    omega (arith, room, c.loop-block.invariant.next, front)

pub loop-block-preserved : goal.loop-block-preserved
loop-block-preserved g c =
    let state = g.V.Device.state in
    turned (parts_of_block c.args.image.now c.args.first c.args.count c.args.file.0) 0 c.loop-block.block (c.loop-block.block + 1) c.loop-block.block (progress c.args.draft.now (state c.args.dev.now)) (progress c.loop-block.draft (state c.loop-block.dev))
    (progress c.store_block.new.draft (state c.store_block.new.dev)) refl (omega arith) c.loop-block.invariant c.in_ok-store_block.ensures.stored

pub returns-in_err-store_block-clause-cause : goal.returns-in_err-store_block-clause-cause
unfolding parts_of_file
returns-in_err-store_block-clause-cause g c =
    let p = err_from_is_err_and c.from_residual.result c.from_residual.ensures.1 in
    let state = g.V.Device.state in
    rw (p.1, p.2) (cut-turn (parts_of_block c.args.image.now c.args.first c.args.count c.args.file.0) 0 c.loop-block.block (block_count c.args.image.now.catalogue c.args.file.0) c.loop-block.block (progress c.args.draft.now (state c.args.dev.now)) (progress c.loop-block.draft (state c.loop-block.dev))
    (state c.store_block.new.dev) c.in_err-store_block.field-0.0 (omega (arith, ap (λ (k : Catalogue). block_count k c.args.file.0) c.requires.catalogue, c.block_count-block-end.ensures.value)) (omega arith) c.loop-block.invariant c.in_err-store_block.ensures.cause)

pub returns-clause-stored : goal.returns-clause-stored
unfolding parts_of_file
returns-clause-stored g c =
    let state = g.V.Device.state in
    let parts : ℕ → List NamedPart = parts_of_block c.args.image.now c.args.first c.args.count c.args.file.0 in
    let all : c.loop-block.block ≡ (block_count c.args.image.now.catalogue c.args.file.0) = omega (arith, ap (λ (k : Catalogue). block_count k c.args.file.0) c.requires.catalogue, c.block_count-block-end.ensures.value) in
    stored-as (progress c.args.draft.now (state c.args.dev.now)) (progress c.loop-block.draft (state c.loop-block.dev)) (parts_in parts 0 c.loop-block.block) (parts_in parts 0 (block_count c.args.image.now.catalogue c.args.file.0))
    (ap (λ (k : ℕ). parts_in parts 0 k) all) c.loop-block.invariant
