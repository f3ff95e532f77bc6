use Rattle.std.proofs.Common.{◌≡◌, ◌+◌, ◌≤◌, ℕ, List, length, refl, ap, arith}
use Rattle.std.proofs.lemmas.Result.{err_from_is_err_and}
use Rattle.file_disk.specs.Parts.{parts_of_block, part_here, part_name}
use Rattle.file_disk.specs.Devices.{last_end}
use Rattle.file_disk.specs.Extents.{NamedPart, all_bytes}
use Rattle.file_disk.specs.Storing.{progress}
use Rattle.file_disk.proofs.Joining.{stored-none, stored-as}
use Rattle.file_disk.proofs.Ranges.{parts_in, parts-front, turned, cut-turn}
use Rattle.file_disk.proofs.putting.store_block.Goals as goal

pub loop-k-init : goal.loop-k-init
loop-k-init g c = stored-none (progress c.args.draft.now (g.V.Device.state c.args.dev.now))

pub store_part-requires-clause-faults : goal.store_part-requires-clause-faults
store_part-requires-clause-faults g c = omega (arith, c.requires.faults, c.loop-k.invariant.written.faults)

-- what is left of the room is enough for one turn
pub store_part-requires-clause-end : goal.store_part-requires-clause-end
unfolding parts_of_block
store_part-requires-clause-end g c =
    let parts : ℕ → List NamedPart = λ (piece : ℕ). part_here c.args.image.now (part_name c.args.file.0 c.args.block piece) in
    let room : c.args.draft.now.next + length (all_bytes (parts_in parts c.args.first c.args.count)) ≤ last_end = c.requires.end in
    let front = parts-front parts c.args.first c.loop-k.k c.args.count (c.args.first + c.loop-k.k) (omega arith) refl in
    omega (arith, room, c.loop-k.invariant.next, front)

pub loop-k-preserved : goal.loop-k-preserved
loop-k-preserved g c =
    let state = g.V.Device.state in
    turned (λ (piece : ℕ). part_here c.args.image.now (part_name c.args.file.0 c.args.block piece)) c.args.first c.loop-k.k (c.loop-k.k + 1) (c.args.first + c.loop-k.k) (progress c.args.draft.now (state c.args.dev.now)) (progress c.loop-k.draft (state c.loop-k.dev))
    (progress c.store_part.new.draft (state c.store_part.new.dev)) refl refl c.loop-k.invariant c.in_ok-store_part.ensures.stored

pub returns-in_err-store_part-clause-cause : goal.returns-in_err-store_part-clause-cause
unfolding parts_of_block
returns-in_err-store_part-clause-cause g c =
    let p = err_from_is_err_and c.from_residual.result c.from_residual.ensures.1 in
    let state = g.V.Device.state in
    rw (p.1, p.2) (cut-turn (λ (piece : ℕ). part_here c.args.image.now (part_name c.args.file.0 c.args.block piece)) c.args.first c.loop-k.k c.args.count (c.args.first + c.loop-k.k) (progress c.args.draft.now (state c.args.dev.now)) (progress c.loop-k.draft (state c.loop-k.dev))
    (state c.store_part.new.dev) c.in_err-store_part.field-0.0 (omega arith) refl c.loop-k.invariant c.in_err-store_part.ensures.cause)

pub returns-clause-stored : goal.returns-clause-stored
unfolding parts_of_block
returns-clause-stored g c =
    let state = g.V.Device.state in
    let parts : ℕ → List NamedPart = λ (piece : ℕ). part_here c.args.image.now (part_name c.args.file.0 c.args.block piece) in
    let all : c.loop-k.k ≡ c.args.count = omega arith in
    stored-as (progress c.args.draft.now (state c.args.dev.now)) (progress c.loop-k.draft (state c.loop-k.dev)) (parts_in parts c.args.first c.loop-k.k) (parts_in parts c.args.first c.args.count)
    (ap (λ (k : ℕ). parts_in parts c.args.first k) all) c.loop-k.invariant
