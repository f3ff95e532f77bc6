use Rattle.std.proofs.Common.{◌≡◌, ℕ, List, [], length, sym, ap, ◌∙◌, subst, arith, OnOk, IfErr}
use Rattle.std.proofs.lemmas.List.{append-nil}
use Rattle.file_disk.specs.Extents.{NamedPart, all_bytes}
use Rattle.file_disk.specs.Parts.{part_here}
use Rattle.file_disk.specs.Storing.{Stored, StoreCause, progress}
use Rattle.file_disk.proofs.Joining.{stored-none, stored-as}
use Rattle.file_disk.proofs.Single.{here-part, here-none}
use Rattle.file_disk.proofs.putting.store_part.Goals as goal

pub store_bytes-requires-clause-end : goal.store_bytes-requires-clause-end
store_bytes-requires-clause-end g c =
    let bytes = c.bytes.result.now in
    let here = here-part c.args.image.now c.args.name c.in-Some.part bytes (sym c.image_part.ensures ∙ c.in-Some.is) c.bytes.ensures in
    let size : length bytes ≡ length (all_bytes (part_here c.args.image.now c.args.name)) =
    ap length (sym (append-nil bytes)) ∙ ap (λ (ps : List NamedPart). length (all_bytes ps)) here in
    omega (arith, c.requires.end, size)

pub returns-in-Some-clause-stored : goal.returns-in-Some-clause-stored
returns-in-Some-clause-stored g c =
    let state = g.V.Device.state in
    let here = here-part c.args.image.now c.args.name c.in-Some.part c.bytes.result.now (sym c.image_part.ensures ∙ c.in-Some.is) c.bytes.ensures in
    subst (λ (ps : List NamedPart). OnOk c.store_bytes.result (Stored (progress c.args.draft.now (state c.args.dev.now)) (progress c.store_bytes.new.draft (state c.store_bytes.new.dev)) ps))
    here c.store_bytes.ensures.stored

pub returns-in-Some-clause-cause : goal.returns-in-Some-clause-cause
returns-in-Some-clause-cause g c =
    let state = g.V.Device.state in
    let bytes = c.bytes.result.now in
    let here = here-part c.args.image.now c.args.name c.in-Some.part bytes (sym c.image_part.ensures ∙ c.in-Some.is) c.bytes.ensures in
    let size : length bytes ≡ length (all_bytes (part_here c.args.image.now c.args.name)) =
    ap length (sym (append-nil bytes)) ∙ ap (λ (ps : List NamedPart). length (all_bytes ps)) here in
    subst (λ (n : ℕ). IfErr c.store_bytes.result (StoreCause (state c.args.dev.now) (state c.store_bytes.new.dev) c.args.draft.now.next n)) size c.store_bytes.ensures.cause

pub returns-in-None-clause-stored : goal.returns-in-None-clause-stored
returns-in-None-clause-stored g c =
    let a = progress c.args.draft.now (g.V.Device.state c.args.dev.now) in
    stored-as a a [] (part_here c.args.image.now c.args.name) (here-none c.args.image.now c.args.name (sym c.image_part.ensures ∙ c.in-None.is)) (stored-none a)
