use Rattle.std.proofs.Common.{ap, ◌∙◌, string_bytes, Some}
use Rattle.std.specs.BTreeMap.{get_by_text}
use Rattle.std.proofs.lemmas.Map.Text.{btree_map_updates_text}
use Rattle.outside.specs.Memory.{found_bytes, MemoryFiles}
use Rattle.outside.proofs.MemoryLemmas.{found_bytes-update}
use Rattle.outside.proofs.mem_files.MemFiles.put.Goals as goal

pub returns-clause-told : goal.returns-clause-told
returns-clause-told c = λ other.
    let bs = string_bytes c.in_ok-name.name in
    let old = c.self.inside.files in
    let updated = ap found_bytes (btree_map_updates_text bs old c.insert.new.self (Some c.args.bytes) c.in_ok-insert.ensures.updates other) in
    let all = updated ∙ found_bytes-update (get_by_text old) bs other c.args.bytes in
    let same = ap (λ (m : MemoryFiles). m.entries) c.self.view_is in
    let text = c.in_ok-name.ensures.ok in
    rw (same, text) at all
