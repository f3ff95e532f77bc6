use Rattle.std.proofs.Common.{◌≡◌, ℕ, List, map, string_bytes, ap, ◌∙◌}
use Rattle.file_disk.specs.Memory.{MemoryDevice, overwritten}
use Rattle.file_disk.proofs.Written.{AreWrittenAt-overwritten}
use Rattle.file_disk.proofs.mem_device.MemDeviceDevice.write_at.Goals as goal

pub returns-clause-written : goal.returns-clause-written
returns-clause-written c =
    let seen = c.self.view_is ∙ c.next_fails.ensures.rest in
    let at = c.args.at in
    let bytes = c.args.bytes.now in
    let same : c.self.inside.bytes.items ≡ c.args.self.now.bytes = ap (λ (m : MemoryDevice). m.bytes) seen in
    let names : map string_bytes c.self.inside.names.items ≡ c.args.self.now.names = ap (λ (m : MemoryDevice). m.names) seen in
    let faults : c.self.inside.faults ≡ c.args.self.now.faults = ap (λ (m : MemoryDevice). m.faults) seen in
    let reads : c.self.inside.reads ≡ c.args.self.now.reads = ap (λ (m : MemoryDevice). m.reads) seen in
    let refusals : c.self.inside.refusals ≡ c.args.self.now.refusals = ap (λ (m : MemoryDevice). m.refusals) seen in
    let put : c.overwrite.new.told.items ≡ overwritten c.args.self.now.bytes at bytes =
    c.in_ok-overwrite.ensures.ok ∙ ap (λ (told : List ℕ). overwritten told at bytes) same in
    AreWrittenAt-overwritten c.args.self.now.bytes c.overwrite.new.told.items c.args.self.now.names (map string_bytes c.self.inside.names.items) c.args.self.now.faults c.self.inside.faults c.args.self.now.reads c.self.inside.reads c.args.self.now.refusals c.self.inside.refusals at bytes put names faults reads refusals
