use Rattle.std.proofs.Common.{◌≡◌, ◌++◌, drop, map}
use Rattle.node_kit.specs.declared.course.Digest32.{Digest32}
use Rattle.audit_text.specs.declared.item.Item.TheVariants as item
use Rattle.audit_text.specs.Texts.{text_in}
use Rattle.audit_text.proofs.text.push_digests.Given as goal

-- with what is left, it will be the whole
abbrev pub invariant-loop-digest : goal.invariant-loop-digest
invariant-loop-digest l =
    l.text.items ++ text_in (map (λ (x : Digest32). item.Digest x) (drop l.digest-index l.digests))
    ≡ l.fn.text.items ++ text_in (map (λ (x : Digest32). item.Digest x) l.digests)
