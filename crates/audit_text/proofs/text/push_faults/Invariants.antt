use Rattle.std.proofs.Common.{◌≡◌, ◌++◌, drop, map}
use Rattle.node_kit.specs.declared.course.ReadFault.{ReadFault}
use Rattle.audit_text.specs.declared.item.Item.TheVariants as item
use Rattle.audit_text.specs.Texts.{text_in}
use Rattle.audit_text.proofs.text.push_faults.Given as goal

-- with what is left, it will be the whole
abbrev pub invariant-loop-f : goal.invariant-loop-f
invariant-loop-f l =
    l.text.items ++ text_in (map (λ (x : ReadFault). item.Fault x) (drop l.f-index l.faults))
    ≡ l.fn.text.items ++ text_in (map (λ (x : ReadFault). item.Fault x) l.faults)
