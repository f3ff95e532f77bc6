use Rattle.std.proofs.Common.{◌≡◌, ◌++◌, drop, map}
use Rattle.stripe_layout.specs.declared.catalogue.FileInfo.{FileInfo}
use Rattle.audit_text.specs.declared.item.Item.TheVariants as item
use Rattle.audit_text.specs.Texts.{text_in}
use Rattle.audit_text.proofs.text.push_files.Given as goal

-- with what is left, it will be the whole
abbrev pub invariant-loop-f : goal.invariant-loop-f
invariant-loop-f l =
    l.text.items ++ text_in (map (λ (x : FileInfo). item.File x) (drop l.f-index l.files))
    ≡ l.fn.text.items ++ text_in (map (λ (x : FileInfo). item.File x) l.files)
