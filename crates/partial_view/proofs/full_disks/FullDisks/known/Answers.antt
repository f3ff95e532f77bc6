use Rattle.std.proofs.Common.{◌∙◌, List, Option, ap, sym, subst, arith}
use Rattle.std.specs.List.{find}
use Rattle.std.specs.Option.{ForSome}
use Rattle.partial_view.specs.declared.full_disks.FullDisk.{FullDisk}
use Rattle.partial_view.specs.Free.{IsKnown, is_disk}
use Rattle.partial_view.proofs.Frees.{full_later, known_of}
use Rattle.partial_view.proofs.full_disks.FullDisks.known.Goals as goal

pub returns : goal.returns
returns c = λ p lines full.
    subst (λ (o : Option FullDisk). ForSome o (IsKnown p c.args.disk.0 c.args.reading lines))
    (sym (c.find.ensures ∙ ap (λ (xs : List FullDisk). find (is_disk c.args.disk.0) xs) c.as_slice.ensures.value))
    (known_of p lines c.args.disk.0 c.args.reading c.args.self.now.disks.items (full_later p c.args.reading c.args.self.now lines (omega (arith, c.if-reading-self.false)) full))
