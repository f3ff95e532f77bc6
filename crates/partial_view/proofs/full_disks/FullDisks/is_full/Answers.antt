use Rattle.std.proofs.Common.{refl}
use Rattle.std.proofs.lemmas.Bool.{ltb-true}
use Rattle.partial_view.proofs.Frees.{full_before}
use Rattle.partial_view.proofs.full_disks.FullDisks.is_full.Goals as goal

pub returns : goal.returns
returns c = λ early p lines full.
    full_before p lines c.args.disk.0 c.args.reading c.in-Some.known (c.in-Some.ensures p lines full c.in-Some.known refl) (ltb-true _ _ early)
