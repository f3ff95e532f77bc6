use Rattle.std.proofs.Common.{◌-◌, length, sym, ap, arith}
use Rattle.std.proofs.lemmas.Option.{get_or_from_slice_get}
use Rattle.cub_rules.specs.declared.parts.KeptPart.{KeptPart}
use Rattle.cub_rules.proofs.parts.top_with.Goals as goal

-- the last top is the latest
pub returns-in-Some-clause-tops : goal.returns-in-Some-clause-tops
returns-in-Some-clause-tops c =
    λ i d l.
    let there = get_or_from_slice_get c.args.items.now (length c.args.items.now - 1) c.in-Some.last.now d (sym c.in-Some.ensures.value) in
    omega (arith, c.requires i (length c.args.items.now - 1) d (omega (arith, l)) (omega (arith, l)), ap (λ (k : KeptPart). k.top) there, c.max.ensures)
