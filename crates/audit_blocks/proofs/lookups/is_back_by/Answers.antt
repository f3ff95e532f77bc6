use Rattle.std.proofs.Common.{ℕ, ◌+◌, ◌∙◌, ap, List, nat_le}
use Rattle.std.specs.List.{list_any}
use Rattle.audit_blocks.proofs.Bridging.{return_lines}
use Rattle.audit_blocks.proofs.lookups.is_back_by.Goals as goal

pub returns : goal.returns
returns c =
    let k = c.args.k.now in
    let test = λ (r : ℕ). nat_le (r + c.args.span) c.args.time in
    c.some_back.ensures
    ∙ (ap (λ (rs : List ℕ). list_any test rs) (c.under.ensures ∙ c.requires.told.returned c.args.node)
    ∙ return_lines c.args.node test k.journals)
