use Rattle.std.proofs.Common.{rules, tests, not, nat_eq}
use Rattle.std.proofs.lemmas.Fn.{filter_same}
use Rattle.tiger_base.specs.declared.tenancy.Tenancy.{Tenancy}
use Rattle.run_model.proofs.slots.take_out.Goals as goal

pub returns : goal.returns
returns c = filter_same _ (λ (t : Tenancy). not (nat_eq t.instance.0 c.args.v.0)) _ (λ x b q h. search (rules, tests)) _ _ c.retain.ensures.filtered
