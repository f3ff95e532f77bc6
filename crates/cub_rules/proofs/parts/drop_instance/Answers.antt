use Rattle.std.proofs.Common.{rules, tests, not}
use Rattle.std.proofs.lemmas.Fn.{filter_same}
use Rattle.cub_rules.specs.declared.parts.KeptPart.{KeptPart}
use Rattle.cub_rules.specs.Records.{is_part_of}
use Rattle.cub_rules.proofs.parts.drop_instance.Goals as goal

pub returns : goal.returns
returns c = filter_same _ (λ (k : KeptPart). not (is_part_of c.args.instance k.stored)) _ (λ x b q h. search (rules, tests)) _ _ c.retain.ensures.filtered
