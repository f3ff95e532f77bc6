use Rattle.std.proofs.Common.{rules, tests, not}
use Rattle.std.proofs.lemmas.Fn.{filter_same}
use Rattle.cub_rules.specs.declared.parts.KeptPart.{KeptPart}
use Rattle.cub_rules.specs.Messages.{is_piece_part}
use Rattle.cub_rules.proofs.parts.drop_pieces.Goals as goal

pub returns : goal.returns
returns c = filter_same _ (λ (k : KeptPart). not (is_piece_part c.args.instance c.args.visit k.stored)) _ (λ x b q h. search (rules, tests)) _ _ c.retain.ensures.filtered
