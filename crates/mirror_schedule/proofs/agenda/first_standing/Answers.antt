use Rattle.std.proofs.Common.{rules, tests, ◌∙◌}
use Rattle.std.proofs.lemmas.Iterator.Consumers.{YieldsList-from_rest}
use Rattle.std.proofs.lemmas.Iterator.Search.{find_from_yields_List}
use Rattle.mirror_schedule.specs.Agendas.{timed_of}
use Rattle.mirror_schedule.specs.Listings.{piece_stands}
use Rattle.mirror_schedule.proofs.agenda.first_standing.Goals as goal

pub returns : goal.returns
returns c =
    c.copied.ensures
    ∙ find_from_yields_List (λ r. piece_stands c.args.rows.now.items (timed_of r)) _ _ c.find.result c.find.ensures.ran (YieldsList-from_rest c.args.ranks.now.keys cc)
    (λ x b q k. search (rules, tests))
