use Rattle.std.proofs.Common.{◌&&◌, rules, tests, ◌∙◌}
use Rattle.std.proofs.lemmas.Iterator.Consumers.{YieldsList-from_rest}
use Rattle.std.proofs.lemmas.Iterator.Search.{find_from_yields_List}
use Rattle.mirror_schedule.specs.Agendas.{timed_of}
use Rattle.mirror_schedule.specs.Listings.{piece_stands}
use Rattle.mirror_schedule.specs.TimedPieces.{timed_before}
use Rattle.mirror_schedule.proofs.Agendas.{found_behind}
use Rattle.mirror_schedule.proofs.agenda.standing_behind.Goals as goal

pub returns : goal.returns
returns c =
    c.copied.ensures
    ∙ (find_from_yields_List (λ r. timed_before c.args.x.now (timed_of r) && piece_stands c.args.rows.now.items (timed_of r)) _ _ c.find.result c.find.ensures.ran (YieldsList-from_rest c.range.result cc)
    (λ x b q k. search (rules, tests))
    ∙ found_behind c.args.x.now (λ r. piece_stands c.args.rows.now.items (timed_of r)) c.rank_of-from.result c.args.ranks.now.keys c.range.result c.rank_of-from.ensures (c.range.ensures.between tt))
