use Rattle.std.proofs.Common.{◌&&◌, ◌∙◌, ℕ, Option, ap, find, sym}
use Rattle.tiger_base.specs.declared.tenancy.PieceState.{PieceState}
use Rattle.mirror_schedule.specs.Agendas.{timed_of}
use Rattle.mirror_schedule.specs.Listings.{piece_stands}
use Rattle.mirror_schedule.specs.TimedPieces.{timed_behind}
use Rattle.mirror_schedule.proofs.agenda.next_standing.Goals as goal

pub returns-in-Some : goal.returns-in-Some
returns-in-Some c =
    c.standing_behind.ensures
    ∙ ap (λ (o : Option (PieceState × ℕ)). find (λ r. timed_behind o (timed_of r) && piece_stands c.args.rows.now.items (timed_of r)) c.args.ranks.now.keys) (sym c.in-Some.is)

pub returns-in-None : goal.returns-in-None
returns-in-None c =
    c.first_standing.ensures
    ∙ ap (λ (o : Option (PieceState × ℕ)). find (λ r. timed_behind o (timed_of r) && piece_stands c.args.rows.now.items (timed_of r)) c.args.ranks.now.keys) (sym c.in-None.is)
