use Rattle.std.proofs.Common.{◌∙◌, ◌&&◌, ℕ, List, Option, Some, ap, find, option_map}
use Rattle.tiger_base.specs.declared.tenancy.PieceState.{PieceState}
use Rattle.mirror_schedule.specs.Agendas.{timed_of}
use Rattle.mirror_schedule.specs.Listings.{piece_stands}
use Rattle.mirror_schedule.specs.TimedPieces.{timed_behind}
use Rattle.mirror_schedule.specs.declared.agenda.Rank.{Rank}
use Rattle.mirror_schedule.proofs.Agendas.{find_mapped}
use Rattle.mirror_schedule.proofs.agenda.Agenda.next_standing.Goals as goal

pub returns-in-Some : goal.returns-in-Some
returns-in-Some c =
    ap (λ (x : PieceState × ℕ). Some x) c.timed_of.ensures
    ∙ (ap (λ (o : Option Rank). option_map timed_of o) c.in-Some.ensures
    ∙ (find_mapped timed_of (λ x. timed_behind c.args.given x && piece_stands c.args.rows.now.items x) c.self.inside.ranks.keys
    ∙ ap (λ (xs : List (PieceState × ℕ)). find (λ x. timed_behind c.args.given x && piece_stands c.args.rows.now.items x) xs) c.self.view_is))

pub returns-in-None : goal.returns-in-None
returns-in-None c =
    ap (λ (o : Option Rank). option_map timed_of o) c.in-None.ensures
    ∙ (find_mapped timed_of (λ x. timed_behind c.args.given x && piece_stands c.args.rows.now.items x) c.self.inside.ranks.keys
    ∙ ap (λ (xs : List (PieceState × ℕ)). find (λ x. timed_behind c.args.given x && piece_stands c.args.rows.now.items x) xs) c.self.view_is)
