use Rattle.std.proofs.Common.{◌∙◌, ℕ, List, ap, map}
use Rattle.tiger_base.specs.declared.tenancy.PieceState.{PieceState}
use Rattle.mirror_schedule.specs.Agendas.{timed_of}
use Rattle.mirror_schedule.specs.Sorted.{with_one}
use Rattle.mirror_schedule.specs.TimedPieces.{timed_before}
use Rattle.mirror_schedule.specs.declared.agenda.Rank.{Rank}
use Rattle.mirror_schedule.proofs.Agendas.{put_rank}
use Rattle.mirror_schedule.proofs.agenda.Agenda.note.Goals as goal

pub returns-clause-ok : goal.returns-clause-ok
returns-clause-ok c =
    ap (λ (ks : List Rank). map timed_of ks) c.in_ok-insert.ensures.keys
    ∙ (put_rank c.self.inside.ranks.keys c.rank_of.result
    ∙ (ap (λ (r : Rank). with_one timed_before (timed_of r) (map timed_of c.self.inside.ranks.keys)) c.rank_of.ensures
    ∙ ap (λ (xs : List (PieceState × ℕ)). with_one timed_before c.args.x xs) c.self.view_is))
