use Rattle.std.proofs.Common.{◌∙◌, ℕ, List, drop, ap}
use Rattle.tiger_base.specs.declared.tenancy.PieceState.{PieceState}
use Rattle.mirror_schedule.proofs.Agendas.{others_mapped}
use Rattle.mirror_schedule.proofs.agenda.Agenda.drop_first.Goals as goal

pub returns : goal.returns
returns c =
    others_mapped c.pop_first.result c.self.inside.ranks.keys _ c.pop_first.ensures.removal c.pop_first.ensures.unchanged c.pop_first.ensures.variant
    ∙ ap (λ (xs : List (PieceState × ℕ)). drop 1 xs) c.self.view_is
