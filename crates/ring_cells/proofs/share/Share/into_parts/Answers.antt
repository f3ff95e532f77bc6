use Rattle.std.proofs.Common.{◌≡◌, false, subst, ap, ◌∙◌}
use Rattle.ring_cells.specs.Cells.{Seen, IsShareOf}
use Rattle.ring_cells.proofs.share.Share.into_parts.Goals as goal

pub returns-clause-kept : goal.returns-clause-kept
returns-clause-kept g c sound =
    let W = g.W.Named in
    let mine : c.self.inside.spoilt ≡ false = ap (λ (q : Seen _ _). q.spoilt) c.self.view_is ∙ sound in
    subst (λ (q : Seen _ _). IsShareOf g.M.Message.note_of g.T.Node.step g.T.Node.stands_at W.course W.opening W.line W.home q) c.self.view_is (c.self.invariant.1 mine)
