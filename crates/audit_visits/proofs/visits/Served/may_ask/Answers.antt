use Rattle.std.proofs.Common.{ℕ, Bool, not, ◌&&◌, ◌||◌, ap, ◌∙◌}
use Rattle.std.specs.Prelude.{◌==◌}
use Rattle.tiger_base.specs.declared.tenancy.Want.{Want}
use Rattle.audit_frame.specs.Tables.{has_number}
use Rattle.audit_frame.specs.Wanted.{has_want}
use Rattle.audit_visits.specs.Once.{read_of}
use Rattle.audit_visits.proofs.visits.Served.may_ask.Goals as goal

pub returns : goal.returns
returns c =
    let want = c.args.want.now in
    let asked = c.args.self.now.asked in
    let again = c.has-again.ensures ∙ ap (λ (k : Want). has_want k asked) c.read_of.ensures in
    let dead = c.has-dead.ensures ∙ ap (λ (n : ℕ). has_number n c.args.self.now.dead) c.cub_of.ensures in
    c.is_right_ask.ensures
    ∙ ap (λ (b : Bool). not b && ((want.piece == 0) || c.has-dead.result)) again
    ∙ ap (λ (b : Bool). not (has_want (read_of want) asked) && ((want.piece == 0) || b)) dead
