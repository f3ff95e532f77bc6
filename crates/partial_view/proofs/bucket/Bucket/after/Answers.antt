use Rattle.std.proofs.Common.{◌∙◌, ap, sym, Option}
use Rattle.slot_plan.specs.Keys.{Key}
use Rattle.partial_view.specs.Views.{Seen, next_behind}
use Rattle.partial_view.proofs.Laws.{next-first}
use Rattle.partial_view.proofs.Rows.{get-some, get-none}
use Rattle.partial_view.proofs.bucket.Bucket.after.Goals as goal

pub returns-in_err-get : goal.returns-in_err-get
returns-in_err-get c =
    get-none c.lines-lines.result.now c.args.self.now.lines 0 c.from_residual.ensures (c.lines-lines.ensures.lines ∙ ap (λ (s : Seen). s.lines) c.self.view_is) c.in_err-get.ensures.lookup.0
    ∙ sym (ap (λ (o : Option Key). next_behind c.args.self.now.params o c.args.self.now.lines) c.in_default.is ∙ next-first c.args.self.now.params c.args.self.now.lines)

pub returns-in_default : goal.returns-in_default
returns-in_default c =
    get-some c.lines-lines.result.now c.args.self.now.lines 0 _ (c.lines-lines.ensures.lines ∙ ap (λ (s : Seen). s.lines) c.self.view_is) c.in_ok-get.ensures.lookup.0 c.in_ok-get.ensures.lookup.1
    ∙ sym (ap (λ (o : Option Key). next_behind c.args.self.now.params o c.args.self.now.lines) c.in_default.is ∙ next-first c.args.self.now.params c.args.self.now.lines)

pub returns-in_err-get-2 : goal.returns-in_err-get-2
returns-in_err-get-2 c =
    get-none c.lines-lines.result.now c.args.self.now.lines c.row_behind-row.result c.from_residual-in_err-get-2.ensures (c.lines-lines.ensures.lines ∙ ap (λ (s : Seen). s.lines) c.self.view_is) c.in_err-get-2.ensures.lookup.0
    ∙ (c.row_behind-row.ensures ∙ sym (ap (λ (o : Option Key). next_behind c.args.self.now.params o c.args.self.now.lines) c.in-Some.is))

pub returns : goal.returns
returns c =
    get-some c.lines-lines.result.now c.args.self.now.lines c.row_behind-row.result _ (c.lines-lines.ensures.lines ∙ ap (λ (s : Seen). s.lines) c.self.view_is) c.in_ok-get-2.ensures.lookup.0 c.in_ok-get-2.ensures.lookup.1
    ∙ (c.row_behind-row.ensures ∙ sym (ap (λ (o : Option Key). next_behind c.args.self.now.params o c.args.self.now.lines) c.in-Some.is))
