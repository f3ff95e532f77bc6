use Rattle.std.proofs.Common.{◌≡◌, ◌∙◌, sym, ap, subst, Option, option_map}
use Rattle.std.proofs.lemmas.Bool.{ltb-true, ltb-false}
use Rattle.slot_plan.specs.Keys.{Key, due_of}
use Rattle.partial_view.specs.declared.turn.Found.{Found}
use Rattle.partial_view.specs.Lines.{key_of}
use Rattle.partial_view.specs.Wheel.{IsTurnOf}
use Rattle.partial_view.proofs.Rounds.{bucket-is, line-in, line-is, line-past, is-there}
use Rattle.partial_view.proofs.wheel.find.Goals as goal

pub returns-in_err-bucket-clause-line : goal.returns-in_err-bucket-clause-line
returns-in_err-bucket-clause-line c =
    ap (λ (o : Option Found). option_map (λ (f : Found). f.line) o) c.from_residual.ensures
    ∙ sym (line-past c.args.plan.now.params c.args.buckets.now c.args.key c.requires.wheel (bucket-is c.args.plan.now.params c.args.key c.of-turn.ensures.bucket c.requires.due) (ltb-false _ _ (sym c.in_err-bucket.ensures.lookup.0)))

pub returns-in_err-row-clause-line : goal.returns-in_err-row-clause-line
returns-in_err-row-clause-line c =
    ap (λ (o : Option Found). option_map (λ (f : Found). f.line) o) c.from_residual-in_err-row.ensures
    ∙ (sym c.in_err-row.ensures
    ∙ line-in c.args.plan.now.params c.args.buckets.now c.of-turn.result.bucket c.in_ok-bucket.bucket.now c.requires.wheel (ltb-true _ _ (sym c.in_ok-bucket.ensures.lookup.0)) c.in_ok-bucket.ensures.lookup.1 c.args.key
    (bucket-is c.args.plan.now.params c.args.key c.of-turn.ensures.bucket c.requires.due))

pub returns-clause-line : goal.returns-clause-line
returns-clause-line c =
    sym c.found_at.ensures.line
    ∙ (c.in_ok-row.ensures.1
    ∙ line-in c.args.plan.now.params c.args.buckets.now c.of-turn.result.bucket c.in_ok-bucket.bucket.now c.requires.wheel (ltb-true _ _ (sym c.in_ok-bucket.ensures.lookup.0)) c.in_ok-bucket.ensures.lookup.1 c.args.key
    (bucket-is c.args.plan.now.params c.args.key c.of-turn.ensures.bucket c.requires.due))

pub returns-clause-there : goal.returns-clause-there
returns-clause-there c =
    let key : key_of c.found_at.result.line ≡ c.args.key = line-is c.args.key c.in_ok-bucket.bucket.now.lines c.found_at.result.line (sym c.in_ok-row.ensures.1 ∙ c.found_at.ensures.line) in
    let is_due : c.args.due ≡ due_of c.args.plan.now.params (key_of c.found_at.result.line) = c.requires.due ∙ ap (λ (k : Key). due_of c.args.plan.now.params k) (sym key) in
    is-there c.args.plan.now.params c.args.buckets.now c.in_ok-bucket.bucket.now c.found_at.result c.of-turn.result c.in_ok-row.row c.requires.wheel (ltb-true _ _ (sym c.in_ok-bucket.ensures.lookup.0)) c.in_ok-bucket.ensures.lookup.1 c.found_at.ensures.place
    c.found_at.ensures.line c.found_at.ensures.due (subst (λ n. IsTurnOf c.args.plan.now.params n c.of-turn.result) is_due c.of-turn.ensures.turn)
