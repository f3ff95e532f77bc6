use Rattle.std.proofs.Common.{◌∙◌, sym, ap, Option, option_map}
use Rattle.std.proofs.lemmas.Bool.{ltb-true, ltb-false}
use Rattle.partial_view.specs.declared.turn.Found.{Found}
use Rattle.partial_view.specs.Wheel.{all_lines}
use Rattle.partial_view.specs.Work.{is_left}
use Rattle.partial_view.proofs.Rounds.{first-missed, first-there, is-there}
use Rattle.partial_view.proofs.Turns.{turn-found}
use Rattle.partial_view.proofs.wheel.first_in_turn.Goals as goal

pub returns-in_err-bucket-clause-first : goal.returns-in_err-bucket-clause-first
returns-in_err-bucket-clause-first c =
    ap (λ (o : Option Found). option_map (λ (f : Found). f.line) o) c.from_residual.ensures
    ∙ first-missed c.args.plan.now.params c.args.buckets.now c.args.near.turn (is_left c.args.work) c.args.from c.args.to c.requires.wheel (ltb-false _ _ (sym c.in_err-bucket.ensures.lookup.0)) c.requires.turn

pub returns-in_err-row-clause-first : goal.returns-in_err-row-clause-first
returns-in_err-row-clause-first c =
    ap (λ (o : Option Found). option_map (λ (f : Found). f.line) o) c.from_residual-in_err-row.ensures
    ∙ (sym c.in_err-row.ensures
    ∙ first-there c.args.plan.now.params c.args.buckets.now c.in_ok-bucket.bucket.now c.args.near.turn (is_left c.args.work) c.args.from c.args.to c.min.result c.requires.wheel (ltb-true _ _ (sym c.in_ok-bucket.ensures.lookup.0))
    c.in_ok-bucket.ensures.lookup.1 c.requires.turn c.min.ensures)

pub returns-clause-first : goal.returns-clause-first
returns-clause-first c =
    sym c.found_at.ensures.line
    ∙ (c.in_ok-row.ensures.1
    ∙ first-there c.args.plan.now.params c.args.buckets.now c.in_ok-bucket.bucket.now c.args.near.turn (is_left c.args.work) c.args.from c.args.to c.min.result c.requires.wheel (ltb-true _ _ (sym c.in_ok-bucket.ensures.lookup.0))
    c.in_ok-bucket.ensures.lookup.1 c.requires.turn c.min.ensures)

pub returns-clause-there : goal.returns-clause-there
returns-clause-there c =
    is-there c.args.plan.now.params c.args.buckets.now c.in_ok-bucket.bucket.now c.found_at.result c.args.near.turn c.in_ok-row.row c.requires.wheel (ltb-true _ _ (sym c.in_ok-bucket.ensures.lookup.0)) c.in_ok-bucket.ensures.lookup.1 c.found_at.ensures.place
    c.found_at.ensures.line c.found_at.ensures.due
    (turn-found c.args.plan.now.params (is_left c.args.work) c.args.near.turn c.args.from c.args.to c.found_at.result.line (all_lines c.args.plan.now.params c.args.buckets.now) c.requires.turn (sym (returns-clause-first c)))
