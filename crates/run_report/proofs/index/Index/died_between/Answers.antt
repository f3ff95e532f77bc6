use Rattle.std.proofs.Common.{◌≡◌, ◌<◌, ◌∙◌, sym, ap, subst}
use Rattle.std.specs.List.{list_any}
use Rattle.run_model.specs.Tests.{died_between}
use Rattle.run_model.specs.Served.{journal_at}
use Rattle.run_report.specs.Tables.{Run}
use Rattle.run_report.proofs.Came.{is_about, about_node, no_node}
use Rattle.run_report.proofs.index.Index.died_between.Goals as goal

pub returns-in-Some : goal.returns-in-Some
returns-in-Some c =
    let i = c.self.inside in
    let p = i.course.now.plan.params in
    let lt : c.args.cub.0 < p.cubs = subst (λ (r : Run). c.args.cub.0 < r.course.plan.params.cubs) (sym c.self.view_is) c.requires.cub in
    subst (λ (r : Run). c.some_between.result ≡ died_between r.course.plan.params c.args.span c.args.time c.args.end (journal_at r.journals c.args.cub.0)) c.self.view_is
    (c.some_between.ensures
    ∙ (ap (list_any (is_about p c.args.span c.args.time c.args.end)) c.as_slice.ensures
    ∙ about_node p i.journals.now p.cubs c.args.cub.0 c.args.span c.args.time c.args.end i.deaths c.in-Some.deaths.now c.self.invariant.death lt (sym c.in-Some.ensures)))

pub returns-in-None : goal.returns-in-None
returns-in-None c =
    let i = c.self.inside in
    let p = i.course.now.plan.params in
    let lt : c.args.cub.0 < p.cubs = subst (λ (r : Run). c.args.cub.0 < r.course.plan.params.cubs) (sym c.self.view_is) c.requires.cub in
    absurd (no_node i.journals.now p.cubs c.args.cub.0 i.deaths c.self.invariant.death lt (sym c.in-None.ensures))
