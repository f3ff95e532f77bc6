use Rattle.std.proofs.Common.{◌<◌, length, ap, sym, subst, ◌∙◌, Some}
use Rattle.std.specs.Option.{ForSome}
use Rattle.slot_plan.specs.declared.params.Params.{Params}
use Rattle.slot_plan.specs.Keys.{Key, IsKey}
use Rattle.partial_view.specs.Lines.{key_of}
use Rattle.partial_view.specs.Views.{IsWalk, next_behind}
use Rattle.disk_death.proofs.Turns.{SplitTo, lines_left, split_none, split_on, split_done, fewer_lines}
use Rattle.disk_death.proofs.splitting.split_lines.Goals as goal

pub loop-line-init : goal.loop-line-init
loop-line-init c =
    split_none c.args.site.now.plan.params c.args.site.now.cub.0 c.args.deaths.now c.args.stamp c.args.view.now.lines c.args.remembered.now c.args.out.now c.requires.remembered

pub after-requires : goal.after-requires
after-requires c =
    subst (λ (q : Params). ForSome c.loop-line.last (IsKey q)) (sym c.requires.view) c.loop-line.invariant.valid

pub split_line-requires-clause-key : goal.split_line-requires-clause-key
split_line-requires-clause-key c = subst (λ (q : Params). IsKey q (key_of c.in-Some.line)) c.requires.view c.in-Some.ensures.key

pub split_line-requires-clause-remembered : goal.split_line-requires-clause-remembered
split_line-requires-clause-remembered c = c.loop-line.invariant.plan

pub loop-line-smaller : goal.loop-line-smaller
loop-line-smaller c =
    let p = c.args.site.now.plan.params in
    let xs = c.args.view.now.lines in
    subst (λ (k : Key). length (lines_left p (Some k) xs) < length (lines_left p c.loop-line.last xs)) (sym c.key.ensures)
    (fewer_lines p c.loop-line.last xs c.in-Some.line (subst (λ (q : Params). IsWalk q xs) c.requires.view c.in-Some.ensures.walk)
    (c.in-Some.ensures.next ∙ ap (λ (q : Params). next_behind q c.loop-line.last xs) c.requires.view))

pub loop-line-preserved : goal.loop-line-preserved
loop-line-preserved c =
    let p = c.args.site.now.plan.params in
    let n = c.args.site.now.cub.0 in
    let xs = c.args.view.now.lines in
    subst (λ (k : Key). SplitTo p n c.args.deaths.now c.args.stamp xs c.args.remembered.now c.args.out.now (Some k) c.split_line.new.remembered c.split_line.new.out) (sym c.key.ensures)
    (split_on p n c.args.deaths.now c.args.stamp xs c.args.remembered.now c.args.out.now c.loop-line.last c.loop-line.remembered c.loop-line.out c.loop-line.invariant c.in-Some.line
    c.split_line.new.out c.split_line.new.remembered (subst (λ (q : Params). IsWalk q xs) c.requires.view c.in-Some.ensures.walk)
    (subst (λ (q : Params). IsKey q (key_of c.in-Some.line)) c.requires.view c.in-Some.ensures.key)
    (c.in-Some.ensures.next ∙ ap (λ (q : Params). next_behind q c.loop-line.last xs) c.requires.view) c.in_ok-split_line.ensures)

pub returns : goal.returns
returns c =
    split_done _ _ _ _ _ _ _ _ _ _ c.loop-line.invariant
    (c.in_default.ensures.next ∙ ap (λ (q : Params). next_behind q c.loop-line.last c.args.view.now.lines) c.requires.view)
