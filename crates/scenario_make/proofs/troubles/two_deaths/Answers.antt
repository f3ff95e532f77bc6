use Rattle.std.proofs.Common.{◌≡◌, sym, ap, ◌∙◌, arith}
use Rattle.scenario_make.specs.Troubles.{two_deaths}
use Rattle.scenario_make.proofs.Growing.{two_deaths-none, two_deaths-step}
use Rattle.scenario_make.proofs.troubles.two_deaths.Goals as goal

pub loop-cub-init : goal.loop-cub-init
loop-cub-init c = c.new-deaths.ensures.items ∙ sym (two_deaths-none c.args.first c.args.second)

pub loop-cub-preserved : goal.loop-cub-preserved
loop-cub-preserved c =
    two_deaths-step c.args.first c.args.second c.loop-cub.cub c.death_among.result c.loop-cub.deaths.items c.push.new.self.items
    c.loop-cub.invariant c.death_among.ensures c.in_ok-push.ensures.items

pub returns : goal.returns
returns c =
    let all : c.loop-cub.cub ≡ c.args.cubs = omega arith in
    c.new.ensures ∙ c.loop-cub.invariant ∙ ap (two_deaths c.args.first c.args.second) all
