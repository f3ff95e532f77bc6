use Rattle.std.proofs.Common.{ap, ◌%◌, arith}
use Rattle.partial_view.proofs.Times.{turn-of, turn-least}
use Rattle.partial_view.proofs.turn.Turn.of.Goals as goal

pub returns-clause-turn : goal.returns-clause-turn
returns-clause-turn c =
    let p = c.args.plan.now.params in
    let least = turn-least c.args.time p.play (omega (arith, c.args.plan.now.sound.ranges.play)) in (
      λ d low high. ap (λ n. n % p.cubs) (turn-of c.args.time d p.play (omega (arith, c.args.plan.now.sound.ranges.play)) low (omega (arith, high, c.saturating_add.ensures))),
      least.0,
      omega (arith, least.1, c.saturating_add.ensures, c.ranges.time.fits),
    )
