use Rattle.std.proofs.Common.{Some, true, ◌≡◌, ◌∙◌, ℕ, ◌+◌, ◌-◌, false, refl, sym, subst}
use Rattle.std.specs.Prelude.{find}
use Rattle.std.specs.List.{range_with_len}
use Rattle.net_schedule.specs.Cubs.{is_asked}
use Rattle.net_schedule.specs.Worlds.{WorldState, cub_at, asked_at}
use Rattle.net_schedule.proofs.Worldly.{asked_step, asked_here}
use Rattle.net_schedule.proofs.world.NetWorld.asked_at.Goals as goal

pub loop-c-preserved : goal.loop-c-preserved
loop-c-preserved c =
    let w : WorldState = record { ring = c.self.inside.ring; cubs = c.self.inside.cubs.items; sent = c.self.inside.sent.items; events = c.self.inside.events.items } in
    let before = subst (λ (y : WorldState). find (λ (n : ℕ). is_asked (cub_at y n).own c.args.v) (range_with_len c.loop-c.c (c.self.inside.ring.cubs - c.loop-c.c)) ≡ asked_at y c.args.v) (sym c.self.view_is) c.loop-c.invariant in
    let no : is_asked c.index.result.now.own c.args.v ≡ false = sym c.is_asked.ensures ∙ c.if-is_asked.false in
    subst (λ (y : WorldState). find (λ (n : ℕ). is_asked (cub_at y n).own c.args.v) (range_with_len (c.loop-c.c + 1) (c.self.inside.ring.cubs - (c.loop-c.c + 1))) ≡ asked_at y c.args.v) c.self.view_is
    (asked_step w c.args.v c.loop-c.c c.self.inside.ring.cubs c.index.result.now (asked_at w c.args.v) c.self.invariant c.loop-c-test.true refl c.index.ensures no before)

pub returns-then-is_asked-clause-cub : goal.returns-then-is_asked-clause-cub
returns-then-is_asked-clause-cub c =
    let w : WorldState = record { ring = c.self.inside.ring; cubs = c.self.inside.cubs.items; sent = c.self.inside.sent.items; events = c.self.inside.events.items } in
    let before = subst (λ (y : WorldState). find (λ (n : ℕ). is_asked (cub_at y n).own c.args.v) (range_with_len c.loop-c.c (c.self.inside.ring.cubs - c.loop-c.c)) ≡ asked_at y c.args.v) (sym c.self.view_is) c.loop-c.invariant in
    let asked : is_asked c.index.result.now.own c.args.v ≡ true = sym c.is_asked.ensures ∙ c.if-is_asked.true in
    subst (λ (y : WorldState). Some c.loop-c.c ≡ asked_at y c.args.v) c.self.view_is
    (asked_here w c.args.v c.loop-c.c c.self.inside.ring.cubs c.index.result.now (asked_at w c.args.v) c.self.invariant c.loop-c-test.true refl c.index.ensures asked before)
