use Rattle.std.proofs.Common.{arith}
use Rattle.slot_plan.proofs.Turns.{first_from_slot, first_from_turn, turns_small}
use Rattle.slot_plan.proofs.plan.Plan.first_from.Goals as goal

pub returns-then-slot-p-clause-first : goal.returns-then-slot-p-clause-first
returns-then-slot-p-clause-first c =
    first_from_slot c.args.self.now.params c.args.disk.0 _ c.args.time _ _ c.args.self.now.sound.ranges c.requires.disk
    c.from-disk.ensures c.saturating_sub-since.ensures c.div_ceil-slot.ensures c.if-slot-p.true

pub returns-then-slot-p-clause-key : goal.returns-then-slot-p-clause-key
returns-then-slot-p-clause-key c =
    let p = c.args.self.now.params in
    let small = turns_small p c.args.disk.0 c.saturating_sub-since.result c.args.self.now.sound.ranges c.requires.disk (omega arith) in
    (c.if-slot-p.true, omega arith)

pub returns-else-slot-p-clause-first : goal.returns-else-slot-p-clause-first
returns-else-slot-p-clause-first c =
    first_from_turn c.args.self.now.params c.args.disk.0 _ c.args.time _ _ c.args.self.now.sound.ranges c.requires.disk
    c.from-disk.ensures c.saturating_sub-since.ensures c.div_ceil-slot.ensures c.if-slot-p.false

pub returns-else-slot-p-clause-key : goal.returns-else-slot-p-clause-key
returns-else-slot-p-clause-key c =
    let p = c.args.self.now.params in
    let small = turns_small p c.args.disk.0 c.saturating_sub-since.result c.args.self.now.sound.ranges c.requires.disk (omega arith) in
    (omega (arith, c.args.self.now.sound.ranges.slots), omega arith)
