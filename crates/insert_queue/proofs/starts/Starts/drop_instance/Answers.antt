use Rattle.std.proofs.Common.{◌≡◌, false}
use Rattle.insert_queue.specs.Queues.{is_asked}
use Rattle.insert_queue.proofs.Kept.{HasNone, has_none, kept_without}
use Rattle.insert_queue.proofs.Once.{has_start-gone, once_back, once_front}
use Rattle.insert_queue.proofs.starts.Starts.drop_instance.Goals as goal
use Rattle.insert_queue.proofs.starts.Starts.drop_instance.Goals.{Then-not-is_asked}

none : (c : Then-not-is_asked) → HasNone c.args.self.now c.args.instance
none c =
    let e : is_asked c.args.self.now c.args.instance ≡ false = cc in
    has_none c.args.self.now.waiting c.args.self.now.redundant c.args.instance e

pub returns-then-not-is_asked-clause-waited : goal.returns-then-not-is_asked-clause-waited
returns-then-not-is_asked-clause-waited c = (none (goal.at.returns-then-not-is_asked-clause-waited c).Then-not-is_asked).waiting

pub returns-then-not-is_asked-clause-redundant : goal.returns-then-not-is_asked-clause-redundant
returns-then-not-is_asked-clause-redundant c = (none (goal.at.returns-then-not-is_asked-clause-redundant c).Then-not-is_asked).redundant

pub returns-then-not-is_asked-clause-after : goal.returns-then-not-is_asked-clause-after
returns-then-not-is_asked-clause-after c = (none (goal.at.returns-then-not-is_asked-clause-after c).Then-not-is_asked).same

pub drop_from-requires : goal.drop_from-requires
drop_from-requires c = once_front c.self.inside.waiting.items c.self.inside.redundant.items c.self.invariant.once

pub drop_from-requires-2 : goal.drop_from-requires-2
drop_from-requires-2 c = once_back c.self.inside.waiting.items c.self.inside.redundant.items c.self.invariant.once

pub invariant_of-self : goal.invariant_of-self
invariant_of-self c =
    kept_without c.self.inside.disks.items c.self.inside.asked.items c.self.inside.waiting.items c.self.inside.redundant.items c.self.invariant
    c.set_mark.new.marks.items _ _ c.args.instance c.set_mark.ensures c.drop_from.ensures.left c.drop_from-2.ensures.left

pub returns-clause-gone : goal.returns-clause-gone
returns-clause-gone c =
    rw (c.drop_from.ensures.left, c.drop_from-2.ensures.left, has_start-gone c.self.inside.waiting.items c.args.instance) (has_start-gone c.self.inside.redundant.items c.args.instance)
