use Rattle.std.proofs.Common.{◌++◌, ◌∙◌, ap, option_to_list}
use Rattle.ring_workers.proofs.Opening.{new-last}
use Rattle.ring_workers.proofs.ends.next_ends.Goals as goal

pub returns-clause-ends : goal.returns-clause-ends
returns-clause-ends g c =
    (new-last c.args.opened.now.items c.pop.new.self.items (c.in_ok-out.out, c.in_ok-out.into)
    (c.pop.ensures.items ∙ ap (λ o. c.pop.new.self.items ++ option_to_list o) c.in_ok-out.ensures.ok_part) c.requires).1

pub returns-clause-left : goal.returns-clause-left
returns-clause-left g c =
    (new-last c.args.opened.now.items c.pop.new.self.items (c.in_ok-out.out, c.in_ok-out.into)
    (c.pop.ensures.items ∙ ap (λ o. c.pop.new.self.items ++ option_to_list o) c.in_ok-out.ensures.ok_part) c.requires).0
