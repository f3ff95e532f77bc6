use Rattle.std.proofs.Common.{◌≡◌, ◌-◌, ◌≤◌, [], length}
use Rattle.ring_engine.proofs.Reaching.{Reach}
use Rattle.ring_engine.proofs.passing.pass_from.Given as goal

-- the nodes below n have had their turns
abbrev pub invariant-loop-n : goal.invariant-loop-n
invariant-loop-n g l = record {
  reach : Reach g.M.Message.note_of g.T.Node.step g.T.Node.stands_at l.numbers l.dials l.fn.mail.links l.beat l.first l.n
      (record { nodes = l.fn.nodes.items; lives = l.fn.lives.items; journals = l.fn.journals.items; channels = l.fn.mail.channels })
      (record { nodes = l.nodes.items; lives = l.lives.items; journals = l.journals.items; channels = l.mail.channels });
  inside : l.n ≤ length l.numbers;
  links : l.mail.links ≡ l.fn.mail.links;
  outputs : l.outputs ≡ [];
}

abbrev pub decreases-loop-n : goal.decreases-loop-n
decreases-loop-n g l = length l.numbers - l.n
