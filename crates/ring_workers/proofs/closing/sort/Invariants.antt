use Rattle.std.proofs.Common.{◌≡◌, ◌+◌, ◌++◌, length}
use Rattle.node_kit.specs.Links.{viewers_of}
use Rattle.ring_workers.specs.Ends.{HasEnd}
use Rattle.ring_workers.specs.Parts.{IsOutOf, IsIntoOf, IsThing}
use Rattle.ring_workers.proofs.closing.sort.Given as goal

abbrev pub invariant-loop-part : goal.invariant-loop-part
invariant-loop-part g l =
    (goal.iterator-loop-part g).can_next l.part-iterator ×
    (goal.iterator-loop-part g).is_finite l.part-iterator ×
    (l.yielded ++ l.part-iterator.rest.items ≡ l.fn.parts.items) ×
    (length l.nodes.items ≡ viewers_of l.links + 1) ×
    (length l.journals.items ≡ viewers_of l.links + 1) ×
    ((k : _) (x : _) → HasEnd l.nodes.items k x → IsThing (λ p. p.nodes.items) l.fn.parts.items k x) ×
    ((k : _) (x : _) → HasEnd l.journals.items k x → IsThing (λ p. p.journals.items) l.fn.parts.items k x) ×
    ((k : _) (e : _) → HasEnd l.outs.items k e → IsOutOf l.fn.parts.items k e) ×
    ((k : _) (e : _) → HasEnd l.ins.items k e → IsIntoOf l.fn.parts.items k e)
