use Rattle.std.proofs.Common.{ℕ, sym, subst}
use Rattle.partial_view.specs.Free.{IsFull}
use Rattle.partial_view.proofs.Frees.{full_put}
use Rattle.partial_view.proofs.full_disks.FullDisks.take_in.Goals as goal

pub returns : goal.returns
returns c = λ p lines known full.
    full_put p lines c.begin_at.new.self.from c.args.new c.begin_at.new.self.disks.items c.put.new.disks.items c.put.result c.put.ensures.ok c.put.ensures.err
    (c.begin_at.ensures.full p lines known)
    (subst (λ (from : ℕ). IsFull p from lines c.args.new) (sym c.begin_at.ensures.from) full)
