use Rattle.std.proofs.Common.{◌∙◌, ap, sym, subst, ⊎_elim, arith}
use Rattle.std.specs.Prelude.{slice_get}
use Rattle.node_kit.proofs.Rows.{get-pushed}
use Rattle.tests_of_rings.specs.declared.toys.Toy.{Toy}
use Rattle.tests_of_rings.specs.Toys.{LeadFrom}
use Rattle.tests_of_rings.proofs.toys.toys.Goals as goal

pub loop-node-preserved : goal.loop-node-preserved
loop-node-preserved c =
    let len = c.loop-node.toys.ok.0 in
    let links = c.args.links.now in
    let toy = c.toy_at.result in
    record {
      count = omega (arith, c.in_ok-push.ensures.len, c.loop-node.invariant.count);
      stand = λ n s e. ⊎_elim
          (λ old. c.loop-node.invariant.stand n s old)
          (λ new. subst (λ (t : Toy). LeadFrom links n t.out t.relay) new.1
          (subst (λ m. LeadFrom links m toy.out toy.relay) (sym (new.0 ∙ sym len ∙ c.loop-node.invariant.count)) c.toy_at.ensures))
          (get-pushed c.loop-node.toys.items toy s n (ap (λ q. slice_get q n) (sym c.in_ok-push.ensures.items) ∙ e));
    }
