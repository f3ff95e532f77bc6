use Rattle.std.proofs.Common.{refl, sym, ◌∙◌, ap, ◌++◌, ◌∷◌, []}
use Rattle.std.proofs.lemmas.Bool.{false≢true}
use Rattle.ring_workers.proofs.rows.add_entrance.Goals as goal

pub returns-then-not-wanted-clause-added : goal.returns-then-not-wanted-clause-added
returns-then-not-wanted-clause-added g c = record { none = λ f. refl; one = λ t. absurd (false≢true (sym c.if-not-wanted.true ∙ t)) }

pub returns-clause-added : goal.returns-clause-added
returns-clause-added g c = record {
  none = λ f. absurd (false≢true (sym f ∙ c.if-not-wanted.false));
  one = λ t. (c.in_ok-end.end, c.in_ok-end.ensures.took, c.in_ok-push.ensures.items ∙ ap (λ p. c.args.ports.now.items ++ p ∷ []) c.new.ensures);
}
