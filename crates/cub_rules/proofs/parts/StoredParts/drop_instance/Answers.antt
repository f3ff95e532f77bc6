use Rattle.std.proofs.Common.{List, filter, not, ap, subst, sym, ◌∙◌}
use Rattle.std.proofs.lemmas.Bool.{not-true, not_from_false}
use Rattle.cub_rules.specs.declared.parts.KeptPart.{KeptPart}
use Rattle.cub_rules.specs.declared.store.StoredPart.{StoredPart}
use Rattle.cub_rules.specs.Fresh.{AreKept, ArePartsNoted, fresh_parts}
use Rattle.cub_rules.specs.Records.{is_part_of}
use Rattle.cub_rules.proofs.Fresh.{fresh-filter, kept-filter}
use Rattle.cub_rules.proofs.Noted.{all_stay, noted_without}
use Rattle.cub_rules.proofs.parts.StoredParts.drop_instance.Goals as goal

pub invariant_of-self : goal.invariant_of-self
invariant_of-self c = record {
  kept = subst (λ (ks : List KeptPart). AreKept c.self.inside.plan.params c.self.inside.timed ks) (sym c.drop_instance.ensures)
      (kept-filter c.self.inside.plan.params c.self.inside.timed (λ k. not (is_part_of c.args.instance k.stored)) c.self.inside.items.items c.self.invariant.kept);
  noted = subst (λ (ks : List KeptPart). ArePartsNoted c.forget.new.marks.items ks) (sym c.drop_instance.ensures)
      (noted_without c.self.inside.marks.items c.forget.new.marks.items c.args.instance (λ k. not (is_part_of c.args.instance k.stored)) c.self.inside.items.items c.forget.ensures
      (λ k e. not-true (is_part_of c.args.instance k.stored) e) c.self.invariant.noted);
}

pub returns-then-may_be_noted : goal.returns-then-may_be_noted
returns-then-may_be_noted c =
    ap (λ (ks : List KeptPart). fresh_parts c.self.inside.forgotten_to ks) c.drop_instance.ensures
    ∙ (fresh-filter (λ x. not (is_part_of c.args.instance x)) c.self.inside.forgotten_to c.self.inside.items.items
    ∙ ap (λ (xs : List StoredPart). filter (λ x. not (is_part_of c.args.instance x)) xs) c.self.view_is)

pub returns-else-may_be_noted : goal.returns-else-may_be_noted
returns-else-may_be_noted c =
    sym c.self.view_is
    ∙ (all_stay c.self.inside.marks.items c.args.instance (λ x. not (is_part_of c.args.instance x)) c.self.inside.forgotten_to c.self.inside.items.items (c.may_be_noted.ensures c.if-may_be_noted.false)
    (λ x e. not_from_false (is_part_of c.args.instance x) e) c.self.invariant.noted
    ∙ ap (λ (xs : List StoredPart). filter (λ x. not (is_part_of c.args.instance x)) xs) c.self.view_is)
