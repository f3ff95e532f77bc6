use Rattle.std.proofs.Common.{List, filter, not, ◌&&◌, ◌==◌, nat_lt, ap, subst, sym, ◌∙◌}
use Rattle.std.proofs.lemmas.Bool.{and_left, not_from_false}
use Rattle.cub_rules.specs.declared.parts.KeptPart.{KeptPart}
use Rattle.cub_rules.specs.declared.store.StoredPart.{StoredPart}
use Rattle.cub_rules.specs.Fresh.{AreKept, ArePartsNoted, fresh_parts}
use Rattle.cub_rules.specs.Messages.{is_piece_part}
use Rattle.cub_rules.proofs.Fresh.{fresh-filter, kept-filter}
use Rattle.cub_rules.proofs.Noted.{all_stay, noted_left}
use Rattle.cub_rules.proofs.parts.StoredParts.drop_pieces.Goals as goal

pub invariant_of-self : goal.invariant_of-self
invariant_of-self c = record {
  kept = subst (λ (ks : List KeptPart). AreKept c.self.inside.plan.params c.self.inside.timed ks) (sym c.drop_pieces.ensures)
      (kept-filter c.self.inside.plan.params c.self.inside.timed (λ k. not (is_piece_part c.args.instance c.args.visit k.stored)) c.self.inside.items.items c.self.invariant.kept);
  noted = subst (λ (ks : List KeptPart). ArePartsNoted c.self.inside.marks.items ks) (sym c.drop_pieces.ensures)
      (noted_left c.self.inside.marks.items (λ k. not (is_piece_part c.args.instance c.args.visit k.stored)) c.self.inside.items.items c.self.invariant.noted);
}

pub returns-then-may_be_noted : goal.returns-then-may_be_noted
returns-then-may_be_noted c =
    ap (λ (ks : List KeptPart). fresh_parts c.self.inside.forgotten_to ks) c.drop_pieces.ensures
    ∙ (fresh-filter (λ x. not (is_piece_part c.args.instance c.args.visit x)) c.self.inside.forgotten_to c.self.inside.items.items
    ∙ ap (λ (xs : List StoredPart). filter (λ x. not (is_piece_part c.args.instance c.args.visit x)) xs) c.self.view_is)

pub returns-else-may_be_noted : goal.returns-else-may_be_noted
returns-else-may_be_noted c =
    sym c.self.view_is
    ∙ (all_stay c.self.inside.marks.items c.args.instance (λ x. not (is_piece_part c.args.instance c.args.visit x)) c.self.inside.forgotten_to c.self.inside.items.items (c.may_be_noted.ensures c.if-may_be_noted.false)
    (λ x e. not_from_false (is_piece_part c.args.instance c.args.visit x) (and_left (x.want.instance.0 == c.args.instance.0 && x.want.visit == c.args.visit) (nat_lt 0 x.want.piece) (and_left (x.want.instance.0 == c.args.instance.0) (x.want.visit == c.args.visit) e))) c.self.invariant.noted
    ∙ ap (λ (xs : List StoredPart). filter (λ x. not (is_piece_part c.args.instance c.args.visit x)) xs) c.self.view_is)
