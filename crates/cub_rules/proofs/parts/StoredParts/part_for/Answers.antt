use Rattle.std.proofs.Common.{◌≡◌, ◌≤◌, ◌&&◌, true, List, refl, sym, ap, subst, ◌∙◌}
use Rattle.std.specs.List.{All}
use Rattle.tiger_base.specs.Records.{same_want}
use Rattle.cub_rules.specs.declared.parts.KeptPart.{KeptPart}
use Rattle.cub_rules.specs.declared.store.StoredPart.{StoredPart}
use Rattle.cub_rules.specs.Fresh.{first_part, is_fresh}
use Rattle.cub_rules.specs.Records.{stored_for}
use Rattle.cub_rules.proofs.Finding.{found_fresh, found_in_time, none_in_time, tops_of}
use Rattle.cub_rules.proofs.parts.StoredParts.part_for.Goals as goal

-- all that are not forgotten are looked through
pub returns-then-not-self : goal.returns-then-not-self
returns-then-not-self c =
    let test : KeptPart → _ = λ k. is_fresh c.self.inside.forgotten_to k && same_want c.args.want k.stored.want in
    c.find_fresh.ensures
    ∙ (ap (λ (ks : List KeptPart). first_part test ks) c.deref.ensures.value
    ∙ (found_fresh c.args.want c.self.inside.forgotten_to test c.self.inside.items.items (λ i d l. refl) ∙ ap (λ (xs : List StoredPart). stored_for c.args.want xs) c.self.view_is))

-- of those that are searched in the order of their tops
pub find_by_leaving-requires-clause-above : goal.find_by_leaving-requires-clause-above
find_by_leaving-requires-clause-above c =
    subst (λ (ks : List KeptPart). All (λ (k : KeptPart). same_want c.args.want k.stored.want ≡ true → c.leaving_of-leaving.result ≤ k.top) ks) (sym c.deref-then-self-end.ensures.value)
    (tops_of c.self.inside.plan.params c.args.want c.self.inside.items.items (c.self.invariant.kept.exact c.if-not-self.false) c.leaving_of-leaving.result c.leaving_of-leaving.ensures)

-- the first for the want is not forgotten
pub returns-then-self-end : goal.returns-then-self-end
returns-then-self-end c =
    let test : KeptPart → _ = λ k. same_want c.args.want k.stored.want in
    c.find_by_leaving.ensures
    ∙ (ap (λ (ks : List KeptPart). first_part test ks) c.deref-then-self-end.ensures.value
    ∙ (found_in_time c.self.inside.plan.params c.args.want c.self.inside.items.items (c.self.invariant.kept.exact c.if-not-self.false) c.end_of-end.result c.self.inside.forgotten_to c.end_of-end.ensures.end c.if-self-end.true
    ∙ ap (λ (xs : List StoredPart). stored_for c.args.want xs) c.self.view_is))

-- none is left whose end is so early
pub returns-else-self-end : goal.returns-else-self-end
returns-else-self-end c =
    none_in_time c.self.inside.plan.params c.args.want c.self.inside.items.items (c.self.invariant.kept.exact c.if-not-self.false) c.end_of-end.result c.self.inside.forgotten_to c.end_of-end.ensures.end c.if-self-end.false
    ∙ ap (λ (xs : List StoredPart). stored_for c.args.want xs) c.self.view_is
