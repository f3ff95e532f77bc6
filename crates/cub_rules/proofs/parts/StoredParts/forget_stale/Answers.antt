use Rattle.std.proofs.Common.{◌≡◌, List, filter, not, ap, subst, sym, ◌∙◌, arith}
use Rattle.std.proofs.lemmas.Bool.{and_parts}
use Rattle.mirror_schedule.specs.Timed.{has_same_times}
use Rattle.cub_rules.specs.declared.parts.KeptPart.{KeptPart}
use Rattle.cub_rules.specs.declared.store.StoredPart.{StoredPart}
use Rattle.cub_rules.specs.Fresh.{AreKept, ArePartsNoted, fresh_parts, is_fresh, is_stale_here}
use Rattle.cub_rules.specs.Ticks.{is_stale}
use Rattle.cub_rules.proofs.Fresh.{fresh-filter, fresh-later, fresh-swept, kept-filter, stale_here}
use Rattle.cub_rules.proofs.Noted.{noted_left}
use Rattle.cub_rules.proofs.parts.StoredParts.forget_stale.Goals.{After-max-self-inside, After-sweep-then-self-len}
use Rattle.cub_rules.proofs.parts.StoredParts.forget_stale.Goals as goal

-- under a plan with other times each stale part is taken out
pub invariant_of-self : goal.invariant_of-self
invariant_of-self c =
    rw (c.forget_stale.ensures, c.sweep.ensures.left) (record {
      kept = kept-filter c.self.inside.plan.params c.self.inside.timed (λ k. not (is_stale_here c.args.plan.now.params c.args.reading k.stored)) _
          (kept-filter c.self.inside.plan.params c.self.inside.timed (is_fresh c.self.inside.forgotten_to) c.self.inside.items.items c.self.invariant.kept);
      noted = noted_left c.self.inside.marks.items (λ k. not (is_stale_here c.args.plan.now.params c.args.reading k.stored)) _
          (noted_left c.self.inside.marks.items (is_fresh c.self.inside.forgotten_to) c.self.inside.items.items c.self.invariant.noted);
    })

pub returns-then-not-are_timed : goal.returns-then-not-are_timed
returns-then-not-are_timed c =
    let swept : fresh_parts c.sweep.new.forgotten_to c.sweep.new.items.items ≡ c.args.self.now =
    rw (c.sweep.ensures.left, c.sweep.ensures.time) (fresh-swept c.self.inside.forgotten_to 0 c.self.inside.items.items (omega arith) ∙ c.self.view_is) in
    ap (λ (ks : List KeptPart). fresh_parts c.sweep.new.forgotten_to ks) c.forget_stale.ensures
    ∙ (fresh-filter (λ x. not (is_stale_here c.args.plan.now.params c.args.reading x)) c.sweep.new.forgotten_to c.sweep.new.items.items
    ∙ (ap (λ (xs : List StoredPart). filter (λ x. not (is_stale_here c.args.plan.now.params c.args.reading x)) xs) swept ∙ stale_here c.args.plan.now.params c.args.reading c.args.self.now c.requires))

-- under one with the same times they are forgotten at once
later : (c : After-max-self-inside) → fresh_parts c.max-self-inside.result c.self.inside.items.items ≡ filter (λ x. not (is_stale c.args.plan.now.params c.args.reading x)) c.args.self.now
later c =
    let both = and_parts c.self.inside.timed (has_same_times c.self.inside.plan.params c.args.plan.now.params) (sym c.are_timed.ensures ∙ c.if-not-are_timed.false) in
    fresh-later c.self.inside.plan.params c.args.plan.now.params c.self.inside.forgotten_to c.args.reading c.max-self-inside.result c.self.inside.items.items both.1 (c.self.invariant.kept.exact both.0) c.max-self-inside.ensures
    ∙ ap (λ (xs : List StoredPart). filter (λ x. not (is_stale c.args.plan.now.params c.args.reading x)) xs) c.self.view_is

pub returns-else-self-len : goal.returns-else-self-len
returns-else-self-len c = later (goal.at.returns-else-self-len c).After-max-self-inside

-- and swept out from time to time
swept : (c : After-sweep-then-self-len) → ArePartsNoted c.self.inside.marks.items c.sweep-then-self-len.new.items.items
swept c =
    subst (λ (ks : List KeptPart). ArePartsNoted c.self.inside.marks.items ks) (sym c.sweep-then-self-len.ensures.left)
    (noted_left c.self.inside.marks.items (is_fresh c.max-self-inside.result) c.self.inside.items.items c.self.invariant.noted)

pub note_again-requires : goal.note_again-requires
note_again-requires c =
    subst (λ (ks : List KeptPart). ArePartsNoted c.self.inside.marks.items ks) (sym c.deref.ensures.value) (swept (goal.at.note_again-requires c).After-sweep-then-self-len)

pub invariant_of-self-then-self-len : goal.invariant_of-self-then-self-len
invariant_of-self-then-self-len c = record {
  kept = subst (λ (ks : List KeptPart). AreKept c.self.inside.plan.params c.self.inside.timed ks) (sym c.sweep-then-self-len.ensures.left)
      (kept-filter c.self.inside.plan.params c.self.inside.timed (is_fresh c.max-self-inside.result) c.self.inside.items.items c.self.invariant.kept);
  noted = subst (λ (ks : List KeptPart). ArePartsNoted c.note_again.new.marks.items ks) c.deref.ensures.value c.note_again.ensures;
}

pub returns-then-self-len : goal.returns-then-self-len
returns-then-self-len c =
    rw (c.sweep-then-self-len.ensures.left, c.sweep-then-self-len.ensures.time)
    (fresh-swept c.max-self-inside.result 0 c.self.inside.items.items (omega arith) ∙ later (goal.at.returns-then-self-len c).After-max-self-inside)
