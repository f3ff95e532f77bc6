use Rattle.std.proofs.Common.{◌≡◌, ◌<◌, ◌++◌, ◌∷◌, [], List, ap, subst, sym, ◌∙◌, arith, ◌≤◌}
use Rattle.std.specs.List.{All}
use Rattle.std.specs.List.Sorted.{IsNonDecreasingBy}
use Rattle.std.proofs.lemmas.Result.{err_from_is_err_and}
use Rattle.instance_marks.specs.Marks.{IsNoted}
use Rattle.cub_rules.specs.declared.parts.KeptPart.{KeptPart}
use Rattle.cub_rules.specs.declared.store.StoredPart.{StoredPart}
use Rattle.cub_rules.specs.Fresh.{AreKept, ArePartsNoted, fresh_parts}
use Rattle.cub_rules.proofs.Fresh.{fresh-push, fresh-swept, kept-filter, kept-push}
use Rattle.cub_rules.specs.Fresh.{is_fresh}
use Rattle.cub_rules.proofs.Noted.{noted_left, noted_still, noted_with}
use Rattle.cub_rules.proofs.parts.StoredParts.push.Goals.{then-end-self, else-end-self, After-deref}
use Rattle.cub_rules.proofs.parts.StoredParts.push.Goals as goal

-- the new part will not be forgotten as soon as it comes, and the others are seen as before
ready : (c : After-deref)
    → AreKept c.if-end-self.self-inside.plan.params c.if-end-self.self-inside.timed c.if-end-self.self-inside.items.items
    × ArePartsNoted c.if-end-self.self-inside.marks.items c.if-end-self.self-inside.items.items
    × (fresh_parts c.if-end-self.self-inside.forgotten_to c.if-end-self.self-inside.items.items ≡ c.args.self.now)
    × (c.if-end-self.self-inside.forgotten_to < c.end_of-end.result)
    × IsNoted c.if-end-self.self-inside.marks.items c.args.stored.want.instance
ready c =
    elim c.if-end-self.branch [
      | then-end-self w ↦
          rw (w.self-inside-is, w.sweep.ensures.left, w.sweep.ensures.time) (
            kept-filter c.self.inside.plan.params c.self.inside.timed (is_fresh c.self.inside.forgotten_to) c.self.inside.items.items c.self.invariant.kept,
            noted_left c.note.new.marks.items (is_fresh c.self.inside.forgotten_to) c.self.inside.items.items (noted_still c.self.inside.marks.items c.note.new.marks.items c.self.inside.items.items c.note.ensures.others c.self.invariant.noted),
            fresh-swept c.self.inside.forgotten_to 0 c.self.inside.items.items (omega arith) ∙ c.self.view_is,
            c.end_of-end.ensures.some,
            c.in_ok-note.ensures.noted,
          )
      | else-end-self w ↦ rw w.self-inside-is (
        c.self.invariant.kept,
        noted_still c.self.inside.marks.items c.note.new.marks.items c.self.inside.items.items c.note.ensures.others c.self.invariant.noted,
        c.self.view_is,
        w.if-end-self.false,
        c.in_ok-note.ensures.noted,
      )
    ]

pub top_with-top-requires : goal.top_with-top-requires
top_with-top-requires c =
    subst (λ (ks : List KeptPart). IsNonDecreasingBy (λ (k : KeptPart). k.top) ks) (sym c.deref.ensures.value) (ready (goal.at.top_with-top-requires c).After-deref).0.order

-- without memory for a note
pub invariant_of-self : goal.invariant_of-self
invariant_of-self c = record {
  kept = c.self.invariant.kept;
  noted = noted_still c.self.inside.marks.items c.note.new.marks.items c.self.inside.items.items c.note.ensures.others c.self.invariant.noted;
}

pub invariant_of-self-in_err-push : goal.invariant_of-self-in_err-push
invariant_of-self-in_err-push c =
    let before = ready (goal.at.invariant_of-self-in_err-push c).After-deref in
    rw c.in_err-push.ensures.items (record { kept = before.0; noted = before.1 })

pub returns-in_err-push-clause-err : goal.returns-in_err-push-clause-err
returns-in_err-push-clause-err c =
    let p = err_from_is_err_and c.from_residual-in_err-push.result c.from_residual-in_err-push.ensures.1 in
    rw p.1
    (ap (λ (ks : List KeptPart). fresh_parts c.if-end-self.self-inside.forgotten_to ks) c.in_err-push.ensures.items ∙ (ready (goal.at.returns-in_err-push-clause-err c).After-deref).2)

pub invariant_of-self-2 : goal.invariant_of-self-2
invariant_of-self-2 c =
    let k : KeptPart = record { end = c.end_of-end.result; top = c.top_with-top.result; stored = c.args.stored } in
    let tops = subst (λ (ks : List KeptPart). All (λ (other : KeptPart). other.top ≤ c.top_with-top.result) ks) c.deref.ensures.value c.top_with-top.ensures.tops in
    let before = ready (goal.at.invariant_of-self-2 c).After-deref in
    rw c.in_ok-push.ensures.items (record {
      kept = kept-push c.if-end-self.self-inside.plan.params c.args.plan.now.params c.if-end-self.self-inside.timed _ k c.if-end-self.self-inside.items.items c.stay_timed-self-inside.ensures c.end_of-end.ensures.end (rw (← c.leaving_of.ensures) c.top_with-top.ensures.own) tops before.0;
      noted = noted_with c.if-end-self.self-inside.marks.items k c.if-end-self.self-inside.items.items before.1 before.4;
    })

pub returns-clause-ok : goal.returns-clause-ok
returns-clause-ok c =
    let k : KeptPart = record { end = c.end_of-end.result; top = c.top_with-top.result; stored = c.args.stored } in
    let before = ready (goal.at.returns-clause-ok c).After-deref in
    ap (λ (ks : List KeptPart). fresh_parts c.if-end-self.self-inside.forgotten_to ks) c.in_ok-push.ensures.items
    ∙ (fresh-push c.if-end-self.self-inside.forgotten_to k c.if-end-self.self-inside.items.items before.3 ∙ ap (λ (xs : List StoredPart). xs ++ c.args.stored ∷ []) before.2)
