use Rattle.std.proofs.Common.{◌≡◌, ℕ, ◌+◌, length, Option, subst, sym, ◌∙◌, arith}
use Rattle.std.proofs.lemmas.Bool.{both_ways}
use Rattle.mirror_schedule.specs.Splits.{Split, HasOneOf, IsSoonestOf}
use Rattle.mirror_schedule.proofs.Firsts.{passed_on, taken_on}
use Rattle.mirror_schedule.proofs.Onlys.{beside_first, beside_only, only_all, only_on}
use Rattle.mirror_schedule.proofs.splits.first_of.Goals as goal
use Rattle.mirror_schedule.proofs.splits.first_of.Goals.{then-eq+then-is_sooner, else-eq, else-eq-via-then-eq+else-is_sooner, else-eq-via-else-eq}

pub loop-i-preserved : goal.loop-i-preserved
loop-i-preserved c = record {
  soonest =
      let items = c.args.items.now.items in
      let Now : Option (Split × ℕ) → Type 0 = λ o. IsSoonestOf c.args.instance items (c.loop-i.i + 1) o in
      elim c.if-eq.branch [
        | then-eq+then-is_sooner w ↦ subst Now (sym w.first-is)
            (taken_on c.args.instance items c.loop-i.i c.index.result.now (omega arith) c.index.ensures c.loop-i.first c.loop-i.invariant.soonest (sym c.eq.ensures ∙ w.if-eq.true) (sym w.is_sooner.ensures ∙ w.if-is_sooner.true))
        | else-eq w ↦ subst Now (sym w.first-is)
            (passed_on c.args.instance items c.loop-i.i c.index.result.now (omega arith) c.index.ensures c.loop-i.first c.loop-i.invariant.soonest
            (elim w.else-eq.branch [
              | else-eq-via-then-eq+else-is_sooner v ↦ λ own. sym v.is_sooner.ensures ∙ v.if-is_sooner.false
              | else-eq-via-else-eq v ↦ λ own. absurd (both_ways c.eq.result v.if-eq.false (c.eq.ensures ∙ own))
            ]))
      ];
  only = only_on c.args.instance c.args.items.now.items c.loop-i.i c.index.result.now c.loop-i.first c.loop-i.only c.is_only-only.result (omega arith) c.index.ensures c.loop-i.invariant.soonest c.loop-i.invariant.only c.is_only-only.ensures;
}

pub returns-clause-first : goal.returns-clause-first
returns-clause-first c =
    let all : c.loop-i.i ≡ length c.args.items.now.items = omega arith in
    beside_first c.args.instance c.args.items.now.items (length c.args.items.now.items) c.loop-i.first c.loop-i.only c.beside.result c.beside.ensures
    (subst (λ (n : ℕ). IsSoonestOf c.args.instance c.args.items.now.items n c.loop-i.first) all c.loop-i.invariant.soonest)

pub returns-clause-only : goal.returns-clause-only
returns-clause-only c =
    beside_only (HasOneOf c.args.instance c.args.items.now.items) c.loop-i.first c.loop-i.only c.beside.result c.beside.ensures
    (λ e. only_all c.args.instance c.args.items.now.items c.loop-i.i (omega arith) (c.loop-i.invariant.only e))
