use Rattle.std.proofs.Common.{Bool, false, refl, sym, subst, ◌∙◌, inl}
use Rattle.std.proofs.lemmas.Bool.{both_ways}
use Rattle.run_model.specs.Runs.{TellsReturn}
use Rattle.audit_orders.proofs.Walks.{breach_here, right_more, state_more}
use Rattle.audit_orders.proofs.Untold.{MayFollow, died_next, Closes, return_goes, has_last, return_missing, return_told}
use Rattle.audit_orders.proofs.returning.untold_by.Goals as goal

pub loop-i-init : goal.loop-i-init
loop-i-init c = record { known = refl; right = tt }

pub returns-then-not-may_follow : goal.returns-then-not-may_follow
returns-then-not-may_follow c =
    let beats = c.args.beats in
    let back = c.args.back in
    inl (breach_here (TellsReturn beats back) (MayFollow back) died_next false (Closes beats back) (return_goes beats back)
    c.args.journal.now c.loop-i.i c.entry_at-e.result c.loop-i-test.true c.entry_at-e.ensures c.loop-i.invariant.right
    (λ may. both_ways c.may_follow.result c.if-not-may_follow.true
    (c.may_follow.ensures ∙ subst (λ (d : Bool). MayFollow back d c.entry_at-e.result) (sym c.loop-i.invariant.known) may)))

pub loop-i-preserved : goal.loop-i-preserved
loop-i-preserved c =
    let back = c.args.back in
    let x = c.entry_at-e.result in
    record {
      known = c.is_died-died.ensures
          ∙ sym (state_more died_next false c.args.journal.now c.loop-i.i x c.loop-i-test.true c.entry_at-e.ensures);
      right = right_more (MayFollow back) died_next false c.args.journal.now c.loop-i.i x c.loop-i-test.true
          c.entry_at-e.ensures c.loop-i.invariant.right
          (subst (λ (d : Bool). MayFollow back d x) c.loop-i.invariant.known (sym c.may_follow.ensures ∙ c.if-not-may_follow.false));
    }

pub last_of-requires : goal.last_of-requires
last_of-requires c =
    has_last c.args.beats c.args.back c.args.journal.now c.loop-i.i c.loop-i.died c.is_missing.result c.loop-i-test.false
    c.loop-i.invariant.known c.is_missing.ensures c.if-is_missing.true

pub returns-then-is_missing : goal.returns-then-is_missing
returns-then-is_missing c =
    return_missing c.args.beats c.args.back c.args.journal.now c.loop-i.i c.last_of.result c.loop-i.died c.is_missing.result
    c.loop-i-test.false c.loop-i.invariant.known c.loop-i.invariant.right c.is_missing.ensures c.if-is_missing.true c.last_of.ensures

pub returns : goal.returns
returns c =
    return_told c.args.beats c.args.back c.args.journal.now c.loop-i.i c.loop-i.died c.is_missing.result
    c.loop-i-test.false c.loop-i.invariant.known c.loop-i.invariant.right c.is_missing.ensures c.if-is_missing.false
