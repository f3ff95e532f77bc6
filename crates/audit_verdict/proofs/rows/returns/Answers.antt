use Rattle.std.proofs.Common.{[], ◌∷◌, Some, None, inl, refl}
use Rattle.run_model.specs.Samples.{is_back, dies, dying, kept_of_lives, of_none}
use Rattle.audit_orders.specs.declared.timing.Untimed.TheVariants as untimed
use Rattle.audit_orders.proofs.Denying.{untimed_denies}
use Rattle.audit_verdict.proofs.Silent.{carried_before}
use Rattle.audit_verdict.proofs.rows.returns.Goals as goal

pub returns-clause-late : goal.returns-clause-late
returns-clause-late c k plan =
    let run = kept_of_lives k plan 10 (dying (Some 4) None None) of_none (dying (Some 6) None None) [] (dies 0 4 ∷ is_back 0 7 ∷ []) in
    let here = c.returns.ensures.late k plan in
    record {
      lower = carried_before run refl;
      broken = λ h. untimed_denies run (untimed.Return (record { 0 = 0 }) 1) here h.0;
      where_it_is = inl (untimed.Return (record { 0 = 0 }) 1, refl, here);
    }

pub returns-clause-missing : goal.returns-clause-missing
returns-clause-missing c k plan =
    let run = kept_of_lives k plan 10 (dying (Some 4) None None) of_none (dying (Some 6) None None) [] (dies 0 4 ∷ []) in
    let here = c.returns.ensures.missing k plan in
    record {
      lower = carried_before run refl;
      broken = λ h. untimed_denies run (untimed.Return (record { 0 = 0 }) 0) here h.0;
      where_it_is = inl (untimed.Return (record { 0 = 0 }) 0, refl, here);
    }
