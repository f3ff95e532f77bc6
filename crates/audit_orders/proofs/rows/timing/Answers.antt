use Rattle.std.proofs.Common.{◌≡◌, [], ◌∷◌, List, ◌++◌, take, Some, refl, sym, subst, arith}
use Rattle.node_kit.specs.declared.journal.Entry.{Entry}
use Rattle.run_model.proofs.OnSamples.{on_samples}
use Rattle.run_model.proofs.Timely.{timed}
use Rattle.run_model.specs.Samples.{dies, kept, of_none}
use Rattle.audit_orders.specs.Breaches.{CanGoOn}
use Rattle.audit_orders.specs.Samples.{writes}
use Rattle.audit_orders.specs.Timing.{IsTimedIn}
use Rattle.audit_orders.proofs.rows.timing.Goals as goal

pub returns-clause-in_time : goal.returns-clause-in_time
unfolding on_samples
returns-clause-in_time c k plan = (timed _).0 refl

pub returns-clause-late : goal.returns-clause-late
unfolding on_samples
returns-clause-late c k plan = record {
  lower = λ m journal low at. absurd (omega (arith, low));
  journal = (writes 2 20000).entry ∷ (writes 3 34001).entry ∷ (writes 4 40000).entry ∷ [];
  here = refl;
  flawed = record {
    inside = omega arith;
    before = (
      [],
      record {
        reads = (record { low = omega arith; high = omega arith }, tt);
        rising = (tt, tt);
        early = (omega arith, tt);
        death = (refl, tt);
      },
    );
    with_it = λ more. let high = more.1.reads.1.0.high in omega (arith, high);
  };
}

-- what stands before the last entry breaks the claim already
pub returns-clause-not_the_next : goal.returns-clause-not_the_next
unfolding on_samples
returns-clause-not_the_next c k plan h =
    let all = (writes 2 20000).entry ∷ (writes 3 34001).entry ∷ (writes 4 40000).entry ∷ [] in
    let some : Some all ≡ Some h.journal = h.here in
    let same : all ≡ h.journal = cc in
    let more = subst
    (λ (j : List Entry). CanGoOn (IsTimedIn (kept k plan 10 of_none [] (writes 2 20000 ∷ writes 3 34001 ∷ writes 4 40000 ∷ [])).course 0) (take 2 j))
    (sym same) h.flawed.before in
    let high = more.1.reads.1.0.high in
    omega (arith, high)

nobody : (before : List Entry) (last : Entry) (later : List Entry) → [] ≡ before ++ last ∷ later → ⊥
nobody [] last later e = absurd (cc)
nobody (x ∷ xs) last later e = absurd (cc)

pub returns-clause-no_death : goal.returns-clause-no_death
unfolding on_samples
returns-clause-no_death c k plan = record {
  lower = λ m journal low at. absurd (omega (arith, low));
  journal = [];
  here = refl;
  flawed = record {
    more = (
      (dies 0 4).entry ∷ [],
      record {
        reads = (record { low = omega arith; high = omega arith }, tt);
        rising = (tt, tt);
        early = (omega arith, tt);
        death = record {
          before = [];
          last = (dies 0 4).entry;
          later = [];
          all = refl;
          died = refl;
          in_beat = refl;
          alone = tt;
          back = refl;
        };
      },
    );
    not_yet = λ timed. nobody timed.death.before timed.death.last timed.death.later timed.death.all;
  };
}
