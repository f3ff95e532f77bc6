use Rattle.std.proofs.Common.{◌≡◌, ℕ, false, List, [], ◌∷◌, ◌++◌, Some, None, refl, sym, ap, ◌∙◌, inl, inr, arith}
use Rattle.std.proofs.lemmas.Bool.{false≢true}
use Rattle.std.specs.List.{AllByRecursion}
use Rattle.slot_plan.specs.Conditions.{IsPlan}
use Rattle.slot_plan.specs.Samples.{small}
use Rattle.node_kit.specs.declared.course.Kept.{Kept}
use Rattle.node_kit.specs.declared.journal.Entry.{Entry}
use Rattle.node_kit.specs.Life.{lifetime_of}
use Rattle.run_facts.specs.Timed.{DieApart, IsUntil, is_died}
use Rattle.run_model.specs.Runs.{TellsReturn}
use Rattle.run_model.specs.Samples.{is_back, dies, dying, kept_of_lives, of_none}
use Rattle.run_model.proofs.OnSamples.{on_samples}
use Rattle.run_model.proofs.Timely.{timed}
use Rattle.audit_orders.specs.Timing.{AreTimedIn, may_come}
use Rattle.audit_orders.proofs.OnRows.{timed_if}
use Rattle.audit_orders.proofs.rows.returns.Goals as goal

pub returns-clause-in_time : goal.returns-clause-in_time
unfolding on_samples
returns-clause-in_time c k plan = (timed _).0 refl

pub returns-clause-behind_the_end : goal.returns-clause-behind_the_end
unfolding on_samples
returns-clause-behind_the_end c k plan = (timed _).0 refl

-- whatever is written, the course lets no two cubs side by side die
apart : (k : Kept) (plan : IsPlan small) → DieApart small (lifetime_of (kept_of_lives k plan 10 (dying (Some 4) None None) of_none (dying (Some 6) None None) [] []).course)
unfolding on_samples
apart k plan = ((timed (kept_of_lives k plan 10 (dying (Some 4) None None) of_none (dying (Some 6) None None) [] (dies 0 4 ∷ is_back 0 6 ∷ []))).0 refl).apart

one_beat : (a b : ℕ) → Some a ≡ Some b → a ≡ b
one_beat a b e = cc

none_of : (n : ℕ) → Some n ≡ None → ⊥
none_of n e = absurd (cc)

told : TellsReturn 10 (Some 6) ((dies 0 4).entry ∷ (is_back 0 6).entry ∷ [])
told = record {
  behind = (refl, (λ t. absurd (false≢true t)), (refl, (λ t. refl), tt));
  comes = λ t. absurd (false≢true t);
}

late_timed : (k : Kept) (plan : IsPlan small)
    → AreTimedIn (kept_of_lives k plan 10 (dying (Some 4) None None) of_none (dying (Some 6) None None) [] []).course (kept_of_lives k plan 10 (dying (Some 4) None None) of_none (dying (Some 6) None None) [] (dies 0 4 ∷ is_back 0 7 ∷ [])).journals
unfolding on_samples may_come
late_timed k plan =
    let run = kept_of_lives k plan 10 (dying (Some 4) None None) of_none (dying (Some 6) None None) [] (dies 0 4 ∷ is_back 0 7 ∷ []) in
    timed_if run.course run.journals refl

missing_timed : (k : Kept) (plan : IsPlan small)
    → AreTimedIn (kept_of_lives k plan 10 (dying (Some 4) None None) of_none (dying (Some 6) None None) [] []).course (kept_of_lives k plan 10 (dying (Some 4) None None) of_none (dying (Some 6) None None) [] (dies 0 4 ∷ [])).journals
unfolding on_samples may_come
missing_timed k plan =
    let run = kept_of_lives k plan 10 (dying (Some 4) None None) of_none (dying (Some 6) None None) [] (dies 0 4 ∷ []) in
    timed_if run.course run.journals refl

pub returns-clause-late : goal.returns-clause-late
returns-clause-late c k plan = (
  late_timed k plan,
  (
    apart k plan,
    record {
      lower = λ m journal low at. absurd (omega (arith, low));
      journal = (dies 0 4).entry ∷ (is_back 0 7).entry ∷ [];
      here = refl;
      untold = inl (record {
        inside = omega arith;
        before = ((is_back 0 6).entry ∷ [], told);
        with_it = λ more. let same = one_beat 6 7 (more.1.behind.2.1 refl) in absurd (omega (arith, same));
      });
    },
  ),
)

pub returns-clause-missing : goal.returns-clause-missing
returns-clause-missing c k plan = (
  missing_timed k plan,
  (
    apart k plan,
    record {
      lower = λ m journal low at. absurd (omega (arith, low));
      journal = (dies 0 4).entry ∷ [];
      here = refl;
      untold = inr (record {
        unfinished = record {
          more = ((is_back 0 6).entry ∷ [], told);
          not_yet = λ claim. none_of 6 (claim.comes refl);
        };
        last = refl;
        dies = refl;
      });
    },
  ),
)

-- nothing stands behind the death of a cub that does not return
behind_it : (before : List Entry) (last : Entry) (later rest : List Entry)
    → (dies 0 4).entry ∷ (is_back 0 6).entry ∷ rest ≡ before ++ last ∷ later
    → AllByRecursion (λ e. (is_died e.what ≡ false) × IsUntil None 4 e.stamp.beat) before → later ≡ [] → ⊥
behind_it [] last later rest all lone back =
    let behind : (is_back 0 6).entry ∷ rest ≡ later = cc in
    let none : (is_back 0 6).entry ∷ rest ≡ [] = behind ∙ back in
    absurd (cc)
behind_it (x ∷ xs) last later rest all lone back =
    let same : (dies 0 4).entry ≡ x = cc in
    false≢true (sym (ap (λ (e : Entry). is_died e.what) same ∙ lone.0.0))

pub returns-clause-unforeseen : goal.returns-clause-unforeseen
unfolding on_samples
returns-clause-unforeseen c k plan = record {
  lower = λ m journal low at. absurd (omega (arith, low));
  journal = (dies 0 4).entry ∷ (is_back 0 6).entry ∷ [];
  here = refl;
  flawed = record {
    inside = omega arith;
    before = (
      [],
      record {
        reads = (record { low = omega arith; high = omega arith }, tt);
        rising = (tt, tt);
        early = (omega arith, tt);
        death = record {
          before = [];
          last = (dies 0 4).entry;
          later = [];
          all = refl;
          died = refl;
          in_beat = refl;
          alone = tt;
          back = refl;
        };
      },
    );
    with_it = λ more.
        let death = more.1.death in
        behind_it death.before death.last death.later more.0 death.all death.alone death.back;
  };
}
