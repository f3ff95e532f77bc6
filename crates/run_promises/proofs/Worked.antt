-- The run of one viewer is kept well: each of the nine claims holds of it, and all else that the promises rest on.
use Rattle.std.proofs.Common.{◌≡◌, ◌≢◌, ℕ, zero, suc, ◌+◌, ◌<◌, ◌≤◌, Bool, true, false, not, ◌&&◌, ◌||◌, IsTrue, nat_lt, cond, List, [], ◌∷◌, ◌++◌, filter, Option, Some, None, refl, sym, ap, subst, ◌∙◌, arith, ⊎_elim, inl, inr}
use Rattle.std.specs.Prelude.{◌⊎◌, ◌==◌, slice_get, unwrap_or}
use Rattle.std.specs.List.{AllByRecursion, list_any}
use Rattle.std.proofs.lemmas.Bool.{cases_Bool, cases_eq, cases_lt, eqb-true, ne_eqb, false≢true, true≢false}
use Rattle.std.proofs.lemmas.Bool.Decides.{nat_tests}
use Rattle.tiger_base.specs.declared.message.Note.{Note}
use Rattle.tiger_base.specs.declared.tenancy.Rec.{Rec}
use Rattle.slot_plan.specs.Conditions.{IsPlan}
use Rattle.slot_plan.specs.Samples.{small}
use Rattle.slot_plan.specs.Times.{time_of, cub_of, disk_of}
use Rattle.slot_plan.proofs.Times.{cub_below}
use Rattle.node_kit.specs.declared.course.Kept.{Kept}
use Rattle.node_kit.specs.declared.course.Order.{Order}
use Rattle.node_kit.specs.declared.course.ReadFault.{ReadFault}
use Rattle.node_kit.specs.declared.course.OrderKind.{OrderKind}
use Rattle.node_kit.specs.declared.course.OrderKind.TheVariants as kind
use Rattle.node_kit.specs.declared.journal.What.{What}
use Rattle.node_kit.specs.declared.journal.What.TheVariants as what
use Rattle.node_kit.specs.declared.journal.Entry.{Entry}
use Rattle.node_kit.specs.Life.{Lifetime, back_of, lifetime_of, acts}
use Rattle.node_kit.specs.Links.{links_of, ends_of}
use Rattle.run_facts.specs.Carried.{AreFrontOn, AreCarriedBy, AreCarriedOn, sent_on, got_on}
use Rattle.run_facts.specs.Events.{Dated}
use Rattle.run_facts.specs.Commanded.{IsCommanded, AreCommanded, is_finish_of, is_gone, starts_sent, starts_ordered, gone_in, gone_before, stop_ordered, places_got}
use Rattle.run_facts.specs.Order.{Noted, beat_of, journal_of, order_of, IsInOrder}
use Rattle.run_facts.proofs.Orders.{order_found}
use Rattle.run_model.specs.Fronts.{AnyByRecursion}
use Rattle.run_model.specs.Moments.{moment_at, view_of, is_put_of, is_belief_of}
use Rattle.run_model.specs.Orders.{IsNotPassedOver, IsStartOf, PutsAreFair, is_up_to, end_of_tick}
use Rattle.run_model.specs.Parts.{IsPart, ViewsAreAlwaysPart, EntriesAreLocal}
use Rattle.run_model.specs.Samples.{IsOfTen, ten, all, begins, dying, seat, bytes, seated}
use Rattle.run_model.specs.Served.{journal_at}
use Rattle.run_model.specs.Tests.{is_empty}
use Rattle.run_model.specs.Views.{records_of}
use Rattle.run_model.proofs.Ends as endings
use Rattle.run_model.proofs.Moments.{part_at_fronts}
use Rattle.run_model.proofs.OnSamples.{on_samples, by-test, only-order, of-eight}
use Rattle.run_model.proofs.Reflects.{negated, and_left, and_right}
use Rattle.run_model.proofs.Timely.{numbered_found}
use Rattle.run_model.proofs.Timely as timely
use Rattle.run_claims.specs.Accounts.{account_of, log_of}
use Rattle.run_claims.specs.Claims.{MeetsClaims}
use Rattle.run_claims.specs.Patience.{NobodyIsPassedOver}
use Rattle.run_claims.specs.Returns.{NobodyComesBack}
use Rattle.run_claims.specs.Served.{AreServed}
use Rattle.run_claims.specs.Truths.{BeliefsAreTrue, FailuresAreTrue}
use Rattle.run_claims.specs.Turns.{AreInTurn}
use Rattle.run_claims.specs.Visits.{AreServedOnce}
use Rattle.lists.specs.Elements.{In}
use Rattle.proof_moments.proofs.Lists.{any_by, any_passes, any_passing}
use Rattle.lists.proofs.Elements.{in_left, in_filter, from_filter, chosen}
use Rattle.lists.proofs.Each.{all_in, all_by}
use Rattle.proof_moments.proofs.Records.{was_taken}
use Rattle.proof_moments.proofs.Ticks.{up_to_by, up_to_parts}
use Rattle.run_promises.specs.Kept.{IsKeptWell, after_tick}
use Rattle.run_promises.specs.House.{NothingFails, PressesPlay, IsNeverFull, IsServed}
use Rattle.run_promises.specs.Placing.{HasRoom}
use Rattle.run_promises.specs.Promises.{KeepsPromises}
use Rattle.run_promises.specs.Samples.{all_live, one_block, one_log, one_viewer, run_of, silent, many, stop_in, wait}
use Rattle.run_promises.specs.Served.{IsSettledVisit, Came, OnlyOneDies}
use Rattle.run_promises.specs.Stops.{IsNotOver}
use Rattle.run_promises.specs.Waits.{IsWaiting, IsOver, IsATurn}
use Rattle.run_promises.proofs.Fronts.{in_front_journal}
use Rattle.run_promises.proofs.House.{room}
use Rattle.run_promises.proofs.Promises.{kept_runs_keep_promises}

-- ---- the log

in_order : IsInOrder 18 1600 one_log
in_order = (
  omega arith,
  omega arith,
  (inr (refl, omega arith), (inl (omega arith), (inl (omega arith), (inl (omega arith), (inl (omega arith), (inl (omega arith), tt)))))),
  (
    omega arith,
    omega arith,
    (inl (omega arith), (inl (omega arith), (inl (omega arith), (inl (omega arith), (inl (omega arith), tt))))),
    (
      omega arith,
      omega arith,
      (inr (refl, omega arith), (inr (refl, omega arith), (inl (omega arith), (inl (omega arith), tt)))),
      (
        omega arith,
        omega arith,
        (inr (refl, omega arith), (inl (omega arith), (inl (omega arith), tt))),
        (
          omega arith,
          omega arith,
          (inl (omega arith), (inl (omega arith), tt)),
          (omega arith, omega arith, (inl (omega arith), tt), (omega arith, omega arith, tt, tt)),
        ),
      ),
    ),
  ),
)

order_is : order_of 1600 (all one_log) ≡ one_log
order_is = order_found 18 1600 one_log in_order

-- ---- the claims

puts_are_fair : PutsAreFair small (begins one_block) one_log
unfolding on_samples
puts_are_fair = (
  tt,
  (
    tt,
    (
      tt,
      (
        record {
          free = λ t e. absurd (cc);
          rightly = record {
            ask = one_block;
            ordered = inl refl;
            asked = record { instance = refl; file = refl; count = omega arith; disk = refl };
            slot = omega arith;
            window = refl;
            cub = inl refl;
            once = omega arith;
          };
        },
        (tt, (tt, (tt, tt))),
      ),
    ),
  ),
)

-- nothing is taken, so that no view has a record
abbrev IsNoTook : What → Type 0
IsNoTook (what.Took r) = ⊥
IsNoTook other = Unit {0}

none_took : AllByRecursion (λ (x : Noted). IsNoTook x.entry.what) one_log
none_took = (tt, (tt, (tt, (tt, (tt, (tt, (tt, tt)))))))

no_record : (front back : List Noted) (c : ℕ) (r : Rec) → front ++ back ≡ one_log → In r (records_of (journal_of c front)) → ⊥
no_record front back c r is i =
    let e = was_taken (journal_of c front) r i in
    let x = in_front_journal front c e.0 e.1 in
    let there = subst (λ (xs : List Noted). In x.0 xs) is (in_left x.0 front back x.1) in
    let took : x.0.entry.what ≡ what.Took r = ap (λ (e : Entry). e.what) x.3 ∙ e.2 in
    subst IsNoTook took (all_in (λ (x : Noted). IsNoTook x.entry.what) x.0 one_log none_took there)

views_are_part : ViewsAreAlwaysPart small one_log
unfolding moment_at
views_are_part = (part_at_fronts small one_log).1 (λ front back is c low.
    let m = moment_at front in
    all_by (λ (r : Rec). IsPart small m r.tenancy r.visit) (view_of m c) (λ r i.
    absurd (no_record front back c r is i)))

served_once : AreServedOnce small one_log
unfolding on_samples
served_once = record {
  instance = (((λ a b. refl), tt), tt);
  ask = (tt, (tt, (tt, (tt, (tt, (tt, (tt, tt)))))));
  dead = (tt, (tt, (tt, (tt, (tt, (tt, (tt, tt)))))));
}

served : (s : IsOfTen) (end : ℕ) → AreServed small (ten s) (all one_log) end one_log
unfolding on_samples
served s end = record {
  settled = (tt, (tt, (tt, ((λ n first last settled. let e : n ≡ 0 = omega (arith, last) in rw e (inl (by-test s _ refl))), (tt, (tt, (tt, tt)))))));
  got = (
    (λ n. absurd (omega (arith, n))),
    (
      (λ n. absurd (omega (arith, n))),
      (
        (λ n. absurd (omega (arith, n))),
        (
          (λ n. absurd (omega (arith, n))),
          (
            (λ n. absurd (omega (arith, n))),
            (
              (λ n. absurd (omega (arith, n))),
              (
                (λ n. (
                  refl,
                  record {
                    tenancy = seat 0 0 0;
                    visited = record { put = inl (inr (inl refl)); instance = refl; first = omega arith; last = omega arith };
                    wanted = refl;
                    block = record { disk = record { 0 = 0 }; span = bytes 0 4 };
                    place = refl;
                    span = refl;
                  },
                )),
                tt,
              ),
            ),
          ),
        ),
      ),
    ),
  );
}

in_turn : AreInTurn small one_log
in_turn = (((λ same later. absurd (omega (arith, later))), tt), tt)

-- whoever got a start has put instance 0 by the end of the tick
abbrev IsInBeatOne : Noted → Type 0
IsInBeatOne x = (redundant : Bool) → IsStartOf 0 redundant x.entry.what → beat_of x ≡ 1

starts_in_beat_one : AllByRecursion IsInBeatOne one_log
starts_in_beat_one = ((λ r h. absurd h), ((λ r h. absurd h), ((λ r h. refl), ((λ r h. absurd h), ((λ r h. refl), ((λ r h. absurd h), ((λ r h. absurd h), tt)))))))

put_by_then : (cub beat : ℕ) (redundant : Bool) → AnyByRecursion (λ (e : Entry). IsStartOf 0 redundant e.what) (journal_of cub (filter (is_up_to beat cub) one_log))
    → (end_of_tick beat cub one_log).put 0 ≡ true
unfolding moment_at
put_by_then cub beat redundant h =
    let e = any_by (λ (e : Entry). IsStartOf 0 redundant e.what) (journal_of cub (filter (is_up_to beat cub) one_log)) h in
    let x = in_front_journal (filter (is_up_to beat cub) one_log) cub e.0 e.1 in
    let f = from_filter (is_up_to beat cub) x.0 one_log x.1 in
    let start : IsStartOf 0 redundant x.0.entry.what = subst (λ (d : Entry). IsStartOf 0 redundant d.what) (sym x.3) e.2 in
    let one = all_in IsInBeatOne x.0 one_log starts_in_beat_one f.0 redundant start in
    let when : (1 < beat) ⊎ ((1 ≡ beat) × (0 ≤ cub)) = ⊎_elim
    (λ l. let z : 1 < beat = omega arith in inl z)
    (λ q. let same = q.0 in let z : 1 ≡ beat = omega arith in let low : 0 ≤ cub = omega arith in inr (z, low))
    (up_to_parts beat cub x.0 f.1) in
    any_passes (λ (x : Noted). is_put_of 0 x.entry.what) (filter (is_up_to beat cub) one_log) seated
    (in_filter (is_up_to beat cub) seated one_log (inr (inr (inr (inl refl)))) (up_to_by beat cub seated when)) refl

nobody_passed_over : (cub beat reading : ℕ) → IsNotPassedOver small (begins one_block) (end_of_tick beat cub one_log) cub beat reading
unfolding moment_at
nobody_passed_over cub beat reading = record {
  taken = λ a slot visit o has unput unstopped low on_disk window.
      let same = only-order one_block a o in
      let unput_one : (end_of_tick beat cub one_log).put 0 ≡ false = subst (λ b. (end_of_tick beat cub one_log).put b.instance.0 ≡ false) (sym same) unput in
      absurd (⊎_elim
      (λ own. true≢false (sym (put_by_then cub beat false (subst (λ b. AnyByRecursion (λ (e : Entry). IsStartOf b.instance.0 false e.what) (journal_of cub (filter (is_up_to beat cub) one_log))) (sym same) own.1.1)) ∙ unput_one))
      (λ next. true≢false (sym (put_by_then cub beat true (subst (λ b. AnyByRecursion (λ (e : Entry). IsStartOf b.instance.0 true e.what) (journal_of cub (filter (is_up_to beat cub) one_log))) (sym same) next.1.1)) ∙ unput_one))
      has);
}

-- ---- the controller

both_same : {X : Type 0} (b : Bool) (xs : List X) → cond b xs xs ≡ xs
both_same true xs = refl
both_same false xs = refl

and_false : (b : Bool) → (b && false) ≡ false
and_false true = refl
and_false false = refl

abbrev controls : List Entry
controls = journal_of 16 one_log

commanded : (reading : ℕ → ℕ) → IsCommanded small 1600 reading (begins one_block) controls
unfolding starts_sent starts_ordered gone_in gone_before stop_ordered
commanded reading = record {
  starts = λ beat. ⊎_elim
      (λ (t : (0 == beat) ≡ true). subst (λ (b : ℕ). starts_sent small b controls ≡ cond (nat_lt b 1600) (starts_ordered small b (begins one_block)) []) (eqb-true 0 beat t) refl)
      (λ (f : (0 == beat) ≡ false). rw f (sym (both_same (nat_lt beat 1600) [])))
      (cases_Bool (0 == beat));
  stops = λ v beat. ⊎_elim
      (λ (t : (0 == beat) ≡ true). rw t (sym (and_false (nat_lt beat 1600))))
      (λ (f : (0 == beat) ≡ false). rw f (sym (and_false (nat_lt beat 1600))))
      (cases_Bool (0 == beat));
  once = λ v. omega arith;
}

are_commanded : (reading : ℕ → ℕ) → AreCommanded small 1600 reading (begins one_block) (all one_log)
are_commanded reading = record {
  controller = λ journal at.
      let is : controls ≡ journal = ap (λ (o : Option (List Entry)). unwrap_or o []) at in
      subst (λ (j : List Entry). IsCommanded small 1600 reading (begins one_block) j) is (commanded reading);
  others = λ n journal other at.
      let found = numbered_found (λ n j. (n == 16) || not (list_any (λ (e : Entry). is_gone e.what) j)) 0 (all one_log) refl n journal at in
      let same : 0 + n ≡ n = omega arith in
      let here : IsTrue ((n == 16) || not (list_any (λ (e : Entry). is_gone e.what) journal)) =
      subst (λ (m : ℕ). IsTrue ((m == 16) || not (list_any (λ (e : Entry). is_gone e.what) journal))) same found in
      (negated (list_any (λ (e : Entry). is_gone e.what) journal)).0 (rw (ne_eqb n 16 other) at here);
}

-- ---- what was sent was got

abbrev journals : List (List Entry)
journals = all one_log

empty_by_test : {X : Type 0} (xs : List X) → IsTrue (is_empty xs) → xs ≡ []
empty_by_test [] h = refl
empty_by_test (x ∷ xs) h = absurd (false≢true h)

none_sent : (l : ℕ) → (0 == l) ≡ false → (1 == l) ≡ false → (16 == l) ≡ false → (n : ℕ) (j : List Entry) → slice_get journals n ≡ Some j → sent_on l j ≡ []
unfolding on_samples
none_sent l a b c n j at = empty_by_test (sent_on l j) (numbered_found (λ n j. is_empty (sent_on l j)) 0 journals (rw (a, b, c) refl) n j at)

none_got : (l : ℕ) → (0 == l) ≡ false → (1 == l) ≡ false → (16 == l) ≡ false → (n : ℕ) (j : List Entry) → slice_get journals n ≡ Some j → got_on l j ≡ []
unfolding on_samples
none_got l a b c n j at = empty_by_test (got_on l j) (numbered_found (λ n j. is_empty (got_on l j)) 0 journals (rw (a, b, c) refl) n j at)

-- a link whose two ends are known carries, if it does between the journals there
by_ends : (life : Lifetime) (l m n from to : ℕ) (sender receiver : List Entry) → ends_of (links_of small) l ≡ Some (m, n)
    → ends_of (links_of small) l ≡ Some (from, to) → slice_get journals from ≡ Some sender → slice_get journals to ≡ Some receiver
    → AreFrontOn 2 1600 life (sent_on l (unwrap_or (slice_get journals m) [])) (got_on l (unwrap_or (slice_get journals n) []))
    → AreFrontOn 2 1600 life (sent_on l sender) (got_on l receiver)
by_ends life l m n from to sender receiver is e a b h =
    let both : Some (m, n) ≡ Some (from, to) = sym is ∙ e in
    let f : m ≡ from = ap (λ (o : Option (ℕ × ℕ)). (unwrap_or o (0, 0)).0) both in
    let t : n ≡ to = ap (λ (o : Option (ℕ × ℕ)). (unwrap_or o (0, 0)).1) both in
    let s : unwrap_or (slice_get journals m) [] ≡ sender = ap (λ (o : Option (List Entry)). unwrap_or o []) (ap (slice_get journals) f ∙ a) in
    let r : unwrap_or (slice_get journals n) [] ≡ receiver = ap (λ (o : Option (List Entry)). unwrap_or o []) (ap (slice_get journals) t ∙ b) in
    subst (λ (x : List Entry). AreFrontOn 2 1600 life (sent_on l x) (got_on l receiver)) s
    (subst (λ (y : List Entry). AreFrontOn 2 1600 life (sent_on l (unwrap_or (slice_get journals m) [])) (got_on l y)) r h)

front_on_link : (life : Lifetime) (l from to : ℕ) (sender receiver : List Entry) → ends_of (links_of small) l ≡ Some (from, to)
    → slice_get journals from ≡ Some sender → slice_get journals to ≡ Some receiver → AreFrontOn 2 1600 life (sent_on l sender) (got_on l receiver)
unfolding on_samples
front_on_link life l from to sender receiver e a b =
    let Carries : ℕ → Type 0 = λ m. ends_of (links_of small) m ≡ Some (from, to) → AreFrontOn 2 1600 life (sent_on m sender) (got_on m receiver) in
    ⊎_elim
    (λ (z : 0 ≡ l). subst Carries z (λ f. by_ends life 0 16 0 from to sender receiver refl f a b (refl, omega arith, omega arith, tt)) e)
    (λ nz. ⊎_elim
    (λ (o : 1 ≡ l). subst Carries o (λ f. by_ends life 1 16 1 from to sender receiver refl f a b (refl, omega arith, omega arith, tt)) e)
    (λ no. ⊎_elim
    (λ (s : 16 ≡ l). subst Carries s (λ f. by_ends life 16 0 17 from to sender receiver refl f a b (refl, omega arith, omega arith, tt)) e)
    (λ ns.
    let x = ne_eqb 0 l nz in
    let y = ne_eqb 1 l no in
    let w = ne_eqb 16 l ns in
    rw (none_sent l x y w from sender a, none_got l x y w to receiver b) tt)
    (cases_eq 16 l))
    (cases_eq 1 l))
    (cases_eq 0 l)

-- what is carried to a receiver that does not return is one front
on_link : (life : Lifetime) (l from to : ℕ) (sender receiver : List Entry) → life.back ≡ None → ends_of (links_of small) l ≡ Some (from, to)
    → slice_get journals from ≡ Some sender → slice_get journals to ≡ Some receiver → AreCarriedOn 2 1600 life (sent_on l sender) (got_on l receiver)
on_link life l from to sender receiver none e a b =
    let ss : List (Dated Note) = sent_on l sender in
    let gs : List (Dated Note) = got_on l receiver in
    subst (λ (back : Option ℕ). AreCarriedBy 2 1600 life back ss gs) (sym none)
    (front_on_link life l from to sender receiver e a b)

-- ---- what is said of other entries than there are

local : EntriesAreLocal small one_log
unfolding on_samples
local = ((λ n. tt), ((λ n. tt), ((λ n. tt), ((λ n. tt), ((λ n. tt), ((λ n. tt), ((λ n. tt), tt)))))))

no_return : NobodyComesBack small one_log
unfolding on_samples
no_return = (tt, (tt, (tt, (tt, (tt, (tt, (tt, tt)))))))

true_belief : BeliefsAreTrue one_log
unfolding on_samples
true_belief = (tt, (tt, (tt, (tt, (tt, (tt, (tt, tt)))))))

true_faults : FailuresAreTrue small [] one_log
unfolding on_samples
true_faults = (tt, (tt, (tt, (tt, (tt, (tt, (tt, tt)))))))

-- ---- all together

meets_claims : (k : Kept) (plan : IsPlan small) (s : IsOfTen) → MeetsClaims (account_of (one_viewer k plan s))
meets_claims k plan s =
    let a = account_of (one_viewer k plan s) in
    let log : one_log ≡ log_of a = sym order_is in
    record {
      free = subst (λ xs. PutsAreFair small (begins one_block) xs) log puts_are_fair;
      part = record {
        always = subst (λ xs. ViewsAreAlwaysPart small xs) log views_are_part;
        local = subst (λ xs. EntriesAreLocal small xs) log local;
      };
      no_return = subst (λ xs. NobodyComesBack small xs) log no_return;
      one_per_visit = subst (λ xs. AreServedOnce small xs) log served_once;
      true_belief = subst (λ xs. BeliefsAreTrue xs) log true_belief;
      true_faults = subst (λ xs. FailuresAreTrue small [] xs) log true_faults;
      delivery = subst (λ xs. AreServed small (ten s) (all one_log) (time_of small 1600) xs) log (served s (time_of small 1600));
      in_order = subst (λ xs. AreInTurn small xs) log in_turn;
      starts = record {
        patient = subst (λ xs. NobodyIsPassedOver small (begins one_block) a.ticked xs) log (λ cub beat reading low ticked. nobody_passed_over cub beat reading);
        commanded = are_commanded a.clock;
      };
    }

-- nobody returns
none_back : (k : Kept) (plan : IsPlan small) (s : IsOfTen) (n : ℕ) → back_of (one_viewer k plan s).course n ≡ None
none_back k plan s n = ⊎_elim
    (λ (low : n < 8). of-eight (λ n. back_of (one_viewer k plan s).course n ≡ None) refl refl refl refl refl refl refl refl n low)
    (λ (high : 8 ≤ n). let beyond : nat_lt n 8 ≡ false = grind (arith, nat_tests, high) in rw beyond refl)
    (cases_lt n 8)

pub one_viewer_is_kept_well : (k : Kept) (plan : IsPlan small) (s : IsOfTen) → IsKeptWell (one_viewer k plan s)
unfolding on_samples
one_viewer_is_kept_well k plan s =
    let run = one_viewer k plan s in
    record {
      count = refl;
      carried = (endings.carried run (links_of small) refl (λ l from to sender receiver e a b. on_link (lifetime_of run.course to) l from to sender receiver (none_back k plan s to) e a b)).0 refl;
      timed = ((timely.timed run).0 refl).timed;
      claims = meets_claims k plan s;
    }

-- ---- what promises ask for

stop_is : (beat : ℕ) (o : Order) (v : ℕ) → ((o.beat == beat) && is_finish_of v o.what) ≡ true → (o.beat ≡ beat) × (is_finish_of v o.what ≡ true)
stop_is beat o v h = (eqb-true o.beat beat (and_left (o.beat == beat) (is_finish_of v o.what) h), and_right (o.beat == beat) (is_finish_of v o.what) h)

-- orders that begin stop nobody
abbrev IsBegin : OrderKind → Type 0
IsBegin (kind.Begin a) = Unit {0}
IsBegin (kind.Finish i) = ⊥

begin_stops_nobody : (v : ℕ) (w : OrderKind) → IsBegin w → is_finish_of v w ≡ true → ⊥
begin_stops_nobody v (kind.Begin a) b h = false≢true h
begin_stops_nobody v (kind.Finish i) b h = b

pub no_stop_among : (orders : List Order) (v beat : ℕ) → AllByRecursion (λ (o : Order). IsBegin o.what) orders → stop_ordered orders v beat ≡ true → ⊥
unfolding stop_ordered
no_stop_among orders v beat all h =
    let o = any_passing (λ (o : Order). (o.beat == beat) && is_finish_of v o.what) orders h in
    begin_stops_nobody v o.0.what (all_in (λ (o : Order). IsBegin o.what) o.0 orders all o.1) (stop_is beat o.0 v o.2).1

pub many_begin : (n : ℕ) → AllByRecursion (λ (o : Order). IsBegin o.what) (many n)
many_begin zero = tt
many_begin (suc n) = (tt, many_begin n)

pub stop_is_in : (at v beat : ℕ) → stop_ordered (stop_in at) v beat ≡ true → (at ≡ beat) × (0 ≡ v)
unfolding stop_ordered
stop_is_in at v beat h =
    let o = any_passing (λ (o : Order). (o.beat == beat) && is_finish_of v o.what) (stop_in at) h in
    ⊎_elim
    (λ (e : o.0 ≡ record { beat = at; what = kind.Finish (record { 0 = 0 }) }).
    let both = stop_is beat o.0 v o.2 in
    let t : is_finish_of v (kind.Finish (record { 0 = 0 })) ≡ true = subst (λ (x : Order). is_finish_of v x.what ≡ true) e both.1 in
    (sym (ap (λ (x : Order). x.beat) e) ∙ both.0, eqb-true 0 v t))
    (λ n. absurd n)
    o.1

pub same_beat : (a b : ℕ) → Some a ≡ Some b → a ≡ b
same_beat a b e = cc

-- the deaths of eight cubs are those of the list
pub only_cub_one : (k : Kept) (plan : IsPlan small) (s : IsOfTen) → OnlyOneDies (silent k plan s (dying None (Some 5) None) [] []) 1
only_cub_one k plan s = of-eight (λ n. n ≢ 1 → (lifetime_of (silent k plan s (dying None (Some 5) None) [] []).course n).death ≡ None)
    (λ ne. refl) (λ ne. absurd (ne refl)) (λ ne. refl) (λ ne. refl) (λ ne. refl) (λ ne. refl) (λ ne. refl) (λ ne. refl)

-- what is asked of a run can be read off its scenario, whatever is written in it
pub presses : (k : Kept) (plan : IsPlan small) (s : IsOfTen) (log : List Noted)
    → PressesPlay (run_of k plan s all_live [] (begins one_block) log) one_block 0
presses k plan s log = record {
  ordered = inl (refl, refl);
  disk = omega arith;
  alone = λ other o same. sym (only-order one_block other o);
  unstopped = λ b. ⊎_elim (λ (t : stop_ordered (begins one_block) 0 b ≡ true). absurd (no_stop_among (begins one_block) 0 b (tt, tt) t)) (λ (f : stop_ordered (begins one_block) 0 b ≡ false). f) (cases_Bool (stop_ordered (begins one_block) 0 b));
}

pub house : (k : Kept) (plan : IsPlan small) (s : IsOfTen) (log : List Noted)
    → IsNeverFull (run_of k plan s all_live [] (begins one_block) log) 2 1520
house k plan s log = record { few = omega arith; stops = λ v beat o. absurd (no_stop_among (begins one_block) v beat (tt, tt) o) }

pub sound : (k : Kept) (plan : IsPlan small) (s : IsOfTen) (log : List Noted)
    → NothingFails (run_of k plan s all_live [] (begins one_block) log)
sound k plan s log = record {
  deaths = of-eight (λ n. (lifetime_of (run_of k plan s all_live [] (begins one_block) log).course n).death ≡ None) refl refl refl refl refl refl refl refl;
  faults = refl;
}

pub promises : (k : Kept) (plan : IsPlan small) (s : IsOfTen) → KeepsPromises (one_viewer k plan s)
promises k plan s = kept_runs_keep_promises (one_viewer k plan s) (one_viewer_is_kept_well k plan s)

pub turn : IsATurn small 2 1520
unfolding time_of
turn = (omega arith, omega arith)

pub served_in_full : (k : Kept) (plan : IsPlan small) (s : IsOfTen) → IsServed (one_viewer k plan s) one_block 1520
served_in_full k plan s = (promises k plan s).house one_block 0 1520 (omega arith) (presses k plan s one_log) turn (omega arith) (house k plan s one_log) (sound k plan s one_log)

pub settled : (k : Kept) (plan : IsPlan small) (s : IsOfTen) → IsSettledVisit (one_viewer k plan s) (seat 0 0 0) 0
unfolding on_samples
settled k plan s = record { first = omega arith; last = omega arith; settled = omega arith }

pub came : (k : Kept) (plan : IsPlan small) (s : IsOfTen) → Came (one_viewer k plan s) (seat 0 0 0) 0
unfolding disk_of
came k plan s =
    let run = one_viewer k plan s in
    (promises k plan s).comes (seat 0 0 0) 0 (inl (inr (inl refl))) (settled k plan s)
    (λ beat o. absurd (no_stop_among (begins one_block) 0 beat (tt, tt) o))
    (λ death d. absurd (none_some ((sound k plan s one_log).deaths (cub_of small 0) (cub_below small 0 plan.ranges)) d)) tt
  where
    none_some : {o : Option ℕ} {d : ℕ} → o ≡ None → o ≡ Some d → ⊥
    none_some a b = absurd (cc)

-- nobody is believed dead at any moment
none_believes : (d : ℕ) → AllByRecursion (λ (x : Noted). is_belief_of d x.entry.what ≡ false) one_log
none_believes d = (refl, (refl, (refl, (refl, (refl, (refl, (refl, tt)))))))

believes_none : (c beat d : ℕ) → (end_of_tick beat c one_log).believed c d ≡ false
unfolding moment_at
believes_none c beat d = ⊎_elim
    (λ (t : (end_of_tick beat c one_log).believed c d ≡ true).
    let e = any_passing (λ (e : Entry). is_belief_of d e.what) (journal_of c (filter (is_up_to beat c) one_log)) t in
    let x = in_front_journal (filter (is_up_to beat c) one_log) c e.0 e.1 in
    let f = from_filter (is_up_to beat c) x.0 one_log x.1 in
    let none = all_in (λ (x : Noted). is_belief_of d x.entry.what ≡ false) x.0 one_log (none_believes d) f.0 in
    absurd (true≢false (sym e.2 ∙ ap (λ (y : Entry). is_belief_of d y.what) (sym x.3) ∙ none)))
    (λ (f : (end_of_tick beat c one_log).believed c d ≡ false). f)
    (cases_Bool ((end_of_tick beat c one_log).believed c d))

pub nobody_believed : (k : Kept) (plan : IsPlan small) (s : IsOfTen) (c beat d : ℕ) → (after_tick (one_viewer k plan s) c beat).believed c d ≡ false
nobody_believed k plan s c beat d = subst (λ (log : List Noted). (end_of_tick beat c log).believed c d ≡ false) (sym order_is) (believes_none c beat d)

pub waits_until : (k : Kept) (plan : IsPlan small) (s : IsOfTen) (log : List Noted) (last : ℕ) → 2 ≤ last → last < 1600
    → IsWaiting (run_of k plan s all_live [] (begins one_block) log) (wait 0 2 last)
waits_until k plan s log last low high = record {
  asked = inl (refl, refl);
  disk = omega arith;
  small = omega arith;
  its_cub = inl refl;
  came = omega arith;
  rises = low;
  ends = high;
  lives = λ death d. let none : None ≡ Some death = d in absurd (cc);
}

pub over : (k : Kept) (plan : IsPlan small) (s : IsOfTen) → IsOver (one_viewer k plan s) (wait 0 2 1520) 2
unfolding moment_at
over k plan s = inl (subst (λ (log : List Noted). (end_of_tick 2 0 log).put 0 ≡ true) (sym order_is) refl)

-- in a run in which nobody dies
pub nobody_dies : (k : Kept) (plan : IsPlan small) (s : IsOfTen) (faults : List ReadFault) (orders : List Order) (log : List Noted)
    → OnlyOneDies (run_of k plan s all_live faults orders log) 0
nobody_dies k plan s faults orders log n low other =
    of-eight (λ n. (lifetime_of (run_of k plan s all_live faults orders log).course n).death ≡ None) refl refl refl refl refl refl refl refl n low

pub no_death : (k : Kept) (plan : IsPlan small) (s : IsOfTen) (faults : List ReadFault) (orders : List Order) (log : List Noted) (n : ℕ) → n < 8
    → (death : ℕ) → (lifetime_of (run_of k plan s all_live faults orders log).course n).death ≡ Some death → ⊥
no_death k plan s faults orders log n low death d =
    none_some _ death (of-eight (λ n. (lifetime_of (run_of k plan s all_live faults orders log).course n).death ≡ None) refl refl refl refl refl refl refl refl n low) d
  where
    none_some : (o : Option ℕ) (d : ℕ) → o ≡ None → o ≡ Some d → ⊥
    none_some o d a b = absurd (cc)

pub has_room : (k : Kept) (plan : IsPlan small) (s : IsOfTen) → HasRoom (one_viewer k plan s) (wait 0 2 1520)
has_room k plan s = room (one_viewer k plan s) (wait 0 2 1520) (one_viewer_is_kept_well k plan s) (inl refl) (house k plan s one_log)

pub not_over : (k : Kept) (plan : IsPlan small) (s : IsOfTen) → IsNotOver (one_viewer k plan s) 0 100
unfolding journal_at places_got
not_over k plan s = refl
