-- The journals of the worked run in which a cub comes back meet all ties of the schedule.
use Rattle.std.proofs.Common.{◌≡◌, ℕ, ◌+◌, ◌*◌, ◌<◌, ◌≤◌, Some, true, false, refl, sym, ap, subst, ◌∙◌, arith, ⊎_elim, inl, inr}
use Rattle.std.specs.Prelude.{◌⊎◌, List, [], ◌∷◌, ◌++◌, slice_get}
use Rattle.std.proofs.lemmas.Bool.{cases_eq, cases_lt}
use Rattle.tiger_base.specs.declared.number.CubNo.{CubNo}
use Rattle.tiger_base.specs.declared.number.Stamp.{Stamp}
use Rattle.tiger_base.specs.declared.tenancy.Ask.{Ask}
use Rattle.tiger_base.specs.declared.tenancy.Tenancy.{Tenancy}
use Rattle.tiger_base.specs.declared.message.Note.TheVariants as note
use Rattle.slot_plan.specs.Times.{cub_of}
use Rattle.node_kit.specs.declared.course.OrderKind.TheVariants as kind
use Rattle.node_kit.specs.declared.journal.Entry.{Entry}
use Rattle.node_kit.specs.declared.journal.What.{What}
use Rattle.node_kit.specs.declared.journal.What.TheVariants as what
use Rattle.run_model.specs.Orders.{IsOrdered}
use Rattle.proof_schedule.specs.Facts.{Facts, Ended}
use Rattle.proof_schedule.specs.Laws.{Laws}
use Rattle.proof_schedule.specs.Logs.{Ticked, Put, Shows, Begun, Asked, AskedApart, Gone, Died, Returned, Believed, facts_in}
use Rattle.proof_schedule.proofs.Follows.{runs}
use Rattle.proof_service.specs.Example.{plan, order}
use Rattle.proof_service.specs.ReturnExample.{viewer, one_run}
use Rattle.proof_service.proofs.ExampleFacts.{IsOn}
use Rattle.proof_service.proofs.ExampleLives as lives
use Rattle.proof_service.proofs.ExamplePlan.{plan_is, time_is, due_is, cub_2, one_before}
use Rattle.proof_service.proofs.ExampleSchedule as schedule
use Rattle.proof_service.proofs.ReturnLog as log
use Rattle.lists.specs.Elements.{In}
use Rattle.lists.proofs.Elements.{in_left, in_right}
use Rattle.proof_moments.specs.Ties.{StandsIn, IsPutAt, IsDeadIn, ReturnedBy, Tells, Logged, Keeps, Besides}
use Rattle.proof_moments.specs.Recorded.{IsRecorded}
use Rattle.proof_moments.specs.ReturnExample.{put, died, came_back, believed, journals, orders, ReturnTiesCanBeMet}
use Rattle.proof_moments.proofs.Records.{was_taken}
use Rattle.proof_moments.proofs.Plain.{EachFrom, rises}
use Rattle.proof_moments.proofs.Plain as written

abbrev r : Facts
r = facts_in one_run

-- ---- which entries there are

-- what an entry of a node and a beat says is one of these
abbrev Says : ℕ → ℕ → What → Type 0
Says n b (what.Put t) = (n ≡ 0) × (t ≡ viewer) × (b ≡ 1601)
Says n b what.Died = (n ≡ 1) × (b ≡ 20)
Says n b what.Returned = (n ≡ 1) × (b ≡ 60)
Says n b (what.Believed d) = (n ≡ 2) × (d ≡ record { 0 = 1 }) × (b ≡ 121)
Says n b other = ⊥

abbrev IsPlain : ℕ → List Entry → Type 0
IsPlain = written.IsPlain Says 1601

plain : EachFrom IsPlain 0 journals
plain = (
  record { says = ((refl, refl, refl), tt); apart = (tt, tt); low = ((omega arith, refl), tt) },
  (
    record {
      says = ((refl, refl), ((refl, refl), tt));
      apart = ((omega arith, tt), (tt, tt));
      low = ((omega arith, refl), ((omega arith, refl), tt));
    },
    (record { says = ((refl, refl, refl), tt); apart = (tt, tt); low = ((omega arith, refl), tt) }, tt),
  ),
)

plain_at : (n : ℕ) (j : List Entry) → slice_get journals n ≡ Some j → IsPlain n j
plain_at n j at = written.plain_at Says 1601 journals plain n j at

said : (n : ℕ) (e : Entry) (v : What) → StandsIn journals n e → e.what ≡ v → Says n e.stamp.beat v
said n e v s is = written.said Says 1601 journals plain n e v s is

low : (n : ℕ) (e : Entry) → StandsIn journals n e → (e.stamp.beat ≤ 1601) × (e.stamp.reading ≡ e.stamp.beat * 10000)
low n e s = written.low Says 1601 journals plain n e s

later : (n : ℕ) (xs ys : List Entry) (e f : Entry) → slice_get journals n ≡ Some (xs ++ e ∷ ys) → In f ys
    → e.stamp.beat < f.stamp.beat
later n xs ys e f at i = written.later Says 1601 journals plain n xs ys e f at i

stands : (n : ℕ) (j : List Entry) (e : Entry) → slice_get journals n ≡ Some j → In e j → StandsIn journals n e
stands n j e at i = record { journal = j; at = at; there = i }

-- ---- the schedule

ordered : (a : Ask) → a ≡ order → IsOrdered orders a
ordered a e = inl (ap (λ (x : Ask). kind.Begin x) (sym e))

order_is : (a : Ask) → IsOrdered orders a → a ≡ order
order_is a h = ⊎_elim (λ q. let same : order ≡ a = cc in sym same) (λ n. absurd n) h

-- The viewer is put, cub 1 died and came back, and the laws of the schedule are met.
put_in : r.Put 0 viewer 1601
put_in = schedule.put_in 16 1950 60 one_run log.timed log.worked

died_in : r.Died 1 20
died_in = log.worked.few (Died 1 20) (14, omega arith, refl)

returned_in : r.Returned 1 60
returned_in = log.worked.returned (omega arith)

believed_in : r.Believed 2 121
believed_in = log.worked.few (Believed 2 121) (15, omega arith, refl)

laws : Laws plan r
laws = schedule.laws 16 1950 60 one_run log.timed log.worked

ticked_in : (c b : ℕ) → c < 8 → IsOn 1950 60 c b → r.Ticked c b (b * 10000)
ticked_in c b small on = log.worked.ticked c b small on

is_put_at : (stamp : Stamp) → stamp.beat ≡ 1601 → stamp.reading ≡ stamp.beat * 10000 → IsPutAt plan r 0 stamp viewer
is_put_at stamp one read =
    let time = time_is stamp.beat in
    let visit = due_is 16 in
    record {
      small = omega arith;
      put = subst (λ (b : ℕ). r.Put 0 viewer b) (sym one) put_in;
      low = omega arith;
      high = omega arith;
      slot = omega arith;
      above = omega arith;
      below = omega arith;
    }

tells : Tells plan r orders journals
tells = record {
  put = λ n e t s is.
      let k = said n e (what.Put t) s is in
      subst (λ (m : ℕ). IsPutAt plan r m e.stamp t) (sym k.0) (subst (λ (u : Tenancy). IsPutAt plan r 0 e.stamp u)
      (sym k.1) (is_put_at e.stamp k.2 (low n e s).1));
  took = λ n e q s is. absurd (said n e (what.Took q) s is);
  gone = λ n e v s is. absurd (said n e (what.Gone v) s is);
  believed = λ n e d s is.
      let k = said n e (what.Believed d) s is in
      let one : d.0 ≡ 1 = ap (λ (c : CubNo). c.0) k.1 in
      let next : cub_of plan (d.0 + 1) ≡ 2 = ap (λ (m : ℕ). cub_of plan (m + 1)) one ∙ cub_2 in
      record {
        believed = subst (λ (m : ℕ). r.Believed m e.stamp.beat) (sym k.0) (subst (λ (b : ℕ). r.Believed 2 b)
            (sym k.2) believed_in);
        known = omega arith;
        behind = k.0 ∙ sym next;
      };
  died = λ n e small s is.
      let k = said n e what.Died s is in
      subst (λ (m : ℕ). r.Died m e.stamp.beat) (sym k.0) (subst (λ (b : ℕ). r.Died 1 b) (sym k.1) died_in);
  returned = λ n e small s is.
      let k = said n e what.Returned s is in
      let beat = k.1 in
      let on : IsOn 1950 60 n e.stamp.beat = inr (k.0, omega (arith, beat), omega (arith, beat)) in (
        subst (λ (m : ℕ). r.Returned m e.stamp.beat) (sym k.0) (subst (λ (b : ℕ). r.Returned 1 b) (sym k.1) returned_in),
        subst (λ (l : ℕ). r.Ticked n e.stamp.beat l) (sym (low n e s).1) (ticked_in n e.stamp.beat small on),
      );
  asked = λ n e link a small s is. absurd (said n e (what.Got link (note.Start false a)) s is);
  apart = λ n e link a small s is. absurd (said n e (what.Got link (note.Start true a)) s is);
}

at_0 : slice_get journals 0 ≡ Some (put ∷ [])
at_0 = refl

at_1 : slice_get journals 1 ≡ Some (died ∷ came_back ∷ [])
at_1 = refl

at_2 : slice_get journals 2 ≡ Some (believed ∷ [])
at_2 = refl

logged : Logged plan r orders journals
logged = record {
  put = λ c b t h.
      let k = log.worked.its (Put c t b) h in
      record {
        entry = put;
        stands = record { journal = put ∷ []; at = ap (λ (m : ℕ). slice_get journals m) k.0 ∙ at_0; there = inl refl };
        beat = sym k.2;
        is = ap (λ (u : Tenancy). what.Put u) (sym k.1);
      };
  gone = λ v b h. absurd (log.worked.its (Gone v b) h);
  died = λ c b h.
      let k = log.worked.its (Died c b) h in
      record {
        entry = died;
        stands = record {
          journal = died ∷ came_back ∷ [];
          at = ap (λ (m : ℕ). slice_get journals m) k.0 ∙ at_1;
          there = inl refl;
        };
        beat = sym k.1;
        is = refl;
      };
  returned = λ c b h.
      let k = log.worked.its (Returned c b) h in
      record {
        entry = came_back;
        stands = record {
          journal = died ∷ came_back ∷ [];
          at = ap (λ (m : ℕ). slice_get journals m) k.0 ∙ at_1;
          there = inr (inl refl);
        };
        beat = sym k.1;
        is = refl;
      };
  believed = λ c d b h next small.
      let k = log.worked.its (Believed c b) h in
      let same : d ≡ 1 = one_before d 1 small (omega arith) (sym next ∙ k.0 ∙ sym cub_2) in
      record {
        entry = believed;
        stands = record { journal = believed ∷ []; at = ap (λ (m : ℕ). slice_get journals m) k.0 ∙ at_2; there = inl refl };
        beat = sym k.1;
        is = (record { 0 = 1 }, refl, sym same);
      };
  begun = λ ask b h. ordered ask (log.worked.its (Begun ask b) h).0;
}

-- Below beat 1601 cub 1 is up before its death and from its return on, and else dead; the others are up.
ended_or_dead : (c b : ℕ) → c < 8 → b < 1601 → Ended r c b ⊎ IsDeadIn r c b
ended_or_dead c b small less = ⊎_elim
    (λ (one : c ≡ 1). ⊎_elim
    (λ (early : b < 20). inl (ended c b small (inl (inl (one, early)))))
    (λ (late : 20 ≤ b). ⊎_elim
    (λ (away : b < 60). inr (record {
      died = record { beat = 20; died = subst (λ (m : ℕ). r.Died m 20) (sym one) died_in; by = late };
      away = λ w back. let k = (log.worked.its (Returned c w) back).1 in omega (arith, k, away);
    }))
    (λ (back : 60 ≤ b). inl (ended c b small (inr (one, back, omega (arith, less)))))
    (cases_lt b 60))
    (cases_lt b 20))
    (λ (other : c ≡ 1 → ⊥). inl (ended c b small (inl (inr (other, omega (arith, less))))))
    (cases_eq c 1)
  where
    ended : (c b : ℕ) → c < 8 → IsOn 1950 60 c b → Ended r c b
    ended c b small on = lives.ended 16 1950 60 one_run log.timed log.worked c b small on

-- Behind the death stands the return.
behind_death : (n : ℕ) (xs ys : List Entry) (e f : Entry) → slice_get journals n ≡ Some (xs ++ e ∷ ys)
    → e.what ≡ what.Died → In f ys → ReturnedBy r n f.stamp.beat
behind_death n xs ys e f at is i =
    let k = said n e what.Died (stands n (xs ++ e ∷ ys) e at (in_right e xs (e ∷ ys) (inl refl))) is in
    let there : In f (xs ++ e ∷ ys) = in_right f xs (e ∷ ys) (inr i) in
    let after = later n xs ys e f at i in
    let whole : Some (xs ++ e ∷ ys) ≡ Some (died ∷ came_back ∷ []) = sym at ∙ (ap (λ (m : ℕ). slice_get journals m) k.0 ∙ at_1) in
    let same : xs ++ e ∷ ys ≡ died ∷ came_back ∷ [] = cc in
    let beat = k.1 in
    ⊎_elim
    (λ (d : f ≡ died). let first : f.stamp.beat ≡ 20 = ap (λ (x : Entry). x.stamp.beat) d in absurd (omega (arith, first, after, beat)))
    (λ o. ⊎_elim
    (λ (b : f ≡ came_back).
    let second : f.stamp.beat ≡ 60 = ap (λ (x : Entry). x.stamp.beat) b in
    record { beat = 60; returned = subst (λ (m : ℕ). r.Returned m 60) (sym k.0) returned_in; by = omega (arith, second) })
    (λ n. absurd n) o)
    (subst (λ (l : List Entry). In f l) same there)

keeps : Keeps plan r orders journals
keeps = record {
  rising = λ n j at. rises j (plain_at n j at).apart;
  one_put = λ n xs ys e f t u at is i f_is same. later n xs ys e f at i;
  belief_first = λ n xs ys e f t d at is i f_is. later n xs ys e f at i;
  put_first = λ n xs ys e q at is. absurd (said n e (what.Took q) (stands n (xs ++ e ∷ ys) e at
      (in_right e xs (e ∷ ys) (inl refl))) is);
  ended = λ n c b e s less small. let l = (low n e s).0 in ended_or_dead c b small (omega (arith, less, l));
  since = λ n xs ys e f small at is i. behind_death n xs ys e f at is i;
  shows = λ c b l upper lower q cut ticked i.
      let k = was_taken upper q i in
      absurd (said c k.0 (what.Took q) (stands c (upper ++ lower) k.0 cut.at (in_left k.0 upper lower k.1)) k.2);
  shown = λ c b l n t upper lower cut ticked s. absurd (log.worked.its (Shows c t n b) s);
  one_order = λ a b h k same. order_is a h ∙ sym (order_is b k);
}

besides : Besides plan r
besides = record {
  ended = λ c b l a t first d.
      let m = log.worked.its (Died c a) d in
      let one = m.0 in
      let when = m.1 in
      ⊎_elim
      (λ o. ⊎_elim (λ k. let early = k.1 in omega (arith, early, when)) (λ k. absurd (k.0 one)) o)
      (λ k.
      let back = first 60 (subst (λ (x : ℕ). r.Returned x 60) (sym one) returned_in) in
      let late = k.1 in
      absurd (omega (arith, back, late)))
      (log.worked.its (Ticked c b l) t).1;
  returned = λ c x h. laws.run.returned h;
  apart = λ c d a b h k next. laws.run.apart h k next;
  put = λ c x a t h d. let k = (log.worked.its (Put c t x) h).0 in let m = (log.worked.its (Died c a) d).0 in absurd (omega (arith, k, m));
  reads = λ c b l t. laws.run.reads t;
  undue = λ c n b t s. absurd (log.worked.its (Shows c t n b) s);
  waits = λ c y b l s n ask w by ticked first slot window.
      let one : (ask ≡ order) × (y ≡ 1601) = ⊎_elim
      (λ a. let k = log.worked.its (Asked c ask y) a.0 in (k.1, k.2))
      (λ a. let k = log.worked.its (AskedApart c ask y) a.0 in (k.1, k.2))
      w.how in
      let beat = one.1 in
      inr (inl (record {
        cub = 0;
        tenancy = viewer;
        same = ap (λ (v : Ask). v.instance.0) (sym one.0);
        beat = 1601;
        put = put_in;
        by = omega (arith, beat, by);
      }));
}

recorded : IsRecorded plan r orders journals
recorded = record {
  plan = plan_is;
  one = runs plan r plan_is laws;
  more = besides;
  tells = tells;
  logged = logged;
  keeps = keeps;
}

pub return_ties_met : ReturnTiesCanBeMet
return_ties_met = record { returned = returned_in; recorded = recorded }
