-- The facts of the worked run in which a cub dies and comes back meet all laws.
use Rattle.std.proofs.Common.{◌≡◌, ◌≢◌, ℕ, zero, suc, ◌+◌, ◌*◌, ◌%◌, ◌<◌, ◌≤◌, refl, sym, ap, subst, ◌∙◌, arith, ⊎_elim, inl, inr, eq-or-lt_of_le}
use Rattle.std.specs.Prelude.{◌⊎◌, List}
use Rattle.std.proofs.lemmas.Bool.{cases_lt, cases_eq}
use Rattle.std.specs.List.{AllByRecursion, Contains}
use Rattle.std.proofs.lemmas.List.Elements.{All-from_recursion, All-contains}
use Rattle.slot_plan.specs.Times.{time_of, cub_of}
use Rattle.slot_plan.specs.Samples.{small}
use Rattle.proof_schedule.specs.Example.{order, viewer, first_beat, lives, others, one_return}
use Rattle.proof_schedule.specs.Facts.{Facts, LivedTo, DiedBy}
use Rattle.proof_schedule.specs.Laws.{Laws}
use Rattle.proof_schedule.specs.RunLaws.{RunLaws}
use Rattle.proof_schedule.specs.WatchLaws.{WatchLaws}
use Rattle.proof_schedule.specs.Logs.{Fact, facts_in, Came, Ticked, Put, Inserted, Took, Shows, Sent, Got, Begun, Asked, AskedApart, Gone, StoppedAt, StoppedWaiting, Told, Reached, GotTag, GotBare, Passed, Died, Returned, Beat, Heard, Believed}
use Rattle.proof_schedule.proofs.ExamplePut.{IsIn, head, tail, in_first, time_is, OnePut, links, states, starts}
use Rattle.proof_schedule.proofs.Unstopped.{IsWithoutStops, no_stops, no_holds}

-- Cub c comes to its tick of beat b: in beat 0 each does, in beats 1 and 2 all but cub 1, which is
-- dead, and in beat 3 cub 1, which has come back.
abbrev Comes : ℕ → ℕ → Type 0
Comes c b = ((b ≡ 0) × (c < 8))
    ⊎ ((((b ≡ 1) ⊎ (b ≡ 2)) × (c < 8) × (c ≢ 1)) ⊎ ((b ≡ 3) × (c ≡ 1)))

-- Each fact of the run is one of these: of a kind that is not listed there is none.
abbrev IsIts : Fact → Type 0
IsIts (Came c b) = Comes c b
IsIts (Ticked c b l) = Comes c b × (l ≡ b * 10000)
IsIts (Put c t b) = (c ≡ 0) × (t ≡ viewer) × (b ≡ 1)
IsIts (Inserted c t n b) = (c ≡ 0) × (t ≡ viewer) × (n ≡ 0) × (b ≡ 1)
IsIts (Shows c t n b) = (c ≡ 0) × (t ≡ viewer) × (n ≡ 0) × (b ≡ 1)
IsIts (Sent a k t m b) = (a ≡ 0) × (k ≡ 1) × (t ≡ viewer) × (m ≡ 0) × (b ≡ 1)
IsIts (Begun ask b) = (ask ≡ order) × (b ≡ 0)
IsIts (Asked c ask b) = (c ≡ 0) × (ask ≡ order) × (b ≡ 1)
IsIts (Died c b) = (c ≡ 1) × (b ≡ 1)
IsIts (Returned c b) = (c ≡ 1) × (b ≡ 3)
IsIts (Beat c b) = (b ≡ 0) × (c < 8)
IsIts (Heard c b) = b ≡ 1
IsIts other = ⊥

-- In the first beat they are.
first_its : (n : ℕ) → n ≤ 8 → AllByRecursion IsIts (first_beat n)
first_its zero le = tt
first_its (suc n) le =
    let small : n < 8 = omega arith in
    (inl (refl, small), ((inl (refl, small), refl), ((refl, small), first_its n (omega arith))))

-- Of a cub that lives they are.
lives_its : (c : ℕ) (more : List Fact) → c < 8 → c ≢ 1 → AllByRecursion IsIts more
    → AllByRecursion IsIts (lives c more)
lives_its c more small ne rest =
    let one : Comes c 1 = inr (inl (inl refl, small, ne)) in
    let two : Comes c 2 = inr (inl (inr refl, small, ne)) in
    (refl, (one, ((one, refl), (two, ((two, refl), rest)))))

-- And of the others.
others_its : (n : ℕ) → n ≤ 6 → AllByRecursion IsIts (others n)
others_its zero le = first_its 8 (omega arith)
others_its (suc n) le =
    let ne : n + 2 ≢ 1 = (λ e. let none : ⊥ = omega arith in none) in
    lives_its (n + 2) (others n) (omega arith) ne (others_its n (omega arith))

-- Cub 0 is not the next one.
not_next : (c : ℕ) → c ≡ 0 → c ≢ 1
not_next c e k = let none : ⊥ = omega arith in none

-- And so all are.
all_its : AllByRecursion IsIts one_return
all_its = (
  (refl, refl),
  (
    (refl, refl, refl),
    (
      (refl, refl, refl),
      (
        (refl, refl, refl, refl),
        (
          (refl, refl, refl, refl, refl),
          (
            (refl, refl, refl, refl),
            (
              (refl, refl),
              (
                (refl, refl),
                (
                  inr (inr (refl, refl)),
                  (
                    (inr (inr (refl, refl)), refl),
                    lives_its 0 (others 6) (omega arith) (not_next 0 refl)
                        (others_its 6 (omega arith)),
                  ),
                ),
              ),
            ),
          ),
        ),
      ),
    ),
  ),
)

its : (f : Fact) → Contains one_return f → IsIts f
its f h = All-contains IsIts one_return f (All-from_recursion IsIts one_return all_its) h

-- Cub c lives: these facts of it are in a list.
record Lives (c : ℕ) (fs : List Fact) : Type 0 where
  heard : IsIn (Heard c 1) fs
  came_one : IsIn (Came c 1) fs
  ended_one : IsIn (Ticked c 1 10000) fs
  came_two : IsIn (Came c 2) fs
  ended_two : IsIn (Ticked c 2 20000) fs

-- So it is of the cub that a list begins with.
lives_in : (c : ℕ) (more : List Fact) → Lives c (lives c more)
lives_in c more = record {
  heard = head;
  came_one = tail head;
  ended_one = tail (tail head);
  came_two = tail (tail (tail head));
  ended_two = tail (tail (tail (tail head)));
}

-- What is in a list is in it behind a cub that lives.
behind : (d : ℕ) {f : Fact} {more : List Fact} → IsIn f more → IsIn f (lives d more)
behind d h = tail (tail (tail (tail (tail h))))

-- The others live.
others_live : (n c : ℕ) → 2 ≤ c → c < n + 2 → Lives c (others n)
others_live zero c low high = absurd (omega arith)
others_live (suc n) c low high = ⊎_elim
    (λ (e : c ≡ n + 2).
    subst (λ v. Lives v (others (suc n))) (sym e) (lives_in (n + 2) (others n)))
    (λ (l : c < n + 2).
    let o = others_live n c low l in
    record {
      heard = behind (n + 2) o.heard;
      came_one = behind (n + 2) o.came_one;
      ended_one = behind (n + 2) o.ended_one;
      came_two = behind (n + 2) o.came_two;
      ended_two = behind (n + 2) o.ended_two;
    })
    (eq-or-lt_of_le (let w : c ≤ n + 2 = omega arith in w))

-- The first beat stands behind them.
others_first : (n : ℕ) {f : Fact} → IsIn f (first_beat 8) → IsIn f (others n)
others_first zero h = h
others_first (suc n) h = behind (n + 2) (others_first n h)

-- What is in the run's list from cub 0 on is in the run.
later : {f : Fact} → IsIn f (lives 0 (others 6)) → Contains one_return f
later h = (tail (tail (tail (tail (tail (tail (tail (tail (tail (tail h)))))))))).there

-- What is in the first beat is in the run.
at_first : {f : Fact} → IsIn f (first_beat 8) → Contains one_return f
at_first h = later (behind 0 (others_first 6 h))

-- What is in the run, one by one.
begun_in : IsIn (Begun order 0) one_return
begun_in = head

asked_in : IsIn (Asked 0 order 1) one_return
asked_in = tail head

put_in : IsIn (Put 0 viewer 1) one_return
put_in = tail (tail head)

inserted_in : IsIn (Inserted 0 viewer 0 1) one_return
inserted_in = tail (tail (tail head))

pub sent_in : IsIn (Sent 0 1 viewer 0 1) one_return
sent_in = tail (tail (tail (tail head)))

pub died_in : IsIn (Died 1 1) one_return
died_in = tail (tail (tail (tail (tail (tail head)))))

pub returned_in : IsIn (Returned 1 3) one_return
returned_in = tail (tail (tail (tail (tail (tail (tail head))))))

came_in : IsIn (Came 1 3) one_return
came_in = tail (tail (tail (tail (tail (tail (tail (tail head)))))))

pub ended_in : IsIn (Ticked 1 3 30000) one_return
ended_in = tail (tail (tail (tail (tail (tail (tail (tail (tail head))))))))

abbrev r : Facts
r = facts_in one_return

-- What the run has of a cub that lives.
record Living (c : ℕ) : Type 0 where
  heard : r.Heard c 1
  came_one : r.Came c 1
  ended_one : r.Ticked c 1 10000
  came_two : r.Came c 2
  ended_two : r.Ticked c 2 20000

-- Each cub but cub 1 lives.
living : (c : ℕ) → c < 8 → c ≢ 1 → Living c
living c small ne = ⊎_elim
    (λ (l : c < 1).
    let e : 0 ≡ c = omega arith in
    of_list (subst (λ v. Lives v (lives 0 (others 6))) e (lives_in 0 (others 6))))
    (λ (l : 1 ≤ c). ⊎_elim
    (λ (e : 1 ≡ c). absurd (ne (sym e)))
    (λ (h : 1 < c).
    let o = others_live 6 c (omega arith) small in
    of_list (record {
      heard = behind 0 o.heard;
      came_one = behind 0 o.came_one;
      ended_one = behind 0 o.ended_one;
      came_two = behind 0 o.came_two;
      ended_two = behind 0 o.ended_two;
    }))
    (eq-or-lt_of_le l))
    (cases_lt c 1)
  where
    -- What the list says the run has.
    of_list : {c : ℕ} → Lives c (lives 0 (others 6)) → Living c
    of_list o = record {
      heard = later o.heard;
      came_one = later o.came_one;
      ended_one = later o.ended_one;
      came_two = later o.came_two;
      ended_two = later o.ended_two;
    }

-- Who comes to a tick comes to it in the run.
comes : (c b : ℕ) → Comes c b → r.Came c b
comes c b k = ⊎_elim
    (λ q. subst (λ v. r.Came c v) (sym q.0) (at_first (in_first 8 c q.1).came))
    (λ k. ⊎_elim
    (λ q. ⊎_elim
    (λ (e : b ≡ 1). subst (λ v. r.Came c v) (sym e) (living c q.1 q.2).came_one)
    (λ (e : b ≡ 2). subst (λ v. r.Came c v) (sym e) (living c q.1 q.2).came_two)
    q.0)
    (λ q. subst (λ v. r.Came v b) (sym q.1) (subst (λ v. r.Came 1 v) (sym q.0) came_in.there))
    k)
    k

-- Nobody comes to a tick after beat 3, and to that of beat 3 only cub 1.
by_three : {c b : ℕ} → r.Came c b → (b ≤ 2) ⊎ ((b ≡ 3) × (c ≡ 1))
by_three {c} {b} h = ⊎_elim
    (λ q. let q0 = q.0 in inl (omega arith))
    (λ k. ⊎_elim
    (λ q. inl (⊎_elim (λ (e : b ≡ 1). omega arith) (λ (e : b ≡ 2). omega arith) q.0))
    (λ q. inr q)
    k)
    (its (Came c b) h)

-- Cub 1 comes to no tick between its death and its return.
away : {b : ℕ} → r.Came 1 b → 1 ≤ b → b ≡ 3
away {b} h low = ⊎_elim
    (λ q. let q0 = q.0 in absurd (omega arith))
    (λ k. ⊎_elim (λ q. absurd (q.2 refl)) (λ q. q.0) k)
    (its (Came 1 b) h)

-- In beats 0 to 2 each cub ends the beat in its first life, or it is cub 1, which has died.
upto_two : (d a : ℕ) → d < 8 → a ≤ 2 → LivedTo r d a ⊎ DiedBy r d a
upto_two d a small le = ⊎_elim
    (λ (l : a < 1).
    let e : 0 ≡ a = omega arith in
    inl (lived d a 0 le (subst (λ v. r.Ticked d v 0) e (at_first (in_first 8 d small).ticked))))
    (λ (l : 1 ≤ a). ⊎_elim
    (λ (e : d ≡ 1).
    let died = subst (λ v. r.Died v 1) (sym e) died_in.there in
    inr (record { beat = 1; died = died; by = l }))
    (λ ne.
    let o = living d small ne in
    inl (⊎_elim
    (λ (e : 1 ≡ a). lived d a 10000 le (subst (λ v. r.Ticked d v 10000) e o.ended_one))
    (λ (q : 1 < a).
    let e : 2 ≡ a = omega arith in
    lived d a 20000 le (subst (λ v. r.Ticked d v 20000) e o.ended_two))
    (eq-or-lt_of_le l)))
    (cases_eq d 1))
    (cases_lt a 1)
  where
    -- Nobody has come back by beat 2.
    lived : (d a l : ℕ) → a ≤ 2 → r.Ticked d a l → LivedTo r d a
    lived d a l le ticked = record {
      reading = l;
      ticked = ticked;
      first = λ w back. let e = (its (Returned d w) back).1 in omega arith;
    }

-- The cub after cub 1 is cub 2.
cub_two : cub_of small (1 + 1) ≡ 2
unfolding cub_of
cub_two = refl

-- The runner and the clocks: in beats 1 and 2 nobody waits for cub 1, and from its return on it is
-- in step with the others.
runs : RunLaws small r
runs = record {
  came = λ {c} {b} {l} h. comes c b (its (Ticked c b l) h).0;
  up = λ {c} {b} {d} {a} h less small.
      let le : b ≤ 3 = ⊎_elim
      (λ (l : b ≤ 2). omega arith)
      (λ q. let q0 = q.0 in omega arith)
      (by_three h) in
      upto_two d a small (omega arith);
  last = λ {c} {b} {a} h d first.
      let k = its (Died c a) d in
      let at = k.1 in
      ⊎_elim
      (λ (l : b < 1). omega arith)
      (λ (l : 1 ≤ b).
      let back = subst (λ v. r.Returned v 3) (sym k.0) returned_in.there in
      let before = first 3 back in
      let e = away (subst (λ v. r.Came v b) k.0 h) l in
      absurd (omega arith))
      (cases_lt b 1);
  again = λ {c} {b} {a} h d less.
      let k = its (Died c a) d in
      let at = k.1 in
      let e = away (subst (λ v. r.Came v b) k.0 h) (omega arith) in
      (3, subst (λ v. r.Returned v 3) (sym k.0) returned_in.there, omega arith, omega arith);
  returned = λ {c} {w} h.
      let k = its (Returned c w) h in
      let at = k.1 in
      let died = subst (λ v. r.Died v 1) (sym k.0) died_in.there in
      record { beat = 1; died = died; by = omega arith };
  returns = λ c b. ⊎_elim
      (λ (l : b < 3). inl (λ w back. let e = (its (Returned c w) back).1 in omega arith))
      (λ (l : 3 ≤ b). ⊎_elim
      (λ (e : c ≡ 1). inr (record {
        beat = 3;
        returned = subst (λ v. r.Returned v 3) (sym e) returned_in.there;
        by = l;
        last = λ w back le. let e = (its (Returned c w) back).1 in omega arith;
      }))
      (λ ne. inl (λ w back. absurd (ne (its (Returned c w) back).0)))
      (cases_eq c 1))
      (cases_lt b 3);
  apart = λ {c} {d} {a} {b} h k next.
      let one = (its (Died c a) h).0 in
      let other = (its (Died d b) k).0 in
      let two : 1 ≡ 2 = sym other ∙ next ∙ ap (λ v. cub_of small (v + 1)) one ∙ cub_two in
      absurd (omega arith);
  got_ended = λ {c} {m} {y} {b} {t} h l life. absurd (its (Got c t m y) h);
  reached_ended = λ {c} {v} {y} {b} h l life. absurd (its (Reached c v y) h);
  reads = λ {c} {b} {l} h.
      let time = time_is b in
      let at = (its (Ticked c b l) h).1 in
      let z : (time_of small b ≤ l) × (l ≤ time_of small b + 4000) = omega arith in
      z;
}

-- Heartbeats: beat 0 has one, beats 1 to 3 none, and nobody is believed dead.
watch : WatchLaws small r
watch = record {
  beats = λ {c} {b} {l} h first heart. ⊎_elim
      (λ k. subst (λ v. r.Beat c v) (sym k.0) (at_first (in_first 8 c k.1).beats))
      (λ k. absurd (⊎_elim
      (λ q. ⊎_elim
      (λ e. let none : 1 % 50 ≡ 0 = subst (λ v. v % 50 ≡ 0) e heart in omega arith)
      (λ e. let none : 2 % 50 ≡ 0 = subst (λ v. v % 50 ≡ 0) e heart in omega arith)
      q.0)
      (λ q. let none : 3 % 50 ≡ 0 = subst (λ v. v % 50 ≡ 0) q.0 heart in omega arith)
      k))
      (its (Ticked c b l) h).0;
  silent = λ {c} {b} h. absurd (its (Believed c b) h);
}

-- Nothing is stopped.
none : IsWithoutStops r
none = record {
  gone = λ v z h. its (Gone v z) h;
  at = λ v s n z h. its (StoppedAt v s n z) h;
  waiting = λ v d z h. its (StoppedWaiting v d z) h;
  told = λ a k v s q x h. its (Told a k v s q x) h;
  reached = λ c v y h. its (Reached c v y) h;
  tag = λ c v s q y h. its (GotTag c v s q y) h;
  bare = λ c v y h. its (GotBare c v y) h;
  passed = λ c v s q y h. its (Passed c v s q y) h;
}

-- One viewer is put.
one : OnePut r
one = record {
  puts = λ {c} {b} {t} h. its (Put c t b) h;
  inserts = λ {c} {n} {b} {t} h. its (Inserted c t n b) h;
  shows = λ {c} {n} {b} {t} h. its (Shows c t n b) h;
  sends = λ {a} {k} {m} {b} {t} h. its (Sent a k t m b) h;
  orders = λ {ask} {b} h. its (Begun ask b) h;
  asks = λ {c} {b} {ask} h. its (Asked c ask b) h;
  no_apart = λ {c} {b} {ask} h. its (AskedApart c ask b) h;
  no_took = λ {c} {n} {b} {t} h. its (Took c t n b) h;
  no_got = λ {c} {m} {b} {t} h. its (Got c t m b) h;
  unstopped = none;
  first = λ b w back. let none : 0 ≡ 1 = (its (Returned 0 w) back).0 in absurd (omega arith);
  came = (living 0 (omega arith) (not_next 0 refl)).came_one;
  ticked = (living 0 (omega arith) (not_next 0 refl)).ended_one;
  put = put_in.there;
  inserted = inserted_in.there;
  sent = sent_in.there;
  begun = begun_in.there;
  asked = asked_in.there;
}

-- So its facts meet the laws. The Put's state and a heartbeat do not come to cub 1, which was away
-- since they were sent; the other heartbeats come in beat 1.
pub laws : Laws small r
laws = record {
  run = runs;
  links = links r one
      (λ b h life late.
      let e = away h (omega arith) in
      let since = life 3 returned_in.there (omega arith) in
      omega arith)
      (λ a x c b beat h life late.
      let sent = (its (Beat a x) beat).0 in
      ⊎_elim
      (λ (e : c ≡ 1).
      let at = away (subst (λ v. r.Came v b) e h) (omega arith) in
      let since = life 3 (subst (λ v. r.Returned v 3) (sym e) returned_in.there) (omega arith) in
      absurd (omega arith))
      (λ ne. record {
        beat = 1;
        heard = (living c (small_of c b (its (Came c b) h)) ne).heard;
        after = omega arith;
        by = omega arith;
      })
      (cases_eq c 1));
  states = states r one;
  starts = starts r one;
  watch = watch;
  stops = no_stops small r none;
  holds = no_holds small r none;
}
  where
    -- Who comes to a tick is one of the eight cubs.
    small_of : (c b : ℕ) → Comes c b → c < 8
    small_of c b k = ⊎_elim
        (λ q. q.1)
        (λ k. ⊎_elim (λ q. q.1) (λ q. let e = q.1 in omega arith) k)
        k
