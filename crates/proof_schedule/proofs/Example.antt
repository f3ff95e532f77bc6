-- The facts of the two worked runs meet all laws, since most of these find no premise.
use Rattle.std.proofs.Common.{◌≡◌, ℕ, zero, suc, ◌+◌, ◌%◌, ◌<◌, ◌≤◌, refl, sym, subst, arith, ⊎_elim, inl, inr}
use Rattle.std.specs.Prelude.{◌⊎◌}
use Rattle.std.specs.List.{AllByRecursion, Contains}
use Rattle.std.proofs.lemmas.List.Elements.{All-from_recursion, All-contains}
use Rattle.slot_plan.specs.Conditions.{IsPlan}
use Rattle.slot_plan.specs.Times.{time_of}
use Rattle.slot_plan.specs.Samples.{small}
use Rattle.proof_schedule.specs.Example.{order, viewer, first_beat, one_put, LawsCanBeMet}
use Rattle.proof_schedule.specs.Facts.{Facts, NobodyReturns}
use Rattle.proof_schedule.specs.Laws.{Laws}
use Rattle.proof_schedule.specs.RunLaws.{RunLaws}
use Rattle.proof_schedule.specs.WatchLaws.{WatchLaws}
use Rattle.proof_schedule.specs.Logs.{Fact, facts_in, Came, Ticked, Put, Inserted, Took, Shows, Sent, Got, Begun, Asked, AskedApart, Gone, StoppedAt, StoppedWaiting, Told, Reached, GotTag, GotBare, Passed, Died, Returned, Beat, Believed}
use Rattle.proof_schedule.proofs.ExamplePut.{IsIn, head, tail, in_first, time_is, OnePut, links, states, starts}
use Rattle.proof_schedule.proofs.ExampleReturn as returning
use Rattle.proof_schedule.proofs.Lives.{nobody_first, nobody_returns}
use Rattle.proof_schedule.proofs.Unstopped.{IsWithoutStops, no_stops, no_holds}

-- Each fact of the run with one Put is one of these: of a kind that is not listed there is none.
abbrev IsIts : Fact → Type 0
IsIts (Came c b) = ((b ≡ 0) × (c < 8)) ⊎ ((b ≡ 1) × (c ≡ 0))
IsIts (Ticked c b l) = ((b ≡ 0) × (c < 8) × (l ≡ 0)) ⊎ ((b ≡ 1) × (c ≡ 0) × (l ≡ 10000))
IsIts (Put c t b) = (c ≡ 0) × (t ≡ viewer) × (b ≡ 1)
IsIts (Inserted c t n b) = (c ≡ 0) × (t ≡ viewer) × (n ≡ 0) × (b ≡ 1)
IsIts (Shows c t n b) = (c ≡ 0) × (t ≡ viewer) × (n ≡ 0) × (b ≡ 1)
IsIts (Sent a k t m b) = (a ≡ 0) × (k ≡ 1) × (t ≡ viewer) × (m ≡ 0) × (b ≡ 1)
IsIts (Begun ask b) = (ask ≡ order) × (b ≡ 0)
IsIts (Asked c ask b) = (c ≡ 0) × (ask ≡ order) × (b ≡ 1)
IsIts (Beat c b) = (b ≡ 0) × (c < 8)
IsIts other = ⊥

-- In the first beat they are.
first_its : (n : ℕ) → n ≤ 8 → AllByRecursion IsIts (first_beat n)
first_its zero le = tt
first_its (suc n) le =
    let small : n < 8 = omega arith in
    (inl (refl, small), ((inl (refl, small, refl)), ((refl, small), first_its n (omega arith))))

-- And so all are.
all_its : AllByRecursion IsIts one_put
all_its = (
  (refl, refl),
  (
    (refl, refl, refl),
    (
      inr (refl, refl),
      (
        inr (refl, refl, refl),
        (
          (refl, refl, refl),
          (
            (refl, refl, refl, refl),
            (
              (refl, refl, refl, refl, refl),
              (
                (refl, refl, refl, refl),
                first_its 8 (omega arith),
              ),
            ),
          ),
        ),
      ),
    ),
  ),
)

its : (f : Fact) → Contains one_put f → IsIts f
its f h = All-contains IsIts one_put f (All-from_recursion IsIts one_put all_its) h

-- What is in the first beat is in the run.
later : {f : Fact} → IsIn f (first_beat 8) → Contains one_put f
later h = (tail (tail (tail (tail (tail (tail (tail (tail h)))))))).there

abbrev r : Facts
r = facts_in one_put

-- With a heartbeat in each beat of a number up to 50 the small plan meets all conditions.
pub beating_plan : (heart : ℕ) → 1 ≤ heart → heart ≤ 50 → IsPlan (record small { heart = heart })
beating_plan heart some few = record {
  ranges = record {
    cubs = omega arith;
    disks = omega arith;
    slots = omega arith;
    play = omega arith;
    pieces = omega arith;
    block = omega arith;
    beat = omega arith;
    delay = omega arith;
    skew = omega arith;
    window_a = omega arith;
    window_b = omega arith;
    read_lead = omega arith;
    min_lead = omega arith;
    max_lead = omega arith;
    batch = omega arith;
    heart = (some, omega (arith, few));
    deadman = omega arith;
    hold = omega arith;
  };
  c1 = omega arith;
  c2 = omega arith;
  c3 = omega arith;
  c4 = omega arith;
  c5 = omega arith;
  c6 = omega arith;
  c7 = omega arith;
  c8 = omega arith;
  c9 = omega arith;
  c10 = omega arith;
  c11 = omega (arith, few);
  c12 = omega arith;
}

plan : IsPlan small
plan = beating_plan 50 (omega arith) (omega arith)

-- What is in the run, one by one.
came_in : IsIn (Came 0 1) one_put
came_in = tail (tail head)

ticked_in : IsIn (Ticked 0 1 10000) one_put
ticked_in = tail (tail (tail head))

put_in : IsIn (Put 0 viewer 1) one_put
put_in = tail (tail (tail (tail head)))

inserted_in : IsIn (Inserted 0 viewer 0 1) one_put
inserted_in = tail (tail (tail (tail (tail head))))

sent_in : IsIn (Sent 0 1 viewer 0 1) one_put
sent_in = tail (tail (tail (tail (tail (tail head)))))

begun_in : IsIn (Begun order 0) one_put
begun_in = head

asked_in : IsIn (Asked 0 order 1) one_put
asked_in = tail head

-- Nobody comes back.
stay : NobodyReturns r
stay c w h = its (Returned c w) h

-- The runner and the clocks: before cub 0 comes to beat 1 each cub has ended beat 0.
runs : RunLaws small r
runs = record {
  came = λ {c} {b} {l} h. ⊎_elim
      (λ k. subst (λ v. r.Came c v) (sym k.0) (later (in_first 8 c k.1).came))
      (λ k. subst (λ v. r.Came c v) (sym k.0) (subst (λ v. r.Came v 1) (sym k.1) came_in.there))
      (its (Ticked c b l) h);
  up = λ {c} {b} {d} {a} h less small. ⊎_elim
      (λ k. let k0 = k.0 in absurd (omega arith))
      (λ k.
      let k0 = k.0 in
      let none : a ≡ 0 = omega arith in
      let ticked = subst (λ v. r.Ticked d v 0) (sym none) (later (in_first 8 d small).ticked) in
      inl (record { reading = 0; ticked = ticked; first = nobody_first r d a stay }))
      (its (Came c b) h);
  last = λ {c} {b} {a} h d first. absurd (its (Died c a) d);
  again = λ {c} {b} {a} h d less. absurd (its (Died c a) d);
  returned = λ {c} {w} h. absurd (stay c w h);
  returns = λ c b. nobody_returns r c b stay;
  apart = λ {c} {d} {a} {b} h k e. its (Died c a) h;
  got_ended = λ {c} {m} {y} {b} {t} h l life. absurd (its (Got c t m y) h);
  reached_ended = λ {c} {v} {y} {b} h l life. absurd (its (Reached c v y) h);
  reads = λ {c} {b} {l} h.
      let time = time_is b in
      ⊎_elim
      (λ k.
      let k0 = k.0 in
      let k2 = k.2 in
      let z : (time_of small b ≤ l) × (l ≤ time_of small b + 4000) = omega arith in
      z)
      (λ k.
      let k0 = k.0 in
      let k2 = k.2 in
      let z : (time_of small b ≤ l) × (l ≤ time_of small b + 4000) = omega arith in
      z)
      (its (Ticked c b l) h);
}

-- No cub comes to a tick after beat 1.
early : {c b : ℕ} → r.Came c b → b ≤ 1
early {c} {b} h = ⊎_elim
    (λ k. let k0 = k.0 in omega arith)
    (λ k. let k0 = k.0 in omega arith)
    (its (Came c b) h)

-- Heartbeats: beat 0 has one, beat 1 none, and nobody is believed dead.
watch : WatchLaws small r
watch = record {
  beats = λ {c} {b} {l} h first heart. ⊎_elim
      (λ k. subst (λ v. r.Beat c v) (sym k.0) (later (in_first 8 c k.1).beats))
      (λ k. let none : 1 % 50 ≡ 0 = subst (λ v. v % 50 ≡ 0) k.0 heart in absurd (omega arith))
      (its (Ticked c b l) h);
  silent = λ {c} {b} h. absurd (its (Believed c b) h);
}

-- Nothing is stopped.
none : IsWithoutStops r
none = record {
  gone = λ v z h. its (Gone v z) h;
  at = λ v s n z h. its (StoppedAt v s n z) h;
  waiting = λ v d z h. its (StoppedWaiting v d z) h;
  told = λ a k v s q x h. its (Told a k v s q x) h;
  reached = λ c v y h. its (Reached c v y) h;
  tag = λ c v s q y h. its (GotTag c v s q y) h;
  bare = λ c v y h. its (GotBare c v y) h;
  passed = λ c v s q y h. its (Passed c v s q y) h;
}

-- One viewer is put.
one : OnePut r
one = record {
  puts = λ {c} {b} {t} h. its (Put c t b) h;
  inserts = λ {c} {n} {b} {t} h. its (Inserted c t n b) h;
  shows = λ {c} {n} {b} {t} h. its (Shows c t n b) h;
  sends = λ {a} {k} {m} {b} {t} h. its (Sent a k t m b) h;
  orders = λ {ask} {b} h. its (Begun ask b) h;
  asks = λ {c} {b} {ask} h. its (Asked c ask b) h;
  no_apart = λ {c} {b} {ask} h. its (AskedApart c ask b) h;
  no_took = λ {c} {n} {b} {t} h. its (Took c t n b) h;
  no_got = λ {c} {m} {b} {t} h. its (Got c t m b) h;
  unstopped = none;
  first = λ b. nobody_first r 0 b stay;
  came = came_in.there;
  ticked = ticked_in.there;
  put = put_in.there;
  inserted = inserted_in.there;
  sent = sent_in.there;
  begun = begun_in.there;
  asked = asked_in.there;
}

-- So its facts meet the laws: the state and the heartbeats are under way yet.
laws : Laws small r
laws = record {
  run = runs;
  links = links r one
      (λ b h life late. let l = early h in omega arith)
      (λ a x c b beat h life late. let l = early h in absurd (omega arith));
  states = states r one;
  starts = starts r one;
  watch = watch;
  stops = no_stops small r none;
  holds = no_holds small r none;
}

-- So the laws can be met.
pub laws_met : LawsCanBeMet
laws_met = (
  plan,
  laws,
  put_in.there,
  returning.laws,
  returning.sent_in.there,
  returning.died_in.there,
  returning.returned_in.there,
  returning.ended_in.there,
)
