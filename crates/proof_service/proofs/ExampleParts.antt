-- What a worked run's list of the parts that are sent gives of the laws of pieces and of blocks.
use Rattle.std.proofs.Common.{◌≡◌, ◌≢◌, ℕ, ◌+◌, ◌-◌, ◌*◌, ◌<◌, ◌≤◌, refl, sym, ap, subst, ◌∙◌, arith, ⊎_elim, inl, inr}
use Rattle.std.specs.Prelude.{◌⊎◌, List}
use Rattle.std.proofs.lemmas.Bool.{cases_lt, cases_eq}
use Rattle.slot_plan.specs.Times.{cub_of}
use Rattle.proof_schedule.specs.Facts.{Facts, Ended, BelievedBy, IsFirstLife, IsSameLife}
use Rattle.proof_schedule.specs.Logs.{Fact, facts_in, Ticked, Heard, Believed}
use Rattle.proof_pieces.specs.PieceFacts.{PieceFacts, leave, Arises}
use Rattle.proof_pieces.specs.PieceLaws.{IsThere, WasAsked, WasUndue}
use Rattle.proof_service.specs.Blocks.{LeftInTime}
use Rattle.proof_service.specs.Example.{plan}
use Rattle.proof_service.specs.ServiceFacts.{ServiceFacts}
use Rattle.proof_service.specs.ServiceLaws.{HeardTill, WasUp, IsAnswered}
use Rattle.proof_service.proofs.ExampleFacts.{viewer_from, IsAtFirst, IsOn, IsWorked, IsTimed}
use Rattle.proof_service.proofs.ExampleLives.{back_is, first_other, ended}
use Rattle.proof_service.proofs.ExamplePlan.{time_is, cub_2, before, one_before}
use Rattle.proof_service.proofs.ExampleSchedule.{none}
use Rattle.proof_service.proofs.ExampleTicks.{on_most}

module _ (first long back : ℕ) (log : List Fact)
    (at : IsTimed first long back) (is : IsWorked first long back log) where
  abbrev r : Facts
  r = facts_in log

  -- What a tick says of its cub and of its reading.
  pub tick_is : {c b l : ℕ} → r.Ticked c b l → (c < 8) × IsOn long back c b × (l ≡ b * 10000)
  tick_is {c} {b} {l} h = is.its (Ticked c b l) h

  -- Readings never fall.
  pub rising : {c a b l m : ℕ} → r.Ticked c a l → r.Ticked c b m → a ≤ b → l ≤ m
  rising h k le = let low = (tick_is h).2 in let high = (tick_is k).2 in omega arith

  -- Who comes back ends each beat from that on.
  pub back_ended : {c x b : ℕ} → r.Returned c x → x ≤ b → b < long → Ended r c b
  back_ended {c} {x} {b} h low l =
      let k = back_is first long back log at is h in
      let one = k.0 in
      let when = k.1 in
      ended first long back log at is c b (omega arith) (inr (k.0, omega arith, l))

  -- Cub 2 believes cub 1 dead from beat 121 on.
  pub believed_by : (b : ℕ) → 121 ≤ b → BelievedBy r 2 b
  believed_by b late =
      record { beat = 121; believed = is.few (Believed 2 121) (15, omega arith, refl); by = late }

  -- A cub has heard the one before it in each beat but the first, or believes it dead, or the run
  -- has just begun.
  pub watches : {c b l : ℕ} → r.Ticked c b l
      → BelievedBy r c b ⊎ (HeardTill plan r c b l ⊎ (l ≤ 1000000))
  watches {c} {b} {l} h =
      let k = tick_is h in
      let reading = k.2 in
      let a = before c k.0 in
      let high = at.high in
      let most = on_most long back (omega arith) c b k.1 in
      ⊎_elim
      (λ (early : b < 101). inr (inr (omega arith)))
      (λ (late : 101 ≤ b). ⊎_elim
      (λ (one : a.0 ≡ 1).
      let sum : a.0 + 1 ≡ 2 = omega arith in
      let two : c ≡ 2 = a.2 ∙ ap (λ v. cub_of plan v) sum ∙ cub_2 in
      ⊎_elim
      (λ (less : b < 121).
      let t = time_is 20 in
      let on : IsOn long back 2 20 = inl (inr (λ e. omega arith, omega arith)) in
      let next = subst (λ v. IsOn long back v 20) (sym cub_2) on in
      let sent : IsAtFirst long 1 19 = inl (refl, omega arith) in
      let heard = is.hears 1 19 (omega arith) sent next in
      let here = subst (λ v. r.Heard v 20) (cub_2 ∙ sym two) heard in
      inr (inl (record { beat = 20; heard = here; by = omega arith; till = omega arith })))
      (λ (more : 121 ≤ b). inl (rw two (believed_by b more)))
      (cases_lt b 121))
      (λ (other : a.0 ≢ 1).
      let t = time_is (b - 1 + 1) in
      let same : b ≡ b - 1 + 1 = omega arith in
      let on : IsOn long back c (b - 1 + 1) = subst (λ v. IsOn long back c v) same k.1 in
      let next = subst (λ v. IsOn long back v (b - 1 + 1)) a.2 on in
      let sent : IsAtFirst long a.0 (b - 1) = inr (other, omega arith) in
      let heard = is.hears a.0 (b - 1) a.1 sent next in
      let here = subst (λ v. r.Heard v (b - 1 + 1)) (sym a.2) heard in
      inr (inl (record { beat = b - 1 + 1; heard = here; by = omega arith; till = omega arith })))
      (cases_eq a.0 1))
      (cases_lt b 101)

  -- What a cub hears its predecessor sent a beat before, in its first life.
  pub heard_from : {c d y : ℕ} → r.Heard c y → d < 8 → c ≡ cub_of plan (d + 1) → WasUp plan r d y
  heard_from {c} {d} {y} h small next =
      let k = is.its (Heard c y) h in
      let same : k.0 ≡ d = one_before k.0 d k.2 small (sym k.4 ∙ next) in
      let when = k.5 in
      let sent = subst (λ v. IsAtFirst long v k.1) same k.3 in
      let alone : IsFirstLife r d k.1 = ⊎_elim
      (λ o x again.
      let m = (back_is first long back log at is again).1 in
      let death = at.death in
      let early = o.1 in
      omega arith)
      (λ o. first_other first long back log at is d k.1 o.0)
      sent in
      record {
        beat = k.1;
        came = is.came d k.1 small (inl sent);
        first = alone;
        before = omega arith;
        soon = omega arith;
      }

  -- The first beat at which a time has come that is a beat's.
  first_beat : {c b l time : ℕ} (m : ℕ) → time ≡ m * 10000 → r.Ticked c b l → time ≤ l
      → WasUndue plan r c b time 0 → b ≡ m
  first_beat {c} {b} {l} {time} m e h past u =
      let now = (tick_is h).2 in
      let then = (tick_is u.ticked).2 in
      let next = u.next in
      let undue = u.undue in
      omega arith

  -- Part j of visit n is one that cub c sends in beat s: its record entered more than ten beats
  -- before, and the cub is up in these.
  pub record IsSent (q : PieceFacts) (c n j s : ℕ) : Type 0 where
    pub here : c ≡ cub_of plan (n + j)
    pub small : c < 8
    pub few : j ≤ 2
    pub leaves : leave plan (viewer_from first) n j ≡ s * 10000
    pub beat : ℕ
    pub arises : Arises r q c (viewer_from first) n j beat
    pub before : beat + 10 < s
    pub life : IsSameLife r c beat s
    pub up : (b : ℕ) → beat ≤ b → b ≤ s → IsOn long back c b

  -- Each part is asked for ten beats before it is sent, and stored two beats later.
  pub record ArePartsOf (q : PieceFacts) (w : ServiceFacts)
      (IsPart : ℕ → ℕ → ℕ → ℕ → Type 0) : Type 0 where
    pub sent : {c n j s : ℕ} → IsPart c n j s → IsSent q c n j s
    pub asked : {c n j s : ℕ} → IsPart c n j s → q.Asks c (viewer_from first) n j (s - 10)
    pub stored : {c n j s : ℕ} → IsPart c n j s → w.Stored c (viewer_from first) n j (s - 8)
    pub served : {c n j s : ℕ} → IsPart c n j s → q.Serves c (viewer_from first) n j s

  -- At its tick of beat b a cub uses a part, within a lead after which the part leaves.
  there : {q : PieceFacts} {c n j s : ℕ} (b lead : ℕ) → (k : IsSent q c n j s)
      → b * 10000 + lead ≡ s * 10000 → k.beat < b → b ≤ s
      → IsThere plan r q c (viewer_from first) n j b lead
  there {q} {c} {n} {j} {s} b lead k sum late high =
      let time = time_is b in
      let leaves = k.leaves in
      let on = k.up b (omega arith) high in
      let then = k.up (b - 1) (omega arith) (omega arith) in
      record {
        reading = b * 10000;
        tick = record { came = is.came c b k.small on; low = omega arith; high = omega arith };
        whole = inl (is.ticked c b k.small on);
        here = k.here;
        few = k.few;
        beat = k.beat;
        arises = k.arises;
        by = omega arith;
        life = λ x back le. k.life x back (omega arith);
        since = λ x h le same. absurd ((none first long back log at is).reached c 0 x h);
        soon = omega arith;
        fresh = inr (record {
          beat = b - 1;
          reading = (b - 1) * 10000;
          ticked = is.ticked c (b - 1) k.small then;
          next = omega arith;
          undue = omega arith;
        });
      }

  module _ (q : PieceFacts) (w : ServiceFacts) (IsPart : ℕ → ℕ → ℕ → ℕ → Type 0)
      (of : ArePartsOf q w IsPart) where
    -- A part is asked for ten beats before it leaves,
    pub asks_there : {c n j b : ℕ} → IsPart c n j (b + 10)
        → IsThere plan r q c (viewer_from first) n j b 100000
    asks_there {c} {n} {j} {b} k =
        let o = of.sent k in
        let before = o.before in
        there b 100000 o (omega arith) (omega arith) (omega arith)

    -- and sent in the beat in which it leaves.
    pub serves_there : {c n j b : ℕ} → IsPart c n j b
        → IsThere plan r q c (viewer_from first) n j b 0
    serves_there {c} {n} {j} {b} k =
        let o = of.sent k in
        let before = o.before in
        there b 0 o (omega arith) (omega arith) (omega arith)

    -- So it was asked for.
    pub was_asked : {c n j b : ℕ} → IsPart c n j b → WasAsked q c (viewer_from first) n j b
    was_asked {c} {n} {j} {b} k = record {
      tenancy = viewer_from first;
      same = refl;
      asked = record { beat = b - 10; asks = of.asked k; by = omega arith };
    }

    -- The answer to each ask comes two beats later.
    pub answered : {c n j b : ℕ} → IsPart c n j (b + 10)
        → IsAnswered plan r w c (viewer_from first) n j b
    answered {c} {n} {j} {b} k =
        let sum : b + 10 - 8 ≡ b + 2 = omega arith in
        let stored = subst (λ v. w.Stored c (viewer_from first) n j v) sum (of.stored k) in
        record { beat = b + 2; later = omega arith; soon = omega arith; what = inl (inl stored) }

    -- What is stored is sent in the beat in which it leaves.
    pub sent_then : {c n j s b l : ℕ} → IsPart c n j s → r.Ticked c b l
        → leave plan (viewer_from first) n j ≤ l
        → WasUndue plan r c b (leave plan (viewer_from first) n j) 0
        → q.Serves c (viewer_from first) n j b
    sent_then {c} {n} {j} {s} {b} {l} k h past u =
        let same = first_beat s (of.sent k).leaves h past u in
        subst (λ v. q.Serves c (viewer_from first) n j v) (sym same) (of.served k)

    -- And it comes in time.
    pub left_in_time : {c n j s : ℕ} (end : ℕ) → IsPart c n j s → s + 2 < end
        → LeftInTime plan q end c (viewer_from first) n j
    left_in_time {c} {n} {j} {s} end k l =
        let time = time_is s in
        let leaves = (of.sent k).leaves in
        record { beat = s; serves = of.served k; low = omega arith; high = omega arith; got = l }
