-- What the lists of ticks and heartbeats of a worked run have in them.
use Rattle.std.proofs.Common.{◌≡◌, ◌≢◌, ℕ, zero, suc, ◌+◌, ◌*◌, ◌<◌, ◌≤◌, refl, sym, ap, subst, ◌∙◌, arith, ⊎_elim, inl, inr, eq-or-lt_of_le}
use Rattle.std.specs.Prelude.{◌⊎◌, List, [], ◌∷◌, ◌++◌}
use Rattle.std.specs.List.{AllByRecursion, Contains, All}
use Rattle.std.proofs.lemmas.List.Elements.{All-from_recursion, All-append, Contains-append_left, Contains-append_right}
use Rattle.slot_plan.specs.Times.{cub_of}
use Rattle.proof_schedule.specs.Logs.{Fact, Came, Ticked, Beat, Heard}
use Rattle.proof_service.specs.Example.{plan, ticks_of, heard_from, all_ticks}
use Rattle.proof_service.proofs.ExampleFacts.{IsAtFirst, IsOn, IsIts}
use Rattle.proof_service.proofs.ExamplePlan.{cub_1, cub_2, one_before}

-- A cub is up in no beat after the last.
pub on_most : (long back : ℕ) → 20 < long → (c b : ℕ) → IsOn long back c b → b < long
on_most long back more c b on = ⊎_elim
    (λ o. ⊎_elim (λ k. let l = k.1 in omega arith) (λ k. k.1) o)
    (λ k. k.2)
    on

-- In beat b cub c comes to its tick, ends the beat, and sends a heartbeat.
pub record IsUp (log : List Fact) (c b : ℕ) : Type 0 where
  pub came : Contains log (Came c b)
  pub ticked : Contains log (Ticked c b (b * 10000))
  pub beats : Contains log (Beat c b)

-- What is in a list is in a longer one.
up_left : (xs ys : List Fact) (c b : ℕ) → IsUp xs c b → IsUp (xs ++ ys) c b
up_left xs ys c b h = record {
  came = Contains-append_left xs ys (Came c b) h.came;
  ticked = Contains-append_left xs ys (Ticked c b (b * 10000)) h.ticked;
  beats = Contains-append_left xs ys (Beat c b) h.beats;
}

up_right : (xs ys : List Fact) (c b : ℕ) → IsUp ys c b → IsUp (xs ++ ys) c b
up_right xs ys c b h = record {
  came = Contains-append_right xs ys (Came c b) h.came;
  ticked = Contains-append_right xs ys (Ticked c b (b * 10000)) h.ticked;
  beats = Contains-append_right xs ys (Beat c b) h.beats;
}

-- A cub is up in each of its first n beats.
up_in : (c n b : ℕ) → b < n → IsUp (ticks_of c n) c b
unfolding ticks_of
up_in c zero b l = absurd (omega arith)
up_in c (suc n) b l = ⊎_elim
    (λ (e : b ≡ n).
    subst (λ v. IsUp (ticks_of c (suc n)) c v) (sym e) (record {
      came = (0, omega arith, refl);
      ticked = (1, omega arith, refl);
      beats = (2, omega arith, refl);
    }))
    (λ (k : b < n).
    up_right (Came c n ∷ Ticked c n (n * 10000) ∷ Beat c n ∷ []) (ticks_of c n) c b (up_in c n b k))
    (eq-or-lt_of_le (let le : b ≤ n = omega arith in le))

-- What a cub hears in a beat after one of its predecessor's.
abbrev heard_at : ℕ → ℕ → Fact
heard_at c b = Heard (cub_of plan (c + 1)) (b + 1)

-- Each of its first n heartbeats is heard.
heard_in : (c n b : ℕ) → b < n → Contains (heard_from c n) (heard_at c b)
unfolding heard_from
heard_in c zero b l = absurd (omega arith)
heard_in c (suc n) b l = ⊎_elim
    (λ (e : b ≡ n).
    subst (λ v. Contains (heard_from c (suc n)) (heard_at c v)) (sym e) (0, omega arith, refl))
    (λ (k : b < n).
    Contains-append_right (heard_at c n ∷ []) (heard_from c n) (heard_at c b) (heard_in c n b k))
    (eq-or-lt_of_le (let le : b ≤ n = omega arith in le))

-- So many beats and heartbeats of each cub are those of a run of a length.
pub record AreBeatsOf (long : ℕ) (beats heard : ℕ → ℕ) : Type 0 where
  pub up : (c : ℕ) → ((c ≡ 1) × (beats c ≡ 20)) ⊎ ((c ≢ 1) × (beats c ≡ long))
  pub heard_next : (c : ℕ) → ((c ≡ 0) × (heard c ≡ 19))
      ⊎ (((c ≡ 1) × (heard c ≡ 20)) ⊎ ((2 ≤ c) × (heard c + 1 ≡ long)))

module _ (beats heard : ℕ → ℕ) where
  -- And so of the first n cubs: each is up in its beats,
  ups_in : (n c b : ℕ) → c < n → b < beats c → IsUp (all_ticks beats heard n) c b
  unfolding all_ticks
  ups_in zero c b l k = absurd (omega arith)
  ups_in (suc n) c b l k =
      let rest = heard_from n (heard n) ++ all_ticks beats heard n in
      ⊎_elim
      (λ (e : c ≡ n). subst
      (λ v. b < beats v → IsUp (all_ticks beats heard (suc n)) v b)
      (sym e)
      (λ k. up_left (ticks_of n (beats n)) rest n b (up_in n (beats n) b k))
      k)
      (λ (j : c < n). up_right (ticks_of n (beats n)) rest c b
      (up_right (heard_from n (heard n)) (all_ticks beats heard n) c b (ups_in n c b j k)))
      (eq-or-lt_of_le (let le : c ≤ n = omega arith in le))

  -- and is heard.
  hears_in : (n c b : ℕ) → c < n → b < heard c → Contains (all_ticks beats heard n) (heard_at c b)
  unfolding all_ticks
  hears_in zero c b l k = absurd (omega arith)
  hears_in (suc n) c b l k =
      let rest = all_ticks beats heard n in
      let ticks = ticks_of n (beats n) in
      let hears = heard_from n (heard n) in
      ⊎_elim
      (λ (e : c ≡ n). subst
      (λ v. b < heard v → Contains (all_ticks beats heard (suc n)) (heard_at v b))
      (sym e)
      (λ k. Contains-append_right ticks (hears ++ rest) (heard_at n b)
      (Contains-append_left hears rest (heard_at n b) (heard_in n (heard n) b k)))
      k)
      (λ (j : c < n). Contains-append_right ticks (hears ++ rest) (heard_at c b)
      (Contains-append_right hears rest (heard_at c b) (hears_in n c b j k)))
      (eq-or-lt_of_le (let le : c ≤ n = omega arith in le))

module _ (first long back : ℕ) (more : 20 < long) (beats heard : ℕ → ℕ)
    (of : AreBeatsOf long beats heard) where
  -- A beat below a cub's number of beats is one of its first life,
  at_first : (c b : ℕ) → b < beats c → IsAtFirst long c b
  at_first c b l = ⊎_elim
      (λ k. let e = k.1 in inl (k.0, omega arith))
      (λ k. let e = k.1 in inr (k.0, omega arith))
      (of.up c)

  -- and the other way round.
  below_beats : (c b : ℕ) → IsAtFirst long c b → b < beats c
  below_beats c b at = ⊎_elim
      (λ k. ⊎_elim
      (λ h. let e = k.1 in let l = h.1 in omega arith)
      (λ h. absurd (h.0 k.0))
      at)
      (λ k. ⊎_elim
      (λ h. absurd (k.0 h.0))
      (λ h. let e = k.1 in let l = h.1 in omega arith)
      at)
      (of.up c)

  -- What is heard of a cub it sent in its first life, and the next one is up when it hears that.
  heard_first : (c b : ℕ) → c < 8 → b < heard c
      → IsAtFirst long c b × IsAtFirst long (cub_of plan (c + 1)) (b + 1)
  heard_first c b small l = ⊎_elim
      (λ k.
      let e = k.1 in
      let other : c ≢ 1 = (λ e. let z = k.0 in omega arith) in
      let sum : c + 1 ≡ 1 = (let z = k.0 in omega arith) in
      let next : cub_of plan (c + 1) ≡ 1 = ap (λ v. cub_of plan v) sum ∙ cub_1 in
      (inr (other, omega arith), inl (next, omega arith)))
      (λ o. ⊎_elim
      (λ k.
      let e = k.1 in
      let sum : c + 1 ≡ 2 = (let z = k.0 in omega arith) in
      let next : cub_of plan (c + 1) ≡ 2 = ap (λ v. cub_of plan v) sum ∙ cub_2 in
      (inl (k.0, omega arith), inr (λ e. omega arith, omega arith)))
      (λ k.
      let e = k.1 in
      let low = k.0 in
      let next : cub_of plan (c + 1) ≢ 1 =
      (λ e. let z = one_before c 0 small (omega arith) (e ∙ sym cub_1) in omega arith) in
      (inr (λ e. omega arith, omega arith), inr (next, omega arith)))
      o)
      (of.heard_next c)

  -- So each fact about a cub's ticks is one of the run's,
  ticks_its : (c n : ℕ) → c < 8 → n ≤ beats c
      → AllByRecursion (IsIts first long back) (ticks_of c n)
  unfolding ticks_of
  ticks_its c zero small le = tt
  ticks_its c (suc b) small le =
      let at = at_first c b (omega arith) in
      ((small, inl at), ((small, inl at, refl), ((small, at), ticks_its c b small (omega arith))))

  -- and each about what is heard of it.
  heard_its : (c n : ℕ) → c < 8 → n ≤ heard c
      → AllByRecursion (IsIts first long back) (heard_from c n)
  unfolding heard_from
  heard_its c zero small le = tt
  heard_its c (suc b) small le =
      let o = heard_first c b small (omega arith) in
      ((c, b, small, o.0, refl, refl, inl o.1), heard_its c b small (omega arith))

  -- So is each fact about the ticks of all cubs.
  pub ticks_are_its : (n : ℕ) → n ≤ 8 → All (IsIts first long back) (all_ticks beats heard n)
  unfolding all_ticks
  ticks_are_its zero le = All-from_recursion (IsIts first long back) [] tt
  ticks_are_its (suc c) le =
      let is : Fact → Type 0 = IsIts first long back in
      let ticks = ticks_of c (beats c) in
      let hears = heard_from c (heard c) in
      let rest = all_ticks beats heard c in
      All-append is ticks (hears ++ rest)
      (All-from_recursion is ticks (ticks_its c (beats c) (omega arith) (omega arith)))
      (All-append is hears rest
      (All-from_recursion is hears (heard_its c (heard c) (omega arith) (omega arith)))
      (ticks_are_its c (omega arith)))

  -- Each cub is up in each beat of its first life.
  pub up_first : (c b : ℕ) → c < 8 → IsAtFirst long c b → IsUp (all_ticks beats heard 8) c b
  up_first c b small at = ups_in beats heard 8 c b small (below_beats c b at)

  -- The next cub hears of that in the next beat, if it is up then, unless it has come back since.
  pub hears_first : (a x : ℕ) → a < 8 → IsAtFirst long a x
      → IsOn long back (cub_of plan (a + 1)) (x + 1)
      → Contains (all_ticks beats heard 8) (Heard (cub_of plan (a + 1)) (x + 1))
      ⊎ ((a ≡ 0) × (back ≤ x + 1) × (x + 1 < long))
  hears_first a x small at on = ⊎_elim
      (λ k.
      let e = k.1 in
      let sum : a + 1 ≡ 1 = (let z = k.0 in omega arith) in
      let one : cub_of plan (a + 1) ≡ 1 = ap (λ v. cub_of plan v) sum ∙ cub_1 in
      ⊎_elim
      (λ o. ⊎_elim
      (λ h. let l = h.1 in inl (hears_in beats heard 8 a x small (omega arith)))
      (λ h. absurd (h.0 one))
      o)
      (λ o. inr (k.0, o.1, o.2))
      on)
      (λ o. ⊎_elim
      (λ k.
      let e = k.1 in
      inl (hears_in beats heard 8 a x small (⊎_elim
      (λ h. let l = h.1 in omega arith)
      (λ h. absurd (h.0 k.0))
      at)))
      (λ k.
      let e = k.1 in
      let l = on_most long back more (cub_of plan (a + 1)) (x + 1) on in
      inl (hears_in beats heard 8 a x small (omega arith)))
      o)
      (of.heard_next a)
