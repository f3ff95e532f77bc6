-- All that is asked for at a visit of a slot is of one tenancy, and each piece once.
use Rattle.std.proofs.Common.{◌≡◌, ◌≢◌, ℕ, ◌+◌, ◌-◌, ◌<◌, ◌≤◌, refl, sym, ap, subst, ◌∙◌, arith, ⊎_elim, inl, inr, eq-or-lt_of_le}
use Rattle.std.specs.Prelude.{◌⊎◌}
use Rattle.std.proofs.lemmas.Bool.{cases_lt, cases_eq}
use Rattle.tiger_base.specs.declared.tenancy.Tenancy.{Tenancy}
use Rattle.slot_plan.specs.declared.params.Params.{Params}
use Rattle.slot_plan.specs.Times.{time_of, due, cub_of}
use Rattle.slot_plan.proofs.Times.{time_add, time_next, time_mono, time_below, due_next, due_later, due_add, due_mono, cub_below, cub_ahead, cub_round, same_cub}
use Rattle.proof_schedule.specs.Facts.{Facts, ReachedBy, Cut, IsSameLife}
use Rattle.proof_schedule.specs.HoldLaws.{horizon}
use Rattle.proof_schedule.specs.LinkLaws.{TagFromCub}
use Rattle.proof_schedule.specs.Schedule.{IsHeld}
use Rattle.proof_schedule.specs.StateLaws.{PutsOwn, PutsForDead}
use Rattle.proof_schedule.proofs.Ahead.{base_first, is_ahead}
use Rattle.proof_schedule.proofs.Ends.{IsEnd, end_of, one_put}
use Rattle.proof_schedule.proofs.Reach.{enters, told_at_once}
use Rattle.proof_schedule.proofs.Waves.{reached_after, bare}
use Rattle.proof_schedule.proofs.Lives.{first_same_life, same_life_later, same_life_since_stop}
use Rattle.proof_schedule.proofs.Silence.{all_heard, believed_died}
use Rattle.proof_schedule.proofs.Timely.{put_in_time}
use Rattle.proof_schedule.proofs.Invariant.{Setting}
use Rattle.proof_pieces.specs.PieceFacts.{PieceFacts}
use Rattle.proof_pieces.specs.PieceLaws.{PieceLaws, IsThere, IsForgotten}
use Rattle.proof_pieces.proofs.Entries.{Origin, origin, kind_of, split_first_life, arises_held, asks_once}
use Rattle.proof_pieces.proofs.Leaving.{leave_after, lead}
use Rattle.proof_pieces.proofs.Stopped.{split_unreached, there_unreached, used_forgotten, not_late}

-- Suppose that tenancy u was stopped before t was put in its slot, and cut where t was put; and
-- that in beat b cub d asks for piece j of visit n by a record of u.
module _ (p : Params) (r : Facts) (g : Setting p r) (q : PieceFacts) (m : PieceLaws p r q)
    (u : Tenancy) (xu z base : ℕ) (e : IsEnd p r u xu z base)
    (t : Tenancy) (ct xt : ℕ) (it : r.Put ct t xt) (le : xu ≤ xt) (sl : u.slot.0 ≡ t.slot.0) (zx : z < xt) (cut : Cut p r ct u.instance.0 xt)
    (d n j b : ℕ) (asks : q.Asks d u n j b) where
  -- The ask is within the read lead of the due time.
  near : due p u.slot.0 n ≤ time_of p b + p.skew + p.read_lead
  near =
      let k = m.asks asks in
      let soon = k.soon in
      let reads = k.tick.high in
      let after = leave_after p u n j in
      omega arith

  -- Visits of the two tenancies are due at the same times.
  same_due : (k : ℕ) → due p u.slot.0 k ≡ due p t.slot.0 k
  same_due k = ap (λ v. due p v k) sl

  -- The visit is not one behind the newer tenancy's first: then the ask would be too late after the
  -- stop.
  later_visit : t.first < n → ⊥
  later_visit l =
      let h = near in
      let d = same_due n in
      let far = due_later p t.slot.0 t.first n l in
      let timely = put_in_time p g.room r g.law it in
      let leads = lead p g.ok in
      let mono = time_mono p z xt (omega arith) in
      not_late p r g q m u xu z base e (inl asks) (omega arith)

  -- If it is the first, the ask is more than a way after the newer one's Put.
  behind : t.first ≡ n → xt + p.delay < b
  behind f =
      let h = near in
      let d = same_due n in
      let df = ap (λ v. due p t.slot.0 v) f in
      let timely = put_in_time p g.room r g.law it in
      let leads = lead p g.ok in
      let add = time_add p xt p.delay in
      time_below p (xt + p.delay) b (omega arith)

  -- And the stop is less than a play time before that Put.
  too_late : t.first ≡ n → time_of p z + p.play ≤ time_of p xt → ⊥
  too_late f late =
      let h = behind f in
      let some = g.room.beat in
      let next = time_next p xt in
      let mono = time_mono p (xt + 1) b (omega arith) in
      not_late p r g q m u xu z base e (inl asks) (omega arith)

  -- The cub that uses the whole block has not been away since the stop: its record is due within
  -- the horizon.
  own_since : {lead : ℕ} → 0 ≡ j → IsThere p r q d u n j b lead → IsSameLife r d z b
  own_since whole there = ⊎_elim
      (λ a.
      let within = (enters p r g u xu z base e a.1).within in
      same_life_since_stop p r g.law b g.room a.1 within there.life)
      (λ o.
      let none : ⊥ = ⊎_elim
      (λ a. let one = a.1 in omega arith)
      (λ a. let k = a.piece in omega arith)
      o.how in
      absurd none)
      (kind_of p r g q m there.arises)

  -- If the visit is a turn or more behind the first of the wave, the stop is a play time before the
  -- newer one's Put.
  far_ahead : t.first ≡ n → base + p.cubs ≤ n + 1 → time_of p z + p.play ≤ time_of p xt
  far_ahead f far =
      let w = g.law.states.inserts it in
      let below = w.below in
      let high = w.tick.high in
      let df = ap (λ v. due p t.slot.0 v) f in
      let d = same_due n in
      let mono = due_mono p u.slot.0 (base + p.cubs) (n + 1) far in
      let add = due_add p u.slot.0 base p.cubs in
      let next = due_next p u.slot.0 n in
      let near = e.near in
      let turn = g.turn.turn in
      omega (arith, g.room)

  -- If the cub after the visit's was reached, and the visit's own has not been away since the stop,
  -- that is reached a way later: by whoever told the other one.
  reached_too : {h : ℕ} → t.first ≡ n → r.Reached (cub_of p (n + 1)) u.instance.0 h → h ≤ xt
      → r.Came (cub_of p n) b → IsSameLife r (cub_of p n) z b → xt + p.delay < b
      → ReachedBy r (cub_of p n) u.instance.0 (xt + p.delay)
  reached_too {h} f reached until came one_life late = ⊎_elim
      (λ k. ⊎_elim
      (λ o.
      let same = ⊎_elim
      (λ w. (g.law.stops.one_place w o.stopped).1)
      (λ w. absurd (g.law.stops.one_way o.stopped w.stopped))
      e.how in
      by_controller (⊎_elim
      (λ a. inl (a ∙ ap (λ v. cub_of p v) same))
      (λ a. inr (a ∙ ap (λ v. cub_of p (v + 1)) same))
      o.to))
      (λ o. by_cub o)
      (g.law.links.tag_from k.2))
      (λ k. by_controller (bare p r g u xu z base e k).to)
      (g.law.holds.reached reached)
    where
      -- If the next cubs of two visits are one, so are the visits' own.
      same_before : (i k : ℕ) → cub_of p (i + 1) ≡ cub_of p (k + 1) → cub_of p i ≡ cub_of p k
      same_before i k same = back i ∙ ap (λ v. cub_of p (v + (p.cubs - 1))) same ∙ sym (back k)
        where
          back : (m : ℕ) → cub_of p m ≡ cub_of p (cub_of p (m + 1) + (p.cubs - 1))
          back m =
              let cubs = g.turn.cubs in
              let sum : m + p.cubs ≡ m + 1 + (p.cubs - 1) = omega arith in
              cub_round p m ∙ ap (λ v. cub_of p v) sum ∙ sym (cub_ahead p (m + 1) (p.cubs - 1))

      -- A cub told the other one: it is the visit's own, or told that too.
      by_cub : {s v : ℕ} → TagFromCub p r (cub_of p (n + 1)) u.instance.0 s v h
          → ReachedBy r (cub_of p n) u.instance.0 (xt + p.delay)
      by_cub k =
          let o = g.law.holds.told k.told in
          let later = k.later in
          let pass = g.law.holds.pass o.passed in
          let by = pass.reached.by in
          let after = reached_after p r g u xu z base e pass.reached.reached in
          ⊎_elim
          (λ (one : k.ahead ≡ 1).
          let near = ap (λ v. cub_of p (k.from + v)) one in
          let from = ap (λ v. cub_of p (v + 1)) pass.at in
          let here = k.to ∙ near ∙ from ∙ cub_ahead p o.visit 1 in
          let same = pass.at ∙ sym (same_before n o.visit here) in
          let at = pass.reached.beat in
          let own = subst (λ v. r.Reached v u.instance.0 at) same pass.reached.reached in
          record { beat = at; reached = own; by = omega arith })
          (λ (two : k.ahead ≡ 2).
          let near = ap (λ v. cub_of p (k.from + v)) two in
          let from = ap (λ v. cub_of p (v + 2)) pass.at in
          let sum : o.visit + 2 ≡ o.visit + 1 + 1 = omega arith in
          let here = k.to ∙ near ∙ from ∙ cub_ahead p o.visit 2 ∙ ap (λ v. cub_of p v) sum in
          let next = sym (cub_ahead p o.visit 1) ∙ ap (λ v. cub_of p (v + 1)) (sym pass.at) in
          let to = same_before n (o.visit + 1) here ∙ next in
          let told = g.law.holds.told_next k.told in
          let same = same_life_later r (cub_of p n) z k.beat b (omega arith) one_life in
          let got = g.law.links.told_arrives (cub_of p n) b told to came same (omega arith) in
          let got_by = got.by in
          record { beat = got.beat; reached = g.law.holds.reached_tag got.got; by = omega arith })
          o.ahead

      -- The controller told the first two cubs of the wave, and the visit's own is the first.
      by_controller : (cub_of p (n + 1) ≡ cub_of p base) ⊎ (cub_of p (n + 1) ≡ cub_of p (base + 1))
          → ReachedBy r (cub_of p n) u.instance.0 (xt + p.delay)
      by_controller to =
          let low = base_first p r g u xu z base e t ct xt it le sl zx cut in
          ⊎_elim
          (λ (near : n + 1 < base + p.cubs). ⊎_elim
          (λ a. let s = same_cub p base (n + 1) (sym a) (omega arith) near in absurd (omega arith))
          (λ a.
          let s = same_cub p (base + 1) (n + 1) (sym a) (omega arith) (omega arith) in
          let first : n ≡ base = omega arith in
          let own = inl (ap (λ v. cub_of p v) first) in
          let k = told_at_once p r g u xu z base e own came one_life (omega arith) in
          let by = k.by in
          record { beat = k.beat; reached = k.reached; by = omega arith })
          to)
          (λ (far : base + p.cubs ≤ n + 1). absurd (too_late f (far_ahead f far)))
          (cases_lt (n + 1) (base + p.cubs))

  -- No cub had forgotten a split of the visit by that Put, since the visit was not yet over.
  not_forgotten : {a h : ℕ} → t.first ≡ n → IsForgotten p r a u n h → h ≤ xt → ⊥
  not_forgotten {a} {h} f o le =
      let past = o.past in
      let before = o.before in
      let reads = (g.law.run.reads o.ticked).1 in
      let mono = time_mono p o.beat xt (omega arith) in
      let d = same_due n in
      let df = ap (λ v. due p t.slot.0 v) f in
      let timely = put_in_time p g.room r g.law it in
      let room = g.room in
      omega (arith, room)

  -- A cub puts for a dead one only in a run in which that died.
  nobody_for_dead : t.first ≡ n → PutsForDead p r ct t xt → ((c y : ℕ) → ¬ r.Died c y) → ⊥
  nobody_for_dead f w calm =
      let small = cub_below p n g.ok.ranges in
      let next = w.next ∙ ap (λ v. cub_of p (v + 1)) f ∙ sym (cub_ahead p n 1) in
      let o = believed_died p g.ok g.room r g.law (cub_of p n) small next w.believed.believed in
      calm (cub_of p n) o.died.beat o.died.died

  -- The newer one was not put by the visit's own cub. That one was reached, so it does not ask; nor
  -- does a cub ask for a piece, since the deschedule came to the cub that would split ahead of the
  -- newer one's state.
  by_own : t.first ≡ n → PutsOwn p r ct t xt → ReachedBy r ct u.instance.0 xt → ⊥
  by_own f own k =
      let h = behind f in
      let by = k.by in
      let there = m.asks asks in
      let mine : ct ≡ cub_of p n = own.own ∙ ap (λ v. cub_of p v) f in
      ⊎_elim
      (λ (whole : 0 ≡ j).
      let here : d ≡ ct = there.here ∙ ap (λ v. cub_of p v) (let s : n + j ≡ n = omega arith in s) ∙ sym mine in
      let after = reached_after p r g u xu z base e k.reached in
      let own_reached = subst (λ v. r.Reached v u.instance.0 k.beat) (sym here) k.reached in
      let one_life = same_life_later r d z k.beat b (omega arith) (own_since whole there) in
      there_unreached p r g q m u xu z base e there own_reached (omega arith) one_life)
      (λ (some : 0 < j). by_split f own k (origin p r g q m some there.arises))
      (eq-or-lt_of_le (let s : 0 ≤ j = omega arith in s))
    where
      -- No next cub has split the older one's visit after that state came.
      by_neighbour : {a y : ℕ} → t.first ≡ n → PutsOwn p r ct t xt → q.Split a u n y → ⊥
      by_neighbour {a} {y} f own split =
          let k = m.splits split in
          let kb = k.believed.by in
          let mine : ct ≡ cub_of p n = own.own ∙ ap (λ v. cub_of p v) f in
          let next : a ≡ cub_of p (cub_of p n + 1) = k.next ∙ sym (cub_ahead p n 1) in
          let small = cub_below p n g.ok.ranges in
          let first = (g.law.states.inserts it).first in
          let believed = k.believed.believed in
          let heard =
          all_heard p g.ok g.room r g.law (cub_of p n) mine small next own.sent first believed in
          ⊎_elim
          (λ w.
          let wb = w.by in
          let to = next ∙ ap (λ v. cub_of p (v + 1)) (sym mine) in
          let always = split_first_life p r g q m {gap = 1} (inl (refl, split)) y in
          let same = first_same_life r a y always w.beat in
          let came = k.tick.came in
          let got = g.law.links.told_arrives a y w.told to came same (omega arith) in
          let gb = got.by in
          split_unreached p r g q m u xu z base e {gap = 1} (inl (refl, split)) (g.law.holds.reached_tag got.got) (omega arith))
          (λ w. ⊎_elim
          (λ (far : horizon p (time_of p z) < due p u.slot.0 t.first).
          let within = (enters p r g u xu z base e k.entered).within in
          let df = ap (λ v. due p u.slot.0 v) f in
          absurd (omega arith))
          (λ late. too_late f late)
          w)
          (is_ahead p r g u xu z base e t ct xt it le sl zx cut own.sent)

      -- Nor has the own one: it would not have forgotten that when it was reached.
      by_split : {y : ℕ} → t.first ≡ n → PutsOwn p r ct t xt → ReachedBy r ct u.instance.0 xt
          → Origin p q d u n j y → ⊥
      by_split {y} f own k s = ⊎_elim
          (λ a. by_neighbour f own a.1)
          (λ a.
          let h = behind f in
          let by = k.by in
          let mine : ct ≡ cub_of p n = own.own ∙ ap (λ v. cub_of p v) f in
          let same : ct ≡ s.cub = mine ∙ sym (m.spares a.1).own in
          let reached = subst (λ v. r.Reached v u.instance.0 k.beat) same k.reached in
          not_forgotten f (used_forgotten p r g q m u xu z base e (inl asks) s reached (omega arith)) by)
          s.split

  -- Nor was it put by the next cub for a dead one. If that came back before the stop, it was
  -- reached too; if after it, it would not let the record in. And the next one, which would have
  -- split, was reached, too early to have forgotten the split.
  by_next : t.first ≡ n → PutsForDead p r ct t xt → ReachedBy r ct u.instance.0 xt → ⊥
  by_next f w k =
      let h = behind f in
      let by = k.by in
      let there = m.asks asks in
      let next : ct ≡ cub_of p (n + 1) = w.next ∙ ap (λ v. cub_of p (v + 1)) f in
      ⊎_elim
      (λ (whole : 0 ≡ j).
      let here : d ≡ cub_of p n = there.here ∙ ap (λ v. cub_of p v) (let s : n + j ≡ n = omega arith in s) in
      let since = own_since whole there in
      let next_reached = subst (λ v. r.Reached v u.instance.0 k.beat) next k.reached in
      let came = subst (λ v. r.Came v b) here there.tick.came in
      let own_life = subst (λ v. IsSameLife r v z b) here since in
      let got = reached_too f next_reached by came own_life h in
      let got_by = got.by in
      let own_reached = subst (λ v. r.Reached v u.instance.0 got.beat) (sym here) got.reached in
      let after = reached_after p r g u xu z base e own_reached in
      let one_life = same_life_later r d z got.beat b (omega arith) since in
      there_unreached p r g q m u xu z base e there own_reached (omega arith) one_life)
      (λ (some : 0 < j).
      let s = origin p r g q m some there.arises in
      let at : s.cub ≡ cub_of p (n + 1) = ⊎_elim
      (λ a. (m.splits a.1).next)
      (λ a. absurd (nobody_for_dead f w (m.spares a.1).calm))
      s.split in
      let reached = subst (λ v. r.Reached v u.instance.0 k.beat) (next ∙ sym at) k.reached in
      not_forgotten f (used_forgotten p r g q m u xu z base e (inl asks) s reached (omega arith)) by)
      (eq-or-lt_of_le (let s : 0 ≤ j = omega arith in s))

  -- So the visit is not the newer one's first.
  first_visit : t.first ≡ n → ⊥
  first_visit f = ⊎_elim
      (λ k. ⊎_elim (λ own. by_own f own k) (λ w. by_next f w k) (g.law.states.inserts it).who)
      (λ k.
      let late = k.late in
      let same = g.law.stops.gone_once e.gone k.gone in
      let ts = ap (λ v. time_of p v) same in
      too_late f (omega arith))
      cut

  -- So the older tenancy is not asked for at all at a visit that both have.
  pub none : t.first ≤ n → ⊥
  none low = ⊎_elim (λ f. first_visit f) (λ l. later_visit l) (eq-or-lt_of_le low)

module _ (p : Params) (r : Facts) (g : Setting p r) (q : PieceFacts) (m : PieceLaws p r q) where
  -- What is asked for is of a tenancy that was put.
  pub asked_held : {c n j b : ℕ} {t : Tenancy} → q.Asks c t n j b → IsHeld r t n b
  asked_held w =
      let o = m.asks w in
      let h = arises_held p r g q m o.arises in
      let by = o.by in
      let hb = h.by in
      record { cub = h.cub; beat = h.beat; put = h.put; by = omega arith; low = h.low; high = h.high }

  -- Of two tenancies of a slot that were put the older one is not asked for at a visit of the newer
  -- one.
  older : {d n j a b : ℕ} {t u : Tenancy} → (h : IsHeld r t n a) → (k : IsHeld r u n b)
      → q.Asks d u n j b → k.beat ≤ h.beat → u.slot.0 ≡ t.slot.0
      → u.instance.0 ≢ t.instance.0 → ⊥
  older {d} {n} {j} {a} {b} {t} {u} h k asks le sl ne =
      let low = h.low in
      let high = k.high in
      ⊎_elim
      (λ (over : u.last < t.first). omega arith)
      (λ o.
      let end = end_of p r g k.put o.0.gone in
      none p r g q m u k.beat o.0.beat end.0 end.1 t h.cub h.beat h.put le sl o.0.before o.1 d n j b asks low)
      (g.free h.beat h.cub k.cub k.beat t u le h.put k.put sl ne)

  -- So all that is asked for at a visit of a slot is of one tenancy.
  pub one_tenancy : {c d n i j a b : ℕ} {t u : Tenancy} → q.Asks c t n i a → q.Asks d u n j b
      → u.slot.0 ≡ t.slot.0 → u ≡ t
  one_tenancy {c} {d} {n} {i} {j} {a} {b} {t} {u} w v sl =
      let h = asked_held w in
      let k = asked_held v in
      ⊎_elim
      (λ (same : u.instance.0 ≡ t.instance.0). (one_put p r g h.put k.put same).1)
      (λ (ne : u.instance.0 ≢ t.instance.0). absurd (⊎_elim
      (λ (l : h.beat < k.beat). older k h w (omega arith) (sym sl) (λ s. ne (sym s)))
      (λ (l : k.beat ≤ h.beat). older h k v l sl ne)
      (cases_lt h.beat k.beat)))
      (cases_eq u.instance.0 t.instance.0)

  -- And each piece is asked for once, by one cub.
  pub one_ask : {c d n j a b : ℕ} {t u : Tenancy} → q.Asks c t n j a → q.Asks d u n j b
      → u.slot.0 ≡ t.slot.0 → (d ≡ c) × (u ≡ t) × (b ≡ a)
  one_ask {c} {d} {n} {j} {a} {b} {t} {u} w v sl =
      let same = one_tenancy w v sl in
      let here : d ≡ c = (m.asks v).here ∙ sym (m.asks w).here in
      let v2 : q.Asks c t n j b = subst (λ (x : Tenancy). q.Asks c x n j b) same (subst (λ x. q.Asks x u n j b) here v) in (
        here,
        same,
        ⊎_elim
            (λ (l : a < b). absurd (asks_once p r g q m w v2 l))
            (λ (l : b ≤ a). ⊎_elim (λ f. f) (λ f. absurd (asks_once p r g q m v2 w f)) (eq-or-lt_of_le l))
            (cases_lt a b),
      )
