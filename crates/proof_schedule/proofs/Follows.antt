-- What follows from the invariant: there is one schedule.
use Rattle.std.proofs.Common.{◌≡◌, ◌≢◌, ℕ, ◌+◌, ◌*◌, ◌<◌, ◌≤◌, refl, sym, ap, ◌∙◌, arith, ⊎_elim, inl, inr}
use Rattle.std.specs.Prelude.{◌⊎◌}
use Rattle.std.proofs.lemmas.Bool.{cases_lt}
use Rattle.tiger_base.specs.declared.tenancy.Tenancy.{Tenancy}
use Rattle.slot_plan.specs.declared.params.Params.{Params}
use Rattle.slot_plan.specs.Conditions.{IsPlan}
use Rattle.slot_plan.specs.Times.{time_of, due, cub_of}
use Rattle.slot_plan.proofs.Times.{time_next, time_mono, time_below, cub_ahead, cub_apart}
use Rattle.proof_schedule.specs.Facts.{Facts, GoneBefore, Entered, Knows, IsBeside, IsUnheld, IsSameLife, IsOpenTo}
use Rattle.proof_schedule.specs.StateLaws.{Stands}
use Rattle.proof_schedule.specs.Laws.{Laws}
use Rattle.proof_schedule.specs.Schedule.{IsTaken, PutsFor, IsOneSchedule}
use Rattle.proof_schedule.proofs.Conflicts.{not_released, record_since, record_reached, beside_given}
use Rattle.proof_schedule.proofs.Ends.{end_of, one_put}
use Rattle.proof_schedule.proofs.Beside.{arrived, beside}
use Rattle.proof_schedule.proofs.Induction.{setting}
use Rattle.proof_schedule.proofs.Kept.{kept}
use Rattle.proof_schedule.proofs.Origins.{entered_held}
use Rattle.proof_schedule.proofs.Waves.{reached_after}
use Rattle.proof_schedule.proofs.Lives.{same_life_later}
use Rattle.proof_schedule.proofs.Reach.{from_base, enters}
use Rattle.proof_schedule.proofs.Room.{wave_after}
use Rattle.proof_schedule.proofs.Silence.{believed_died, dead_first, cut_gone}
use Rattle.proof_schedule.proofs.Starts.{ordered}
use Rattle.proof_schedule.proofs.Soon.{soon, retired, placed, windows_rise}
use Rattle.proof_schedule.proofs.Invariant.{Setting}

module _ (p : Params) (r : Facts) (g : Setting p r) where
  -- Each Put finds its slot free.
  free : {c d x y : ℕ} {t u : Tenancy} → r.Put c t x → r.Put d u y → y ≤ x → u.slot.0 ≡ t.slot.0
      → u.instance.0 ≢ t.instance.0 → (u.last < t.first) ⊎ GoneBefore r u.instance.0 x
  free {c} {d} {x} {y} {t} {u} i j h s ne = ⊎_elim (λ k. inl k) (λ k. inr k.0) (g.free x c d y t u h i j s ne)

  -- A Put is by the cub of its first visit, or by the next one if that cub is dead.
  who : {c x : ℕ} {t : Tenancy} → r.Put c t x → PutsFor p r c t x
  who {c} {x} {t} i = ⊎_elim
      (λ w. inl w.own)
      (λ w. inr (w.next, w.believed, dead_first p g.ok g.room r g.law w))
      (g.law.states.inserts i).who

  -- The cub after the one that put knows the first visit, if it lets it in.
  first_backup : {c x b : ℕ} {t : Tenancy} → r.Put c t x → c ≡ cub_of p t.first
      → r.Came (cub_of p (t.first + 1)) b → x + p.delay ≤ b
      → IsOpenTo p r (cub_of p (t.first + 1)) (due p t.slot.0 t.first) b
      → Knows p r (cub_of p (t.first + 1)) t t.first b
  first_backup {c} {x} {b} {t} i own came late let_in = ⊎_elim
      (λ w.
      let to = sym (ap (λ v. cub_of p (v + 1)) w.own ∙ cub_ahead p t.first 1) in
      arrived p r g t.first w.sent to came late (inl (refl, inr refl)) let_in)
      (λ w.
      let cubs = g.turn.cubs in
      absurd (cub_apart p t.first 1 (omega arith) (omega arith) (sym own ∙ w.next)))
      (g.law.states.inserts i).who

  -- A record enters at its visit's cub or at the next one alone.
  beside_entered : {c n y : ℕ} {t : Tenancy} → Entered r c t n y → IsBeside p c n
  beside_entered {c} {n} {y} {t} w = ⊎_elim
      (λ a. beside_given p t (g.law.states.taken a).given)
      (λ a. beside_given p t (g.law.states.inserted a).1)
      w

  -- A record of that life that is not yet due, and entered when its instance was not held, is of an
  -- instance that was not stopped a play time before the next beat begins.
  recent : {c n e b l z : ℕ} {t : Tenancy} → Entered r c t n e → IsSameLife r c e b
      → IsUnheld p r c t.instance.0 b e
      → r.Ticked c b l → l < due p t.slot.0 n → r.Gone t.instance.0 z
      → time_of p (b + 1) ≤ time_of p z + p.play
  recent {c} {n} {e} {b} {l} {z} {t} w life since tick undue gone =
      let o = entered_held p r g.law w in
      let end = end_of p r g o.put gone in
      let room = g.room in
      let reads = (g.law.run.reads tick).0 in
      let next = time_next p b in
      ⊎_elim
      (λ (late : time_of p z + p.play < time_of p (b + 1)).
      let base = from_base p r g t o.beat z end.0 end.1 n o.low (omega (arith, room)) in
      let a = wave_after p g.turn z (z + (p.cubs + 1) * p.delay) (p.cubs + 1) (omega arith) (omega arith) in
      let some = g.turn.delay in
      let m = time_mono p 1 p.delay some in
      let one = time_next p 0 in
      let beat = g.room.beat in
      let over = time_below p (z + (p.cubs + 1) * p.delay) b (omega arith) in
      let came = g.law.run.came tick in
      let h = record_reached p r g t o.beat z end.0 end.1
      w life (beside_entered w) base came (omega arith) in
      let stopped = record_since p r g t o.beat z end.0 end.1 w life in
      let after = reached_after p r g t o.beat z end.0 end.1 h.reached in
      let by = h.by in
      let same = same_life_later r c z h.beat b (omega arith) stopped in
      let over = since h.beat h.reached (omega arith) same in
      absurd (not_released p r g t o.beat z end.0 end.1 w over))
      (λ (early : time_of p (b + 1) ≤ time_of p z + p.play). early)
      (cases_lt (time_of p z + p.play) (time_of p (b + 1)))

  -- So a visit at which a record stands is taken.
  taken : {c s n b l : ℕ} → Stands p r c s n b → r.Ticked c b l → l < due p s n → IsTaken p r s n b
  taken {c} {s} {n} {b} {l} k tick undue =
      let by = k.by in
      let o = entered_held p r g.law k.entered in
      let ob = o.by in
      let d : due p k.holder.slot.0 n ≡ due p s n = ap (λ v. due p v n) k.slot in
      let next = time_next p b in
      let beat = g.room.beat in
      record {
        holder = k.holder;
        slot = k.slot;
        held = record { cub = o.cub; beat = o.beat; put = o.put; by = omega arith; low = o.low; high = o.high };
        recent = λ z gone.
            let early = recent {l = l} k.entered k.life k.since tick (omega arith) gone in
            omega arith;
      }

  -- So there is one schedule.
  pub one_schedule : IsOneSchedule p r
  one_schedule = record {
    free = λ c d x y t u i j h s ne. free i j h s ne;
    once = λ c d x y t u i j e. one_put p r g i j e;
    ordered = λ c x t i. ordered p g.ok g.room r g.law i;
    who = λ c x t i. who i;
    trust = λ c d b w next small. believed_died p g.ok g.room r g.law d small next w;
    rising = λ c d x y t u i j h s. windows_rise p g.room r g.law h i j s;
    kept = λ c x b l n t i low high may w let_in.
        kept p r g b c x n t i low high may (g.law.run.came w) let_in;
    beside = λ c x b e l n t i low high may died w. beside p r g b c x e n n t i low high may died (g.law.run.came w) (inl (refl, inr refl));
    first_backup = λ c x b l t i own w late let_in.
        first_backup i own (g.law.run.came w) late let_in;
    cut = λ c v b w. cut_gone p g.ok g.room r g.law w;
    held = λ c n y t w. entered_held p r g.law w;
    soon = λ c n y t w. soon p g.room r g.law w;
    retired = λ c d e n x y z t u i j h s ne w. ⊎_elim (λ k. inl (retired p g.room r g.law i s k w)) (λ k. inr k) (free i j h s ne);
    put_before = λ c x z t i gone. (end_of p r g i gone).1.soon;
    over = λ c n y z t w gone. let o = entered_held p r g.law w in let end = end_of p r g o.put gone in (enters p r g t o.beat z end.0 end.1 w).by;
    shown = λ c n b t w.
        let k = g.law.states.shows w in
        let o = entered_held p r g.law k.entered in
        let by = k.by in
        let ob = o.by in (
          record { cub = o.cub; beat = o.beat; put = o.put; by = omega arith; low = o.low; high = o.high },
          λ z gone. recent k.entered k.life k.since k.ticked k.undue gone,
        );
    waits = λ c y b l s n ask k le w first slot window. ⊎_elim
        (λ a. inl (taken a w (let above = window.1 in omega arith)))
        (λ o. inr (⊎_elim (λ a. inl (placed p g.room r g.law a)) (λ a. inr a) o))
        (g.law.starts.waits s n k le w first slot window);
  }

-- In each run of a plan that meets the laws.
pub runs : (p : Params) (r : Facts) → IsPlan p → Laws p r → IsOneSchedule p r
runs p r ok law = one_schedule p r (setting p r ok law)
