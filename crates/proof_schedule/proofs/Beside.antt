-- If the cub of a visit dies the next cub knows the visit: from the cub before, which lives.
use Rattle.std.proofs.Common.{◌≡◌, ℕ, ◌+◌, ◌-◌, ◌<◌, ◌≤◌, refl, sym, ap, subst, ◌∙◌, arith, ⊎_elim, inl, inr, eq-or-lt_of_le}
use Rattle.std.specs.Prelude.{◌⊎◌}
use Rattle.tiger_base.specs.declared.tenancy.Tenancy.{Tenancy}
use Rattle.slot_plan.specs.declared.params.Params.{Params}
use Rattle.slot_plan.specs.Times.{time_of, due, cub_of}
use Rattle.slot_plan.proofs.Times.{time_zero, time_add, time_below, time_mono, due_next, due_pos, cub_below, cub_ahead}
use Rattle.proof_schedule.specs.Facts.{Facts, DiedBy, Cut, Knows, Takes, IsGiven, IsSameLife, IsOpenTo}
use Rattle.proof_schedule.specs.Schedule.{MayOpen}
use Rattle.proof_schedule.proofs.Beats.{first_beat}
use Rattle.proof_schedule.proofs.Conflicts.{no_conflict}
use Rattle.proof_schedule.proofs.CuttingOn.{cut_on}
use Rattle.proof_schedule.proofs.Silence.{dead_first}
use Rattle.proof_schedule.proofs.Soon.{put_over, sent_soon}
use Rattle.proof_schedule.proofs.Timely.{which_of}
use Rattle.proof_schedule.proofs.Lives.{first_is_open, same_life_later, same_life_on, open_before, next_first_life}
use Rattle.proof_schedule.proofs.Starts.{put_first}
use Rattle.proof_schedule.proofs.Waves.{passed_reached}
use Rattle.proof_schedule.proofs.Invariant.{Setting, IsOpening, BesideAt, IsLongBack}

module _ (p : Params) (r : Facts) (g : Setting p r) where
  -- What is cut stays cut.
  pub cut_later : {c v : ℕ} (b d : ℕ) → b ≤ d → Cut p r c v b → Cut p r c v d
  cut_later b d le w = ⊎_elim
      (λ a. let by = a.by in inl (record { beat = a.beat; reached = a.reached; by = omega arith }))
      (λ a.
      let late = a.late in
      let m = time_mono p b d le in
      inr (record { beat = a.beat; gone = a.gone; late = omega arith }))
      w

  -- What is known stays known in that life.
  pub knows_later : {c n : ℕ} {t : Tenancy} (b d : ℕ) → b ≤ d → IsSameLife r c b d
      → Knows p r c t n b → Knows p r c t n d
  knows_later {c} b d le life w = ⊎_elim
      (λ e.
      let by = e.by in
      let since = same_life_on r c e.beat b d e.life life in
      inl (record { beat = e.beat; entered = e.entered; by = omega arith; life = since }))
      (λ e. inr (cut_later b d le e))
      w

  -- A cub that takes a state knows what that gives.
  pub takes_knows : {c n b : ℕ} {t : Tenancy} → Takes p r c t n b → Knows p r c t n b
  takes_knows w = ⊎_elim (λ e. inl e) (λ e. inr (⊎_elim (λ a. inl (passed_reached p r g a)) (λ a. inr a) e)) w

  -- Each visit but the slot's first has a beat in which it opens.
  pub opening : (t : Tenancy) (n : ℕ) → 1 ≤ n → (b : ℕ) × IsOpening p t n b
  opening t n some =
      let f = first_beat p g.room.beat (due p t.slot.0 n - (p.window_a + p.skew)) in
      let meets = f.1.meets in
      let after = due_pos p t.slot.0 n some in (
        f.0,
        record {
          opens = omega arith;
          only_now = ⊎_elim
              (λ (e : f.0 ≡ 0).
              let t0 : time_of p f.0 ≡ 0 = ap (λ v. time_of p v) e ∙ time_zero p in
              omega (arith, g.room))
              (λ (q : time_of p f.0 < (due p t.slot.0 n - (p.window_a + p.skew)) + p.beat). omega (arith, g.room))
              f.1.first;
        },
      )

  -- A cub that lets in what a state gives it has not been away since the state was sent.
  sent_since : {a k m n x c b : ℕ} {t : Tenancy} → r.Sent a k t m x → (n ≡ m) ⊎ (n ≡ m + 1)
      → IsOpenTo p r c (due p t.slot.0 n) b → IsSameLife r c x b
  sent_since {a} {k} {m} {n} {x} {c} {b} {t} s which let_in = λ w back le.
      let at = let_in w back le in
      let soon = sent_soon p g.room r g.law s in
      let d = due_next p t.slot.0 m in
      let near : due p t.slot.0 n ≤ due p t.slot.0 m + p.play = ⊎_elim
      (λ (q : n ≡ m). let e = ap (λ v. due p t.slot.0 v) q in omega arith)
      (λ (q : n ≡ m + 1). let e = ap (λ v. due p t.slot.0 v) q in omega arith)
      which in
      let play = g.room.play in
      let l = time_below p w x (omega arith) in
      omega arith

  -- And so it has not been away since it got the state.
  got_since : {m n y c b : ℕ} {t : Tenancy} → r.Got c t m y → (n ≡ m) ⊎ (n ≡ m + 1)
      → IsOpenTo p r c (due p t.slot.0 n) b → IsSameLife r c y b
  got_since {m} {n} {y} {c} {b} {t} got which let_in =
      let s = g.law.links.carried got in
      let later = s.later in
      same_life_later r c s.beat y b (omega arith) (sent_since s.sent which let_in)

  -- A cub knows what a state gives it, and it lets in, when that state must have come.
  pub arrived : {a k m x c b : ℕ} {t : Tenancy} (n : ℕ) → r.Sent a k t m x → c ≡ cub_of p (a + k)
      → r.Came c b → x + p.delay ≤ b
      → IsGiven p c t m n → IsOpenTo p r c (due p t.slot.0 n) b → Knows p r c t n b
  arrived {a} {k} {m} {x} {c} {b} {t} n s to w late given let_in =
      let which = which_of p g.room r g.law t given in
      let got = g.law.links.arrives c b s to w (sent_since s which let_in) late in
      let by = got.by in
      let then = open_before p r c (due p t.slot.0 n) got.beat b (omega arith) let_in in
      let takes = no_conflict p r g got.beat c m n t got.got given then in
      knows_later got.beat b (omega arith) (got_since got.got which let_in) (takes_knows takes)

  -- A cub that lets in what the state of the next visit gives it has been back for long when that
  -- visit may open.
  long_back : {c b : ℕ} (t : Tenancy) (n k : ℕ) → MayOpen p t (n + 1) b
      → (k ≡ n + 1) ⊎ (k ≡ n + 1 + 1) → IsOpenTo p r c (due p t.slot.0 k) b → IsLongBack p r c b
  long_back {c} {b} t n k may which let_in = λ w back le.
      let at = let_in w back le in
      let d = due_next p t.slot.0 (n + 1) in
      let near : due p t.slot.0 k ≤ due p t.slot.0 (n + 1) + p.play = ⊎_elim
      (λ (q : k ≡ n + 1). let e = ap (λ v. due p t.slot.0 v) q in omega arith)
      (λ (q : k ≡ n + 1 + 1). let e = ap (λ v. due p t.slot.0 v) q in omega arith)
      which in
      omega (arith, g.room)

  -- The cub of a visit forwards it when it opens. So the next two cubs know what that state gives
  -- them when the next visit may open; or the visit's cub has died.
  pub from_opening : {c x b : ℕ} (t : Tenancy) (n a q k : ℕ) → q ≡ n + a → (a ≡ 1) ⊎ (a ≡ 2)
      → r.Put c t x → t.first < n → n < t.last → MayOpen p t (n + 1) b
      → r.Came (cub_of p q) b → IsGiven p (cub_of p q) t (n + 1) k
      → IsOpenTo p r (cub_of p q) (due p t.slot.0 k) b
      → Knows p r (cub_of p q) t k b ⊎ ((y : ℕ) × (y < b) × DiedBy r (cub_of p n) y)
  from_opening {c} {x} {b} t n a q k there which i low more may w given let_in =
      let o = opening t n (omega arith) in
      let y : ℕ = o.0 in
      let now = o.1.only_now in
      let d = due_next p t.slot.0 n in
      let ta = time_add p y p.delay in
      let late = time_below p (y + p.delay) b (omega (arith, g.room)) in
      let before : y < b = omega arith in
      let to : cub_of p q ≡ cub_of p (cub_of p n + a) = ap (λ v. cub_of p v) there ∙ sym (cub_ahead p n a) in
      ⊎_elim
      (λ h. inl (⊎_elim
      (λ s.
      let by = s.by in
      let sent : r.Sent (cub_of p n) a t (n + 1) s.beat = ⊎_elim
      (λ (e : a ≡ 1). subst (λ v. r.Sent (cub_of p n) v t (n + 1) s.beat) (sym e) s.near)
      (λ (e : a ≡ 2). subst (λ v. r.Sent (cub_of p n) v t (n + 1) s.beat) (sym e) s.far)
      which in
      arrived k sent to w (omega arith) given let_in)
      (λ s.
      let long = long_back t n k may (which_of p g.room r g.law t given) let_in in
      inr (cut_on p r g b c x y h.reading a q n t
      i low more late o.1 may h.ticked h.first s there which w long))
      (g.sent y c x h.reading n t i low more o.1.opens h.ticked h.first)))
      (λ h. inr (y, before, h))
      (g.law.run.up w before (cub_below p n g.ok.ranges))

  -- The cub of a first visit forwards the second one at its Put, if it does not die there.
  beside_first : {c x e b k : ℕ} (t : Tenancy) → r.Put c t x → c ≡ cub_of p t.first
      → r.Died (cub_of p (t.first + 1)) e → t.first < t.last → MayOpen p t (t.first + 1) b
      → r.Came (cub_of p (t.first + 2)) b
      → IsGiven p (cub_of p (t.first + 2)) t (t.first + 1) k
      → IsOpenTo p r (cub_of p (t.first + 2)) (due p t.slot.0 k) b
      → Knows p r (cub_of p (t.first + 2)) t k b
  beside_first {c} {x} {e} {b} {k} t i own died more may w given let_in =
      let z = g.law.states.inserts i in
      let d = due_next p t.slot.0 t.first in
      let above = z.above in
      let below = z.below in
      let room = g.room in
      let over = put_over p g.room r g.law i may in
      let whole : r.Ticked c x z.reading = ⊎_elim
      (λ a. a)
      (λ a. absurd (g.law.run.apart a died (sym (cub_ahead p t.first 1) ∙ ap (λ v. cub_of p (v + 1)) (sym own))))
      z.whole in
      let to : cub_of p (t.first + 2) ≡ cub_of p (c + 2) = sym (cub_ahead p t.first 2) ∙ ap (λ v. cub_of p (v + 2)) (sym own) in
      ⊎_elim
      (λ s. let by = s.by in arrived k s.far to w (omega arith) given let_in)
      (λ a. let by = a.by in let after = put_first p g.ok g.room r g.law i a.reached in absurd (omega arith))
      (g.law.states.forwards (inr z.entered) (omega arith) whole z.first
      own more (omega arith) (omega (arith, room)))

  -- So if the cub of a next visit dies the cub before it has forwarded it to both.
  beside_next : {c x e b : ℕ} (t : Tenancy) (n k : ℕ) → r.Put c t x → t.first ≤ n → n < t.last
      → MayOpen p t (n + 1) b → r.Died (cub_of p (n + 1)) e
      → r.Came (cub_of p (n + 2)) b → IsGiven p (cub_of p (n + 2)) t (n + 1) k
      → IsOpenTo p r (cub_of p (n + 2)) (due p t.slot.0 k) b
      → Knows p r (cub_of p (n + 2)) t k b
  beside_next {c} {x} {e} {b} t n k i low more may died w given let_in =
      ⊎_elim
      (λ (q : t.first ≡ n). subst (λ (v : ℕ). v < t.last → MayOpen p t (v + 1) b → r.Died (cub_of p (v + 1)) e → r.Came (cub_of p (v + 2)) b
      → IsGiven p (cub_of p (v + 2)) t (v + 1) k
      → IsOpenTo p r (cub_of p (v + 2)) (due p t.slot.0 k) b → Knows p r (cub_of p (v + 2)) t k b) q
      (λ more may died w given let_in. ⊎_elim
      (λ who. beside_first t i who.own died more may w given let_in)
      (λ who.
      let dead = dead_first p g.ok g.room r g.law who in
      absurd (g.law.run.apart dead.died.died died (sym (cub_ahead p t.first 1))))
      (g.law.states.inserts i).who)
      more may died w given let_in)
      (λ (l : t.first < n). ⊎_elim
      (λ h. h)
      (λ h. absurd (g.law.run.apart h.2.died died (sym (cub_ahead p n 1))))
      (from_opening t n 2 (n + 2) k refl (inr refl) i l more may w given let_in))
      (eq-or-lt_of_le low)

  -- So if the cub of a visit dies the next one knows what the visit's state gives it.
  pub beside : (b : ℕ) → BesideAt p r b
  beside b c x e n k t i low high may died w given =
      let back : (n - 1) + 1 ≡ n = omega arith in
      let two : n + 1 ≡ (n - 1) + 2 = omega arith in
      let m = n - 1 in
      let may1 : MayOpen p t (m + 1) b = subst (λ v. MayOpen p t v b) (sym back) may in
      let died1 = subst (λ v. r.Died (cub_of p v) e) (sym back) died in
      let w1 = subst (λ v. r.Came (cub_of p v) b) two w in
      let given1 : IsGiven p (cub_of p (m + 2)) t (m + 1) k = subst (λ v. IsGiven p (cub_of p (m + 2)) t v k) (sym back) (subst (λ v. IsGiven p (cub_of p v) t n k) two given) in
      let after : m + 2 ≡ m + 1 + 1 = omega arith in
      let next = ap (λ v. cub_of p v) after ∙ sym (cub_ahead p (m + 1) 1) in
      let first = next_first_life p r g.law (cub_of p (m + 2)) b died1 next in
      let let_in = first_is_open p r (cub_of p (m + 2)) b first (due p t.slot.0 k) in
      subst (λ v. Knows p r (cub_of p v) t k b) (sym two)
      (beside_next t m k i (omega arith) (omega arith) may1 died1 w1 given1 let_in)
