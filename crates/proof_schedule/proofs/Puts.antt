-- A beat's ticks: each Put finds its slot free, and each cub has forwarded in time.
use Rattle.std.proofs.Common.{◌≡◌, ℕ, ◌+◌, ◌<◌, ◌≤◌, refl, sym, ap, subst, ◌∙◌, arith, ⊎_elim, inl, inr, eq-or-lt_of_le}
use Rattle.std.specs.Prelude.{◌⊎◌}
use Rattle.std.proofs.lemmas.Bool.{cases_lt}
use Rattle.tiger_base.specs.declared.tenancy.Tenancy.{Tenancy}
use Rattle.slot_plan.specs.declared.params.Params.{Params}
use Rattle.slot_plan.specs.Times.{time_of, due, cub_of}
use Rattle.slot_plan.proofs.Times.{time_next, time_below, time_mono, due_next, due_mono, cub_below, cub_ahead}
use Rattle.proof_schedule.specs.Facts.{Facts, Ended, GoneBefore, Cut, Knows, IsFirstLife, IsOpenTo}
use Rattle.proof_schedule.specs.StateLaws.{PutsOwn, PutsForDead, Sends}
use Rattle.proof_schedule.specs.Laws.{Laws}
use Rattle.proof_schedule.proofs.Conflicts.{no_conflict}
use Rattle.proof_schedule.proofs.Beside.{beside, opening, takes_knows, knows_later}
use Rattle.proof_schedule.proofs.Prefix.{prefix, run_knows}
use Rattle.proof_schedule.proofs.Kept.{kept}
use Rattle.proof_schedule.proofs.Lives.{first_same_life, first_life_before, first_is_open}
use Rattle.proof_schedule.proofs.Silence.{dead_first, put_heard, cut_gone}
use Rattle.proof_schedule.proofs.Soon.{put_over, windows_rise}
use Rattle.proof_schedule.proofs.Invariant.{Setting, IsOpening, FreeAt, KnownAt, SentAt}

module _ (p : Params) (r : Facts) (b : ℕ) (law : Laws p r) (g : Setting p (prefix r b)) where
  -- A Put at an earlier visit of the slot was made in a lower beat.
  put_before : {c d y : ℕ} {t u : Tenancy} → r.Put c t b → r.Put d u y → u.slot.0 ≡ t.slot.0
      → u.first < t.first → y < b
  put_before {c} {d} {y} {t} {u} i j slot l = ⊎_elim
      (λ (q : y < b). q)
      (λ (q : b ≤ y). let rise = windows_rise p g.room r law q j i (sym slot) in absurd (omega arith))
      (cases_lt y b)

  -- A cub in its first life knows each record that it inserted.
  put_there : {c d m n y : ℕ} {u : Tenancy} → y ≤ b → d ≡ c → m ≡ n → IsFirstLife r c b
      → r.Inserted d u m y → Knows p r c u n b
  put_there {c} {d} {m} {n} {y} {u} le here e first w =
      let there = subst (λ v. r.Inserted d u v y) e w in
      let entered = inr (subst (λ v. r.Inserted v u n y) here there) in
      inl (record { beat = y; entered = entered; by = le; life = first_same_life r c b first y })

  -- A cub that puts at a visit of its own knows each tenancy that has it: it put that there itself,
  -- or the visit is a later one, which it knows.
  known_own : {c d y : ℕ} {t u : Tenancy} → y ≤ b → r.Put c t b → PutsOwn p r c t b → r.Put d u y
      → u.slot.0 ≡ t.slot.0 → u.first ≤ t.first → t.first ≤ u.last
      → Knows p r c u t.first b
  known_own {c} {d} {y} {t} {u} le i own j slot rise over =
      let z = law.states.inserts i in
      let zj = law.states.inserts j in
      let below = z.below in
      let high = z.tick.high in
      let came = z.tick.came in
      ⊎_elim
      (λ (e : u.first ≡ t.first). ⊎_elim
      (λ o.
      let here : d ≡ c = o.own ∙ ap (λ v. cub_of p v) e ∙ sym own.own in
      put_there le here e z.first zj.entered)
      (λ o.
      let dead = dead_first p g.ok g.room r law o in
      let long = dead.long in
      let db = dead.died.by in
      let here = ap (λ v. cub_of p v) e ∙ sym own.own in
      let died = subst (λ v. r.Died v dead.died.beat) here dead.died.died in
      let last = law.run.last came died z.first in
      absurd (omega arith))
      zj.who)
      (λ (l : u.first < t.first).
      let same : due p u.slot.0 t.first ≡ due p t.slot.0 t.first = ap (λ v. due p v t.first) slot in
      let at = due p u.slot.0 t.first in
      let here = subst (λ v. r.Came v b) own.own came in
      let open_to = first_is_open p r c b z.first at in
      let let_in = subst (λ v. IsOpenTo p r v at b) own.own open_to in
      let k = kept p (prefix r b) g b d y t.first u
      (j, put_before i j slot l) l over (omega arith) (here, omega arith) let_in in
      subst (λ v. Knows p r v u t.first b) (sym own.own) (run_knows p r b k))
      (eq-or-lt_of_le rise)

  -- And so does a cub that puts at a visit of its dead predecessor: it got the state of that one's
  -- Put, put the tenancy itself, or knows the visit as the next cub.
  known_dead : {c d y : ℕ} {t u : Tenancy} → y ≤ b → r.Put c t b → PutsForDead p r c t b
      → r.Put d u y → u.slot.0 ≡ t.slot.0 → u.first ≤ t.first → t.first ≤ u.last
      → Knows p r c u t.first b
  known_dead {c} {d} {y} {t} {u} le i w j slot rise over =
      let z = law.states.inserts i in
      let zj = law.states.inserts j in
      let below = z.below in
      let high = z.tick.high in
      let came = z.tick.came in
      let k = w.believed in
      let kb = k.by in
      ⊎_elim
      (λ (e : u.first ≡ t.first). ⊎_elim
      (λ o.
      let next : c ≡ cub_of p (u.first + 1) = w.next ∙ ap (λ v. cub_of p (v + 1)) (sym e) in
      let heard = put_heard p g.ok g.room r law o zj.first next k.believed in
      let to : c ≡ cub_of p (d + 1) = next ∙ sym (cub_ahead p u.first 1) ∙ ap (λ v. cub_of p (v + 1)) (sym o.own) in
      let sent_since = first_same_life r c b z.first y in
      let got = law.links.arrives c b o.sent to came sent_since (omega arith) in
      let by = got.by in
      let until : got.beat ≤ b = omega arith in
      let then = first_life_before r c b got.beat until z.first in
      let let_in = first_is_open p r c got.beat then (due p u.slot.0 u.first) in
      let taken = no_conflict p (prefix r b) g got.beat c u.first u.first u
      (got.got, until) (inl (refl, inr next)) let_in in
      let q = takes_knows p (prefix r b) g {b = got.beat} taken in
      let got_since = first_same_life r c b z.first got.beat in
      let known_then = knows_later p (prefix r b) g got.beat b until got_since q in
      subst (λ v. Knows p r c u v b) e (run_knows p r b known_then))
      (λ o.
      let here : d ≡ c = o.next ∙ ap (λ v. cub_of p (v + 1)) e ∙ sym w.next in
      put_there le here e z.first zj.entered)
      zj.who)
      (λ (l : u.first < t.first).
      let same : due p u.slot.0 t.first ≡ due p t.slot.0 t.first = ap (λ v. due p v t.first) slot in
      let died = (dead_first p g.ok g.room r law w).died in
      let here : r.Came (cub_of p (t.first + 1)) b = subst (λ v. r.Came v b) w.next came in
      let q = beside p (prefix r b) g b d y died.beat t.first t.first u (j, put_before i j slot l) l over (omega arith) died.died (here, omega arith) (inl (refl, inr refl)) in
      subst (λ v. Knows p r v u t.first b) (sym w.next) (run_knows p r b q))
      (eq-or-lt_of_le rise)

  -- So a cub that puts knows each tenancy that has the visit.
  known : KnownAt p r b
  known c d y t u le i j slot rise over = ⊎_elim
      (λ w. known_own le i w j slot rise over)
      (λ w. known_dead le i w j slot rise over)
      (law.states.inserts i).who

  -- So each Put finds its slot free: a visit of which the cub has a record is not free.
  pub free_at : FreeAt p r b
  free_at c d y t u le i j slot ne =
      let rise = windows_rise p g.room r law le i j slot in
      let stopped : Cut p r c u.instance.0 b → (u.last < t.first) ⊎ (GoneBefore r u.instance.0 b × Cut p r c u.instance.0 b) = λ q. inr (cut_gone p g.ok g.room r law q, q) in
      ⊎_elim
      (λ (done : u.last < t.first). inl done)
      (λ (over : t.first ≤ u.last). ⊎_elim
      (λ e. ⊎_elim (λ q. absurd (ne q)) (λ q. stopped (inl q)) (law.states.free i e.entered e.by slot))
      (λ e. stopped e)
      (known c d y t u le i j slot rise over))
      (cases_lt u.last t.first)

  -- A cub that ended a beat in its first life had ended each lower one.
  had_ended : {c l : ℕ} (y : ℕ) → c < p.cubs → r.Ticked c b l → IsFirstLife r c b → y ≤ b
      → Ended r c y
  had_ended {c} {l} y small w first h = ⊎_elim
      (λ (e : y ≡ b). record { reading = l; ticked = subst (λ (v : ℕ). r.Ticked c v l) (sym e) w })
      (λ (q : y < b). ⊎_elim
      (λ k. record { reading = k.reading; ticked = k.ticked })
      (λ k.
      let a = law.run.last (law.run.came w) k.died first in
      let by = k.by in
      absurd (omega arith))
      (law.run.up (law.run.came w) q small))
      (eq-or-lt_of_le h)

  -- A record that is there when its visit opens is forwarded in that beat, in the cub's first life.
  sent_then : {c n y l : ℕ} (t : Tenancy) → c ≡ cub_of p n → n < t.last → IsOpening p t n y
      → r.Ticked c y l → IsFirstLife r c y → Knows p r c t n y
      → Sends r c t (n + 1) y ⊎ Cut p r c t.instance.0 y
  sent_then {c} {n} {y} {l} t here more o w first known =
      let opens = o.opens in
      let now = o.only_now in
      let reads = law.run.reads w in
      let low = reads.0 in
      let high = reads.1 in
      let d = due_next p t.slot.0 n in
      let room = g.room in
      let early : l < due p t.slot.0 n = omega (arith, room) in
      let enough : due p t.slot.0 (n + 1) ≤ l + p.min_lead = omega (arith, room) in
      ⊎_elim
      (λ e. ⊎_elim
      (λ s. inl s)
      (λ s. inr (inl s))
      (law.states.forwards e.entered e.by w first here more early enough))
      (λ e. inr e)
      known

  -- So in its first life the cub of each visit has forwarded it when it may be in a window.
  pub sent_at : SentAt p r b
  sent_at c x l n t i low more may w first =
      let o = opening p (prefix r b) g t n (omega arith) in
      let y : ℕ = o.0 in
      let now = o.1.only_now in
      let tn = time_next p b in
      let le = time_below p y (b + 1) (omega arith) in
      let upto : y ≤ b = omega arith in
      let mono = due_mono p t.slot.0 (t.first + 1) n (omega arith) in
      let over = put_over p g.room r law i (let m : due p t.slot.0 (t.first + 1) ≤ time_of p b + p.window_a + p.skew = omega arith in m) in
      let k = had_ended y (cub_below p n g.ok.ranges) w first upto in
      let then = first_life_before r (cub_of p n) b y upto first in
      let let_in = first_is_open p r (cub_of p n) y then (due p t.slot.0 n) in
      let there = kept p (prefix r b) g y c x n t
      (i, omega arith) low (omega arith) o.1.opens (law.run.came k.ticked, upto) let_in in
      ⊎_elim
      (λ s. let by = s.by in inl (record { beat = s.beat; near = s.near; far = s.far; by = omega arith }))
      (λ s. inr (⊎_elim
      (λ a. let by = a.by in inl (record { beat = a.beat; reached = a.reached; by = omega arith }))
      (λ a.
      let late = a.late in
      let m = time_mono p y b upto in
      inr (record { beat = a.beat; gone = a.gone; late = omega arith }))
      s))
      (sent_then t refl more o.1 k.ticked then (run_knows p r b there))
