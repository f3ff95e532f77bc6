-- What a cub that has come back lets in and serves, and what it leaves to the next one.
use Rattle.std.proofs.Common.{◌≡◌, ℕ, ◌+◌, ◌<◌, ◌≤◌, refl, sym, ap, subst, ◌∙◌, arith, ⊎_elim, inl, inr, eq-or-lt_of_le}
use Rattle.std.specs.Prelude.{◌⊎◌}
use Rattle.std.proofs.lemmas.Bool.{cases_lt}
use Rattle.tiger_base.specs.declared.tenancy.Tenancy.{Tenancy}
use Rattle.slot_plan.specs.declared.params.Params.{Params}
use Rattle.slot_plan.specs.Times.{time_of, due, cub_of}
use Rattle.slot_plan.proofs.Times.{time_add, time_mono, time_below, cub_below, cub_ahead, cub_apart}
use Rattle.proof_schedule.specs.Facts.{Facts, Ended, LivedTo, IsFirstLife}
use Rattle.proof_schedule.proofs.Lives.{first_same_life}
use Rattle.proof_schedule.proofs.Origins.{entered_held, got_held}
use Rattle.proof_schedule.proofs.Soon.{soon}
use Rattle.proof_pieces.specs.PieceFacts.{PieceFacts}
use Rattle.proof_pieces.proofs.Entries.{Splits, divides, split_first_life}
use Rattle.proof_service.specs.Blocks.{IsNotBackFor}
use Rattle.proof_service.specs.ServiceFacts.{ServiceFacts, IsLeftTo, MayServe, LetsIn, serves_from}
use Rattle.proof_service.proofs.Lives.{Lives}
use Rattle.proof_service.proofs.Service.{Service}

-- The cub of visit n came back in time to serve the visit, which is not the tenancy's first.
pub record IsBackFor (p : Params) (r : Facts) (t : Tenancy) (n : ℕ) : Type 0 where
  pub beat : ℕ
  pub returned : r.Returned (cub_of p n) beat
  pub reading : ℕ
  pub ticked : r.Ticked (cub_of p n) beat reading
  pub late : serves_from p reading ≤ due p t.slot.0 n
  pub more : t.first < n

-- A cub in its first life lets in whatever leaves.
pub first_lets_in : (p : Params) (r : Facts) (c at b : ℕ) → IsFirstLife r c b → LetsIn p r c at b
first_lets_in p r c at b first = λ x l back tick le. let m = first x back in absurd (omega arith)

-- A cub in its first life may serve whatever is due.
pub first_may_serve : (p : Params) (r : Facts) (c : ℕ) (t : Tenancy) (n j b : ℕ)
    → IsFirstLife r c b → MayServe p r c t n j b
first_may_serve p r c t n j b first =
    λ x l back tick le whole. let m = first x back in absurd (omega arith)

-- Each cub may serve a piece.
pub piece_may_serve : (p : Params) (r : Facts) (c : ℕ) (t : Tenancy) (n j b : ℕ)
    → 1 ≤ j → MayServe p r c t n j b
piece_may_serve p r c t n j b some = λ x l back tick le whole. absurd (omega arith)

-- What a cub may serve in a beat it may serve in each lower one.
pub may_serve_before : (p : Params) (r : Facts) (c : ℕ) (t : Tenancy) (n j d b : ℕ)
    → d ≤ b → MayServe p r c t n j b → MayServe p r c t n j d
may_serve_before p r c t n j d b lower may =
    λ x l back tick le whole. may x l back tick (omega arith) whole

module _ (p : Params) (r : Facts) (q : PieceFacts) (w : ServiceFacts) (end : ℕ)
    (s : Service p r q w end) where
  -- A cub that ended a beat in its first life has ended each lower one.
  lived_before : {f : ℕ} (m b : ℕ) → LivedTo r (cub_of p m) f → b ≤ f → Ended r (cub_of p m) b
  lived_before {f} m b h le =
      let came = s.setting.law.run.came h.ticked in
      ⊎_elim
      (λ (same : b ≡ f).
      let ended : Ended r (cub_of p m) f = record { reading = h.reading; ticked = h.ticked } in
      subst (λ v. Ended r (cub_of p m) v) (sym same) ended)
      (λ (l : b < f). ⊎_elim
      (λ k. record { reading = k.reading; ticked = k.ticked })
      (λ k.
      let by = k.by in
      let last = s.setting.law.run.last came k.died h.first in
      absurd (omega arith))
      (s.setting.law.run.up came l (cub_below p m s.setting.ok.ranges)))
      (eq-or-lt_of_le le)

  -- So it lives from beat 0 on.
  pub first_life : {f : ℕ} (m : ℕ) → LivedTo r (cub_of p m) f → Lives r (cub_of p m) 0 f
  first_life {f} m h = record {
    ended = λ b low le. lived_before m b h le;
    one = first_same_life r (cub_of p m) f h.first 0;
    begins = inl refl;
  }

  -- A cub that came back lives from its return on.
  pub second_life : {c x f : ℕ} → r.Returned c x → f < end → Lives r c x f
  second_life {c} {x} {f} back l = record {
    ended = λ b low le. s.laws.stays back low (omega arith);
    one = λ y again by. let same = s.laws.returns_once back again in omega arith;
    begins = inr back;
  }

  -- A cub comes back at one reading.
  pub one_return : {c x y l m : ℕ} → r.Returned c x → r.Ticked c x l
      → r.Returned c y → r.Ticked c y m → m ≡ l
  one_return {c} {x} {y} {l} {m} back tick again then =
      let one : y ≡ x = s.laws.returns_once back again in
      let low = s.pieces.rising tick then (omega arith) in
      let high = s.pieces.rising then tick (omega arith) in
      omega arith

  -- A visit for which its cub is back it may serve.
  pub back_may_serve : {t : Tenancy} {n : ℕ} → IsBackFor p r t n → (b : ℕ)
      → MayServe p r (cub_of p n) t n 0 b
  back_may_serve h b = λ x l back tick le whole.
      let same = one_return h.returned h.ticked back tick in
      let late = h.late in
      omega arith

  -- The cub of a visit that is due by a beat is back for it, or not.
  pub back_or_not : (t : Tenancy) (n f : ℕ) → t.first ≤ n → due p t.slot.0 n ≤ time_of p f
      → IsBackFor p r t n ⊎ IsNotBackFor p r t n
  back_or_not t n f low meets = ⊎_elim
      (λ (same : t.first ≡ n). inr (λ x l back tick. inr (sym same)))
      (λ (more : t.first < n). ⊎_elim
      (λ first. inr (λ x l back tick.
      let after = first x back in
      let at = (s.setting.law.run.reads tick).0 in
      let mono = time_mono p f x (omega arith) in
      inl (omega (arith, s.setting.room))))
      (λ k.
      let e = s.laws.returns_ended k.returned in
      ⊎_elim
      (λ (early : due p t.slot.0 n < serves_from p e.reading). inr (λ x l back tick.
      let same = one_return k.returned e.ticked back tick in
      inl (omega arith)))
      (λ (late : serves_from p e.reading ≤ due p t.slot.0 n). inl (record {
        beat = k.beat;
        returned = k.returned;
        reading = e.reading;
        ticked = e.ticked;
        late = late;
        more = more;
      }))
      (cases_lt (due p t.slot.0 n) (serves_from p e.reading)))
      (s.setting.law.run.returns (cub_of p n) f))
      (eq-or-lt_of_le low)

  -- A visit for which its cub is not back is left to the next one.
  pub left_to_next : (t : Tenancy) (n f : ℕ) → IsNotBackFor p r t n
      → IsLeftTo p w (cub_of p (n + 1)) t n f
  left_to_next t n f away from y took by =
      let o = s.laws.back_from took (cub_below p n s.setting.ok.ranges) (sym (cub_ahead p n 1)) in
      let is = o.is_from in
      ⊎_elim
      (λ early. inl (omega arith))
      (λ first. inr first)
      (away o.beat o.reading o.returned o.ticked)

  -- No cub takes an own record of a first visit: its state goes to the next cub alone.
  not_first : {c n y : ℕ} {t : Tenancy} → r.Took c t n y → c ≡ cub_of p n → n ≡ t.first → ⊥
  not_first {c} {n} {y} {t} took here first =
      let law = s.setting.law in
      let k = law.states.taken took in
      let o = law.links.carried k.got in
      let low = (got_held p r law k.got).low in
      let same : n ≡ k.visit = ⊎_elim
      (λ a. a.0)
      (λ a. let later = a.0 in absurd (omega arith))
      k.given in
      ⊎_elim
      (λ i.
      let own : o.from ≡ cub_of p n = i.own ∙ ap (λ v. cub_of p v) (sym first) in
      let near = i.near in
      let sum : o.from + o.ahead ≡ cub_of p n + 1 = omega arith in
      let next = sym here ∙ o.to ∙ ap (λ v. cub_of p v) sum ∙ cub_ahead p n 1 in
      let many = s.setting.turn.cubs in
      cub_apart p n 1 (omega arith) (omega arith) next)
      (λ f.
      let next = f.next in
      let held = (entered_held p r law f.entered).low in
      omega arith)
      (law.states.sends o.sent)

  -- So a visit that a cub serves whole after its return is not its tenancy's first.
  pub served_later : {c n a x : ℕ} {t : Tenancy} → q.Serves c t n 0 a → r.Returned c x → x ≤ a
      → n ≡ t.first → ⊥
  served_later {c} {n} {a} {x} {t} k back le first =
      let o = s.pieces.serves k in
      let none : n + 0 ≡ n = omega arith in
      let here = o.here ∙ ap (λ m. cub_of p m) none in
      let since = o.life x back le in
      let states = s.setting.law.states in
      ⊎_elim
      (λ e. ⊎_elim
      (λ took. not_first took here first)
      (λ put. let before = (states.inserts (states.inserted put).0).first x back in omega arith)
      e.1)
      (λ e. ⊎_elim
      (λ split. let one = split.0 in omega arith)
      (λ m. ⊎_elim
      (λ i. let one = i.piece in omega arith)
      (λ i. let one = i.piece in let some = i.some in omega arith)
      (s.pieces.mirrors (s.pieces.mirrored m).sent))
      e)
      o.arises

  -- What is split is due soon.
  pub split_near : {gap c n b : ℕ} {t : Tenancy} → Splits q gap c t n b
      → due p t.slot.0 n ≤ time_of p b + p.max_lead + p.play + p.skew
  split_near {gap} {c} {n} {b} {t} split =
      let k = divides p r s.setting q s.pieces split in
      let by = k.by in
      let near = soon p s.setting.room r s.setting.law k.entered in
      let m = time_mono p k.beat b by in
      omega arith

  -- For a visit that was split its cub did not come back in time: word of a return in time would
  -- have come before the split.
  pub split_not_back : {c d n b x l : ℕ} {t : Tenancy} → q.Split c t n b → d ≡ cub_of p n
      → r.Returned d x → r.Ticked d x l
      → (due p t.slot.0 n < serves_from p l) ⊎ (n ≡ t.first)
  split_not_back {c} {d} {n} {b} {x} {l} {t} split here back tick = ⊎_elim
      (λ (early : due p t.slot.0 n < serves_from p l). inl early)
      (λ (late : serves_from p l ≤ due p t.slot.0 n).
      let k = s.pieces.splits split in
      let near = split_near {gap = 1} (inl (refl, split)) in
      let low = (s.setting.law.run.reads tick).0 in
      let sum = time_add p x p.delay in
      let arrived = time_below p (x + p.delay) b (omega (arith, s.setting.room)) in
      let next = k.next ∙ sym (ap (λ y. cub_of p (y + 1)) here ∙ cub_ahead p n 1) in
      let first = split_first_life p r s.setting q s.pieces {gap = 1} (inl (refl, split)) b in
      let same = first_same_life r c b first x in
      let took = s.laws.back_arrives c b back tick next k.tick.came same (omega arith) in
      let took_by = took.by in
      s.laws.left split (serves_from p l) took.beat took.took (omega arith))
      (cases_lt (due p t.slot.0 n) (serves_from p l))
