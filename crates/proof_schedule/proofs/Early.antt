-- The controller knows of each Put two longest ways later, if there is no conflict in lower beats.
use Rattle.std.proofs.Common.{◌≡◌, ℕ, ◌+◌, ◌*◌, ◌<◌, ◌≤◌, refl, sym, ap, ◌∙◌, arith, ⊎_elim, inl, inr}
use Rattle.std.proofs.lemmas.Bool.{cases_lt}
use Rattle.tiger_base.specs.declared.tenancy.Tenancy.{Tenancy}
use Rattle.slot_plan.specs.declared.params.Params.{Params}
use Rattle.slot_plan.specs.Conditions.{IsPlan}
use Rattle.slot_plan.specs.Times.{due, cub_of}
use Rattle.slot_plan.proofs.Times.{cub_below, cub_ahead}
use Rattle.proof_schedule.specs.Facts.{Facts, GoneBefore, Takes}
use Rattle.proof_schedule.specs.StateLaws.{PutsOwn}
use Rattle.proof_schedule.specs.Laws.{Laws}
use Rattle.proof_schedule.proofs.Lives.{first_same_life, first_is_open, next_first_life}
use Rattle.proof_schedule.proofs.Room.{Room}
use Rattle.proof_schedule.proofs.Silence.{cut_gone, dead_first}
use Rattle.proof_schedule.proofs.Invariant.{NoConflictAt, EarlyAt}

module _ (p : Params) (ok : IsPlan p) (room : Room p) (r : Facts) (law : Laws p r) where
  -- An instance that is stopped at a disk was not stopped before.
  not_gone : {d v e z : ℕ} → r.StoppedWaiting v d z → e ≤ z → GoneBefore r v e → ⊥
  not_gone {d} {v} {e} {z} stop le g =
      let once : z ≡ g.beat = law.stops.gone_once g.gone (law.stops.gone_waiting stop) in
      let before = g.before in
      omega arith

  -- If the next cub, which lives, has a record of the first visit, or has passed on a deschedule of
  -- its instance, the controller stops the instance at a disk only before it knows so.
  taken_early : {c d y z : ℕ} {t : Tenancy} → r.StoppedWaiting t.instance.0 d z
      → c ≡ cub_of p (t.first + 1) → ((a : ℕ) → r.Died c a → ⊥) → y ≤ z → Takes p r c t t.first y
      → z < y + p.delay
  taken_early {c} {d} {y} {z} {t} stop next lives le w = ⊎_elim
      (λ e.
      let by = e.by in
      ⊎_elim
      (λ k. ⊎_elim
      (λ l. omega arith)
      (λ died. absurd (lives e.beat died))
      (law.stops.unheard stop k next refl))
      (λ k. ⊎_elim
      (λ l. omega arith)
      (λ died. absurd (lives e.beat died))
      (law.stops.unplaced stop (law.states.inserted k).0 refl))
      e.entered)
      (λ o. absurd (⊎_elim
      (λ k.
      let by = k.by in
      not_gone stop (omega arith) (cut_gone p ok room r law {c = c} {v = t.instance.0} {b = k.beat} (inl (law.holds.pass k.passed).reached)))
      (λ k. not_gone stop le (cut_gone p ok room r law {c = c} {v = t.instance.0} {b = y} (inr k)))
      o))
      w

  -- If the cub that put died in its tick, the next one lives. It gets the first visit's state, which
  -- went out with the Put, within a longest way.
  own_early : {c d x z : ℕ} {t : Tenancy} → ((y : ℕ) → y < z → NoConflictAt p r y)
      → r.StoppedWaiting t.instance.0 d z → PutsOwn p r c t x → r.Died c x → z < x + 2 * p.delay
  own_early {c} {d} {x} {z} {t} clean stop own died =
      let n : ℕ = cub_of p (t.first + 1) in
      let e : ℕ = x + p.delay in
      let to : n ≡ cub_of p (c + 1) = sym (ap (λ v. cub_of p (v + 1)) own.own ∙ cub_ahead p t.first 1) in
      let lives : (a : ℕ) → r.Died n a → ⊥ = λ a k. law.run.apart died k to in
      let some = ok.ranges.delay in
      ⊎_elim
      (λ (l : z < x + 2 * p.delay). l)
      (λ (late : x + 2 * p.delay ≤ z). ⊎_elim
      (λ k.
      let life = first_same_life r n e k.first x in
      let got = law.links.arrives n e own.sent to (law.run.came k.ticked) life (omega arith) in
      let by = got.by in
      let first = next_first_life p r law n got.beat died to in
      let let_in = first_is_open p r n got.beat first (due p t.slot.0 t.first) in
      let takes = clean got.beat (omega arith) n t.first t.first t got.got (inl (refl, inr refl)) let_in in
      let early = taken_early stop refl lives (omega arith) takes in
      omega arith)
      (λ k. absurd (lives k.beat k.died))
      (law.stops.up stop (omega arith) (cub_below p (t.first + 1) ok.ranges)))
      (cases_lt z (x + 2 * p.delay))

  -- So the controller knows of each Put two longest ways later. A cub that puts for a dead one does
  -- not die.
  pub early_at : (b : ℕ) → ((y : ℕ) → y < b → NoConflictAt p r y) → EarlyAt p r b
  early_at b clean c d x t stop put = ⊎_elim
      (λ l. omega arith)
      (λ died. ⊎_elim
      (λ own. own_early clean stop own died)
      (λ dead.
      let o = dead_first p ok room r law dead in
      let to : c ≡ cub_of p (cub_of p t.first + 1) = dead.next ∙ sym (cub_ahead p t.first 1) in
      absurd (law.run.apart o.died.died died to))
      (law.states.inserts put).who)
      (law.stops.unplaced stop put refl)
