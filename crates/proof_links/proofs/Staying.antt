-- A cub that came back ends each beat from then on, and its readings never fall.
use Rattle.std.proofs.Common.{◌≡◌, ℕ, ◌+◌, ◌<◌, ◌≤◌, List, ap, ◌∙◌, arith, ⊎_elim, inr}
use Rattle.tiger_base.specs.declared.message.Msg.{Msg}
use Rattle.slot_plan.specs.declared.params.Params.{Params}
use Rattle.slot_plan.specs.Conditions.{IsPlan}
use Rattle.node_kit.specs.declared.course.Order.{Order}
use Rattle.node_kit.specs.Steps.{Deed, Input}
use Rattle.run_facts.specs.Histories.{History, IsUp, open_beat}
use Rattle.disk_core.specs.State.{DiskState}
use Rattle.proof_lives.specs.Histories.{first_events, later_from, later_lives_of}
use Rattle.proof_lives.specs.Lives.{BeganLate}
use Rattle.proof_lives.specs.TwoLifeRun.WhichLife.{First, Later}
use Rattle.proof_lives.proofs.Fitting.{as_tick}
use Rattle.proof_lives.proofs.Returns.{died, later_whole, open_later}
use Rattle.proof_lives.proofs.TwoLives.{cut_in_run}
use Rattle.proof_schedule.specs.Facts.{Ended}
use Rattle.proof_facts.specs.Beside.{Additions}
use Rattle.proof_facts.specs.Facts.{facts_of}
use Rattle.proof_facts.specs.Rings.{IsRingWith, IsUpTo}
use Rattle.proof_links.proofs.Nodes.{cub_inside}
use Rattle.proof_links.proofs.Running.{ended_in, readings_rise, return_is}

module _ {S : Type 0} {step : S → Input Msg → Deed Msg S} {p : Params} {orders : List Order} {disk_at : ℕ → DiskState}
    {added : Additions} {h : History Msg S} (plan : IsPlan p) (ring : IsRingWith step p orders disk_at added h) where
  -- ---- ticks

  -- A node that came back is up: it dies once.
  back_up : (c : ℕ) → c < p.cubs → first_events h c < h.count c → IsUp h c
  back_up c small more i low dies =
      let inside = cub_inside plan ring c small in
      let d = died ring.run c inside more in
      let next = d.next in
      let same = ring.run.once c i d.at inside low (omega arith) dies d.death in
      omega arith

  -- If each node that is up has ended each beat below the end, a cub that came back has ended each since.
  pub stays : {end c x b : ℕ} → IsUpTo p end h → BeganLate p (later_lives_of h) c x → x ≤ b → b < end
      → Ended (facts_of p orders h) c b
  stays {end} {c} {x} {b} whole back le low =
      let inside = cub_inside plan ring c back.small in
      let n : ℕ = (later_lives_of h).count c in
      let some = back.done in
      let from = back.in_beat in
      let is = return_is plan ring back in
      let most : later_from h c + n ≡ h.count c = omega arith in
      let high = whole.until c inside (back_up c back.small (omega arith)) in
      let at_end : open_beat h c (later_from h c + n) ≡ open_beat h c (h.count c) = ap (open_beat h c) most in
      let opened = open_later ring.run c inside n (omega arith) in
      let e = ended_in plan ring Later c b n back.small (omega arith)
      (λ j less. cut_in_run ring.run c inside Later j less
      ∙ later_whole ring.run c inside (later_from h c + j) (omega arith) (omega arith))
      (omega arith) (omega arith) in
      record { reading = e.reading; ticked = inr e.ticked }

  -- ---- clocks

  -- Of two ticks of a cub, whichever lives they are of, the later one does not read less.
  pub rising : (c a b l m : ℕ) → (facts_of p orders h).Ticked c a l → (facts_of p orders h).Ticked c b m → a ≤ b → l ≤ m
  rising c a b l m v t le = ⊎_elim
      (λ x. ⊎_elim
      (λ y. readings_rise plan ring First First (as_tick x) (as_tick y) le)
      (λ y. readings_rise plan ring First Later (as_tick x) (as_tick y) le)
      t)
      (λ x. ⊎_elim
      (λ y. readings_rise plan ring Later First (as_tick x) (as_tick y) le)
      (λ y. readings_rise plan ring Later Later (as_tick x) (as_tick y) le)
      t)
      v
