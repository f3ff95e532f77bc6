-- What a view shows after a tick is not due yet, and came behind the deschedules of its instance.
use Rattle.std.proofs.Common.{◌≡◌, ℕ, ap, subst, arith}
use Rattle.tiger_base.specs.declared.number.Stamp.{Stamp}
use Rattle.tiger_base.specs.declared.tenancy.Tenancy.{Tenancy}
use Rattle.tiger_base.specs.declared.message.Msg.{Msg}
use Rattle.slot_plan.specs.declared.params.Params.{Params}
use Rattle.node_kit.specs.Steps.{Input, stamp_of}
use Rattle.cub_rules.specs.declared.store.Store.{Store}
use Rattle.cub_rules.specs.Ticks.{reading}
use Rattle.proof_schedule.specs.Facts.{Facts, IsSameLife}
use Rattle.proof_schedule.specs.StateLaws.{IsShown}
use Rattle.proof_lives.specs.Lives.{Lives, deed_of, store_at, beat_at}
use Rattle.lists.specs.Elements.{In}
use Rattle.proof_lives.proofs.States.{tick_true}
use Rattle.proof_lives.specs.FactsBy.{Beyond, ShowsAt, facts_by}
use Rattle.proof_lives.proofs.Reaching.{stop_by_tick}
use Rattle.proof_cubs.proofs.Setting.{Setting}
use Rattle.proof_cubs.proofs.Standing.{come_after}
use Rattle.proof_lives.proofs.KeepingRecords.{ticking_leaves}

module _ (p : Params) (lives : Lives) (beyond : Beyond) (set : Setting p lives beyond) where
  abbrev R : Facts
  R = facts_by p lives beyond

  -- A record that a view shows after a tick is as the law has it.
  pub shows : {c n b : ℕ} {t : Tenancy} → ShowsAt p lives c t n b → IsShown p R c t n b
  shows {c} {n} {b} {t} w =
      let inputs : ℕ → Input Msg = lives.input c in
      let k = w.ticked in
      let stamp : Stamp = record { beat = b; reading = w.reading } in
      let eb : beat_at inputs k.at ≡ b = ap (λ (i : Input Msg). (stamp_of i).beat) k.is in
      let h : Store = store_at p c inputs k.at in
      let there = subst (λ (i : Input Msg). In w.line (deed_of p c i h).state.view.lines) k.is w.there in
      let come = come_after p lives beyond set c k.at w.line k.small k.done k.whole w.there in
      let by = come.by in
      let late = ticking_leaves p c stamp h w.line there in
      let all : IsShown p R c w.line.rec.tenancy w.line.rec.visit b = record {
        reading = w.reading;
        ticked = k;
        undue = late;
        beat = come.beat;
        entered = come.entered;
        by = omega arith;
        since = λ y g le life.
            let tick = tick_true inputs k.at stamp k.is in
            let s = stop_by_tick p lives set.lived c k.at w.line.rec.tenancy.instance.0 y k.done tick g (omega arith) in
            come.since s.at s.before s.stop;
        life = subst (λ m. IsSameLife R c come.beat m) eb come.life;
      } in
      subst (λ (m : ℕ). IsShown p R c t m b) w.visit
      (subst (λ (u : Tenancy). IsShown p R c u w.line.rec.visit b) w.tenancy all)
