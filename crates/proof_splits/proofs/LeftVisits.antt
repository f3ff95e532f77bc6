-- What a cub splits is left to it, whatever it was told of the return of its predecessor.
use Rattle.std.proofs.Common.{◌≡◌, ℕ, suc, ◌+◌, ◌<◌, ◌≤◌, ◌==◌, ◌&&◌, nat_le, Bool, true, false, not, Option, Some, refl, sym, ap, subst, ◌∙◌, arith, ⊎_elim, inl, inr}
use Rattle.std.specs.Prelude.{◌⊎◌}
use Rattle.std.proofs.Math.Nat.{mod-eq_of_lt}
use Rattle.std.proofs.lemmas.Bool.{cases_lt, eqb-true, le-leb}
use Rattle.tiger_base.specs.declared.number.LinkNo.{LinkNo}
use Rattle.tiger_base.specs.declared.number.Stamp.{Stamp}
use Rattle.tiger_base.specs.declared.tenancy.Rec.{Rec}
use Rattle.tiger_base.specs.declared.tenancy.Tenancy.{Tenancy}
use Rattle.tiger_base.specs.declared.message.Msg.{Msg}
use Rattle.tiger_base.specs.declared.message.Msg.TheVariants as msg
use Rattle.tiger_base.specs.Records.{backup_of}
use Rattle.slot_plan.specs.declared.params.Params.{Params}
use Rattle.slot_plan.specs.Conditions.{IsPlan}
use Rattle.slot_plan.specs.Times.{due, cub_of}
use Rattle.node_kit.specs.Steps.{Deed, Input, stamp_of}
use Rattle.node_kit.specs.Steps.Input.{Take, Tick}
use Rattle.node_kit.specs.Ways.{way_ahead, predecessor}
use Rattle.cub_rules.specs.declared.store.Store.{Store}
use Rattle.cub_rules.specs.Comebacks.{due_of_record, is_handed_back}
use Rattle.cub_changes.specs.Causes.{IsOfPredecessor}
use Rattle.cub_changes.proofs.Chains.{hears_back}
use Rattle.cub_changes.proofs.Coming.{splitting_handback, taking_hears_back, ticking_handback}
use Rattle.cub_changes.proofs.Numbers.{next_own, predecessor_below}
use Rattle.disk_core.specs.State.{DiskState}
use Rattle.run_facts.specs.Events.{is_tick_input}
use Rattle.proof_lives.specs.Lives.{Lives, AreLives, beat_at, deed_of, store_at}
use Rattle.proof_lives.specs.FactsBy.{Beyond}
use Rattle.proof_lives.specs.HoldsHere.{AreAllFormed}
use Rattle.proof_lives.proofs.Inputs.{message_before}
use Rattle.proof_lives.proofs.Trails.{held_until}
use Rattle.proof_pieces.specs.PieceFacts.{PieceFacts}
use Rattle.proof_service.specs.ServiceFacts.{IsLeftTo}
use Rattle.proof_facts.specs.Blocks.{TookBackAt, blocks_by}
use Rattle.proof_facts.specs.Carried.{Leads, CubsAreTold, WasSentBy}
use Rattle.proof_facts.specs.Pieces.{before_splitting, stamp_of as made_stamp, SplitAt}
use Rattle.proof_splits.proofs.Among.{SendsAreKnown}
use Rattle.proof_splits.proofs.Arrivals.{ahead_ends}
use Rattle.proof_splits.proofs.Handing.{told_back}

-- ---- what is not handed back

-- a visit that is not handed back is due before the predecessor serves, or is its tenancy's first
not_handed_back : (p : Params) (from : ℕ) (r : Rec) → is_handed_back p (Some from) r ≡ false
    → (due p r.tenancy.slot.0 r.visit < from) ⊎ (r.visit ≡ r.tenancy.first)
not_handed_back p from r e = ⊎_elim
    (λ (l : due p r.tenancy.slot.0 r.visit < from). inl l)
    (λ (g : from ≤ due p r.tenancy.slot.0 r.visit). inr (eqb-true r.visit r.tenancy.first
    (by_late (nat_le from (due_of_record p r)) (r.visit == r.tenancy.first) (le-leb from (due_of_record p r) g) e)))
    (cases_lt (due p r.tenancy.slot.0 r.visit) from)
  where
    by_late : (a b : Bool) → a ≡ true → (a && not b) ≡ false → b ≡ true
    by_late true true f e = refl
    by_late true false f e = absurd (cc)
    by_late false b f e = absurd (cc)

-- ---- along a life

module _ (p : Params) (c : ℕ) (inputs : ℕ → Input Msg) where
  -- a cub knows of a time from which on its predecessor serves
  abbrev KnowsOfBack : ℕ → Type 0
  KnowsOfBack i = (from : ℕ) × ((store_at p c inputs i).handback ≡ Some from)

  knows_after : (i : ℕ) (k : Input Msg) → KnowsOfBack i
      → (from : ℕ) × ((deed_of p c k (store_at p c inputs i)).state.handback ≡ Some from)
  knows_after i (Take stamp link m) w = ⊎_elim
      (λ same. (w.0, same ∙ w.1))
      (λ told. (told.0, told.3))
      (taking_hears_back p c stamp link m (store_at p c inputs i))
  knows_after i (Tick stamp) w = (w.0, ticking_handback p c stamp (store_at p c inputs i) ∙ w.1)

  -- it knows of one from then on
  knows_on : (j i : ℕ) → j ≤ i → KnowsOfBack j → KnowsOfBack i
  knows_on j i le w = ⊎_elim
      (λ k. k)
      (λ u. absurd u.may)
      (held_until KnowsOfBack (λ k. ⊥) i j le (λ k _ _ h. inl (knows_after k (inputs k) h)) w)

-- ---- what is split

abbrev link_numbered : ℕ → LinkNo
link_numbered n = record { 0 = n }

-- behind its predecessor stands the cub
behind_it : (p : Params) (c : ℕ) → IsPlan p → c < p.cubs → cub_of p (predecessor p c + 1) ≡ c
unfolding cub_of
behind_it p c plan small = next_own p c (predecessor p c) plan small (mod-eq_of_lt (predecessor_below p c plan))

module _ (p : Params) (plan : IsPlan p) (lives : Lives) (are : AreLives p lives) (formed : AreAllFormed p lives)
    (beyond : Beyond) (told : CubsAreTold p lives beyond) (among : PieceFacts) (known : SendsAreKnown p beyond among) where
  -- the predecessor sent what came on its link
  by_predecessor : (c i from : ℕ) (stamp : Stamp) (link : LinkNo) → c < p.cubs → i < lives.count c
      → lives.input c i ≡ Take stamp link (msg.Back from) → IsOfPredecessor p c link
      → WasSentBy p beyond (predecessor p c) c (way_ahead p (predecessor p c) 1) (msg.Back from) stamp.beat
  by_predecessor c i from stamp link small low is of =
      let a : ℕ = predecessor p c in
      let below : a < p.cubs = predecessor_below p c plan in
      let next = behind_it p c plan small in
      let some = plan.ranges.pieces.0 in
      let leads : Leads p (way_ahead p a 1) a c = subst (λ (d : ℕ). Leads p (way_ahead p a 1) a d) next
      (ahead_ends p a 1 plan below (omega arith) (omega arith)) in
      let way : link ≡ way_ahead p a 1 = ap (λ (n : ℕ). link_numbered n) of in
      told.from a c i stamp (way_ahead p a 1) (msg.Back from) leads below small low
      (is ∙ ap (λ (l : LinkNo). Take stamp l (msg.Back from)) way)

  -- who was told of a return by the beat of a tick knows of the same time there
  knows_then : (c i b from y : ℕ) (stamp : Stamp) → c < p.cubs → i < lives.count c → lives.input c i ≡ Tick stamp
      → stamp.beat ≡ b → TookBackAt p lives c from y → y ≤ b → (store_at p c (lives.input c) i).handback ≡ Some from
  knows_then c i b from y stamp small low is eb w le =
      let inputs : ℕ → Input Msg = lives.input c in
      let t = w.took in
      let et : beat_at inputs t.at ≡ y = ap (λ (k : Input Msg). (stamp_of k).beat) t.is in
      let ei : beat_at inputs i ≡ stamp.beat = ap (λ (k : Input Msg). (stamp_of k).beat) is in
      let before = message_before p lives are c i t.at small low t.done (ap is_tick_input is) (ap is_tick_input t.is)
      (omega arith) in
      let heard = ap (λ (d : Deed Msg Store). d.state.handback) (hears_back p c (made_stamp y t.reading) t.link from (store_at p c inputs t.at)
      (formed c small t.at (made_stamp y t.reading) t.link (msg.Back from) t.done t.is) w.link) in
      let after = subst (λ (k : Input Msg). (deed_of p c k (store_at p c inputs t.at)).state.handback ≡ Some from) (sym t.is)
      heard in
      let now = knows_on p c inputs (suc t.at) i (omega arith) (from, after) in
      let told_then = told_back p c inputs i now.0 now.1 in
      let earlier = told_then.before in
      let one = by_predecessor c t.at from (made_stamp y t.reading) t.link small t.done t.is w.link in
      let two = by_predecessor c told_then.at now.0 told_then.stamp told_then.link small (omega arith) told_then.is
      told_then.of in
      let same : now.0 ≡ from = known.back (predecessor p c) (way_ahead p (predecessor p c) 1) from now.0 one.beat two.beat
      (predecessor_below p c plan) one.sent two.sent in
      now.1 ∙ ap Some same

  -- what is split is left to the cub
  pub left : (disk_at : ℕ → DiskState) {c : ℕ} {t : Tenancy} {n b : ℕ} → SplitAt p lives c t n b
      → IsLeftTo p (blocks_by p lives disk_at) c t n b
  left disk_at {c} {t} {n} {b} w from y took le =
      let i : ℕ = w.tick.at in
      let stamp : Stamp = made_stamp b w.reading in
      let h : Store = store_at p c (lives.input c) i in
      let knows = knows_then c i b from y stamp w.tick.small w.tick.done w.tick.is refl took le in
      let kept : (before_splitting p c stamp h).handback ≡ Some from = splitting_handback p c stamp h ∙ knows in
      let of_line = subst (λ (o : Option ℕ). is_handed_back p o w.line.rec ≡ false) kept w.left in
      not_handed_back p from (backup_of t n) (subst (λ (r : Rec). is_handed_back p (Some from) r ≡ false) w.there.1 of_line)
