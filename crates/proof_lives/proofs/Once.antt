-- A cub puts an instance once: its start leaves the lists, and never comes again.
use Rattle.std.proofs.Common.{◌≡◌, ℕ, suc, ◌<◌, sym, ap, subst, ◌∙◌, arith, ⊎_elim, inl, List}
use Rattle.std.proofs.lemmas.Bool.{cases_order}
use Rattle.tiger_base.specs.declared.number.Instance.{Instance}
use Rattle.tiger_base.specs.declared.number.Stamp.{Stamp}
use Rattle.tiger_base.specs.declared.tenancy.Ask.{Ask}
use Rattle.tiger_base.specs.declared.tenancy.Tenancy.{Tenancy}
use Rattle.tiger_base.specs.declared.message.Msg.{Msg}
use Rattle.slot_plan.specs.declared.params.Params.{Params}
use Rattle.slot_plan.specs.Conditions.{IsPlan}
use Rattle.node_kit.specs.declared.course.Order.{Order}
use Rattle.node_kit.specs.Steps.{Input}
use Rattle.node_kit.specs.Steps.Input.{Tick}
use Rattle.cub_rules.specs.declared.store.Store.{Store}
use Rattle.cub_rules.specs.Ticks.{inserting}
use Rattle.proof_lives.specs.Lives.{Lives, deed_of, store_at, beat_at}
use Rattle.lists.specs.Elements.{In}
use Rattle.proof_lives.specs.Facts.{DidAt, AreStarts}
use Rattle.proof_lives.specs.Once.{CubsPutOnce}
use Rattle.proof_lives.proofs.Cuts.{was_put_out}
use Rattle.proof_lives.proofs.Inserting.{put_out, PutWell}
use Rattle.proof_lives.proofs.TakingOver.{inserting_puts}
use Rattle.proof_lives.proofs.Ticking.{before_inserting}
use Rattle.proof_lives.proofs.States.{put_at_tick, put_inserted, at_tick}
use Rattle.proof_lives.proofs.Waiting.{IsQueued, before_back, tick_seats, tick_gone, Started, once_at, queued_since, queued_came}

module _ (p : Params) (lives : Lives) (orders : List Order) (plan : IsPlan p) (starts : AreStarts p lives orders) where
  -- what a cub keeps when insertion begins at a tick
  abbrev ready : ℕ → ℕ → Stamp → Store
  ready c i stamp = before_inserting p c stamp (store_at p c (lives.input c) i)

  -- a Put, at its tick
  record PutThere (c i : ℕ) (t : Tenancy) : Type 0 where
    stamp : Stamp
    is : lives.input c i ≡ Tick stamp
    put : In (put_out t) (inserting p c stamp (ready c i stamp)).outs
    well : PutWell p c stamp.reading (ready c i stamp).starts.waiting (ready c i stamp).believes t
        (inserting p c stamp (ready c i stamp)).outs

  put_there : {c x : ℕ} {t : Tenancy} (d : DidAt p lives c (put_out t) x) → PutThere c d.at t
  put_there {c} {x} {t} d =
      let inputs : ℕ → Input Msg = lives.input c in
      let h : Store = store_at p c inputs d.at in
      let did = was_put_out p lives c d.at (put_out t) d.did in
      let a = at_tick p c inputs d.at (put_out t) (put_at_tick p c plan d.small (inputs d.at) h t did) did in
      let k = put_inserted p c plan d.small a.stamp h t a.did in
      record { stamp = a.stamp; is = a.is; put = k; well = (inserting_puts p c a.stamp plan d.small (before_inserting p c a.stamp h)).put t k }

  -- its start stood in the lists, and came before
  put_queued : (c i : ℕ) (t : Tenancy) (w : PutThere c i t) → IsQueued w.well.ask (store_at p c (lives.input c) i).starts
  put_queued c i t w = before_back p c w.stamp (store_at p c (lives.input c) i) w.well.ask (inl w.well.waits)

  put_came : (c i : ℕ) (t : Tenancy) (w : PutThere c i t) → Started (lives.input c) w.well.ask 0 i
  put_came c i t w = queued_came p c (lives.input c) i w.well.ask (put_queued c i t w)

  -- an instance is not put again later
  not_later : (c i j : ℕ) (t u : Tenancy) → c < p.cubs → i < j → j < lives.count c → PutThere c i t → PutThere c j u
      → u.instance.0 ≡ t.instance.0 → ⊥
  not_later c i j t u small before low w v same =
      let inputs : ℕ → Input Msg = lives.input c in
      let a : Ask = v.well.ask in
      let ai : a.instance.0 ≡ t.instance.0 = ap (λ (x : Instance). x.0) v.well.instance ∙ same in
      ⊎_elim
      (λ q. tick_gone p c w.stamp (store_at p c inputs i) t a (once_at p c inputs i) w.put
      (subst (λ (k : Input Msg). IsQueued a (deed_of p c k (store_at p c inputs i)).state.starts) w.is q) ai)
      (λ s.
      let first = put_came c i t w in
      let fb = first.before in
      let sf = s.from in
      let sb = s.before in
      let e = starts.one_start c first.at s.at first.stamp s.stamp first.link s.link w.well.ask a first.redundant s.redundant small (omega arith) (omega arith) first.is s.is
      (ap (λ (x : Instance). x.0) w.well.instance ∙ sym ai) in
      let z : ⊥ = absurd (omega arith) in z)
      (queued_since p c inputs j (suc i) a (omega arith) (put_queued c j u v))

  pub once : {c x y : ℕ} {t u : Tenancy} → DidAt p lives c (put_out t) x → DidAt p lives c (put_out u) y → u.instance.0 ≡ t.instance.0
      → (u ≡ t) × (y ≡ x)
  once {c} {x} {y} {t} {u} d e same =
      let w = put_there d in
      let v = put_there e in
      ⊎_elim
      (λ (q : d.at ≡ e.at).
      let inputs : ℕ → Input Msg = lives.input c in
      let h : Store = store_at p c inputs d.at in
      let v2 : PutThere c d.at u = subst (λ n. PutThere c n u) (sym q) v in
      let stamps : v2.stamp ≡ w.stamp = let z : Tick v2.stamp ≡ Tick w.stamp = sym v2.is ∙ w.is in cc in
      let k = subst (λ (s : Stamp). In (put_out u) (inserting p c s (before_inserting p c s h)).outs) stamps v2.put in
      let db = d.in_beat in
      let eb = e.in_beat in
      let beats : y ≡ x = sym eb ∙ ap (λ n. beat_at inputs n) (sym q) ∙ db in
      ((tick_seats p c w.stamp h (once_at p c inputs d.at)).single u t k w.put same, beats))
      (⊎_elim
      (λ (l : d.at < e.at). absurd (not_later c d.at e.at t u d.small l e.done w v same))
      (λ (g : e.at < d.at). absurd (not_later c e.at d.at u t d.small g d.done v w (sym same))))
      (cases_order d.at e.at)

pub put_once : CubsPutOnce
put_once p lives orders plan starts c x y t u d e same = once p lives orders plan starts d e same
