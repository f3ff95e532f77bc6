-- In a ring's history whoever dies is believed dead in time, counted from its last heartbeat.
use Rattle.std.proofs.Common.{◌≡◌, ℕ, ◌+◌, ◌<◌, ◌≤◌, List, refl, sym, subst, arith, ⊎_elim, inl, inr}
use Rattle.std.specs.Prelude.{◌⊎◌}
use Rattle.tiger_base.specs.declared.number.CubNo.{CubNo}
use Rattle.tiger_base.specs.declared.message.Msg.{Msg}
use Rattle.tiger_base.specs.declared.message.Msg.TheVariants as msg
use Rattle.tiger_base.specs.declared.message.Note.TheVariants as note
use Rattle.slot_plan.specs.declared.params.Params.{Params}
use Rattle.slot_plan.specs.Conditions.{IsPlan}
use Rattle.slot_plan.specs.Times.{cub_of}
use Rattle.slot_plan.proofs.Times.{time_zero, time_one, time_next, cub_below}
use Rattle.node_kit.specs.declared.course.Order.{Order}
use Rattle.node_kit.specs.declared.journal.Entry.{Entry}
use Rattle.node_kit.specs.declared.journal.What.{What}
use Rattle.node_kit.specs.declared.journal.What.TheVariants as what
use Rattle.node_kit.specs.declared.outbox.Out.{Out}
use Rattle.node_kit.specs.declared.outbox.Out.TheVariants as out
use Rattle.node_kit.specs.Steps.{Deed, Input}
use Rattle.node_kit.specs.Ways.{way_ahead}
use Rattle.run_facts.specs.Histories.{History}
use Rattle.run_facts.specs.Order.{Noted, beat_of, order_of}
use Rattle.run_facts.proofs.Rows.{all-weaker}
use Rattle.disk_core.specs.State.{DiskState}
use Rattle.ring_nodes.specs.AllNodes.{any_step}
use Rattle.proof_lives.specs.Facts.{DidAt}
use Rattle.proof_lives.specs.TwoLifeRun.{WhichLife, life_in}
use Rattle.proof_lives.specs.TwoLifeRun.WhichLife.{First, Later}
use Rattle.proof_schedule.specs.Facts.{Facts, BelievedBy, IsFirstLife}
use Rattle.proof_service.specs.ServiceLaws.{HeardTill}
use Rattle.lists.specs.Elements.{In}
use Rattle.proof_moments.specs.Recorded.{IsRecorded}
use Rattle.proof_moments.specs.Ties.{IsTickBelow}
use Rattle.proof_moments.proofs.Bridge as bridge
use Rattle.proof_moments.proofs.Lists.{any_with}
use Rattle.lists.proofs.Each.{all_by, all_in}
use Rattle.proof_moments.proofs.Truths.{ways_after}
use Rattle.proof_facts.specs.Beside.{Additions, nothing_added}
use Rattle.proof_facts.specs.Facts.{facts_of}
use Rattle.proof_facts.specs.Lives.{later_lives_of, lives_of}
use Rattle.proof_facts.specs.Rings.{IsRingWith}
use Rattle.proof_links.proofs.States.{BeatBefore, heartbeat_from}
use Rattle.proof_ring.proofs.Histories.{cubs_laws}
use Rattle.proof_journals.specs.Journals.{AreJournalsOf}
use Rattle.proof_journals.proofs.Events.{AreKept}
use Rattle.proof_journals.proofs.Logging.{sent_logged}
use Rattle.proof_ring.proofs.CubLives.{rings_are_histories}
use Rattle.proof_ring.specs.Beliefs.{IsBelief, SendsHeartbeat, IsSilentFrom, IsNoticed, BelievesBy, IsBelievedInTime, BeliefsAreInTime, RingsBelieveInTime}
use Rattle.proof_ring.proofs.Recorded as recorded

module _ {S : Type 0} (step : S → Input Msg → Deed Msg S) (p : Params) (orders : List Order) (disk_at : ℕ → DiskState) (added : Additions)
    (h : History Msg S) (journals : List (List Entry)) (plan : IsPlan p) (ring : IsRingWith step p orders disk_at added h)
    (are : AreJournalsOf step p h journals) where
  abbrev pub r : Facts
  r = facts_of p orders h

  kept : AreKept step p orders disk_at added h journals
  kept = record { plan = plan; ring = ring; are = are }

  w : IsRecorded p r orders journals
  w = recorded.recorded step p orders disk_at added h journals plan ring are

  -- What a cub did in a life it did in one of two.
  either : (w : WhichLife) {c b : ℕ} {o : Out Msg} → DidAt p (life_in h w) c o b
      → DidAt p (lives_of h) c o b ⊎ DidAt p (later_lives_of h) c o b
  either First d = inl d
  either Later d = inr d

  -- Nor is it still the beginning of the run.
  not_first : (c x b l : ℕ) → r.Ticked c b l → IsNoticed p x b → l ≤ p.deadman → ⊥
  not_first c x b l tick long early =
      let delay = plan.ranges.delay in
      let delayed = delay.0 in
      let way = ways_after p 0 1 1 (omega arith) in
      let one = time_one p in
      let zero = time_zero p in
      let low = (w.more.reads c b l tick).0 in
      omega arith

  module _ (beats : ℕ) where
    abbrev log : List Noted
    log = order_of beats journals

    -- A heartbeat that a cub sent and the next one heard stands in the log.
    sent_before : (one : WhichLife) (d x quiet until : ℕ) → IsSilentFrom log d quiet until
        → DidAt p (life_in h one) d (out.Send (way_ahead p d 1) msg.Heartbeat) x → x < until → x < beats → x < quiet
    sent_before one d x quiet until silent did before low =
        let l = sent_logged kept d x (way_ahead p d 1) msg.Heartbeat (either one did) in
        let e = bridge.logged p r orders journals w beats d x (λ (e : Entry). e.what ≡ what.Sent (way_ahead p d 1) note.Heartbeat) l low in
        let when = e.beat in
        let quieter = all_in (λ (q : Noted). q.node ≡ d → SendsHeartbeat q.entry.what → beat_of q < until → beat_of q < quiet) e.entry log
        silent e.there e.node (subst SendsHeartbeat (sym e.is) tt) (omega arith) in
        omega arith

    -- The heartbeat that a cub heard of a silent one says nothing of a tick at which the silence is noticed.
    not_heard : (c d quiet b l : ℕ) → c ≡ cub_of p (d + 1) → d < p.cubs → IsSilentFrom log d quiet b → IsTickBelow r beats c b l
        → IsNoticed p quiet b → HeardTill p r c b l → ⊥
    not_heard c d quiet b l next small silent tick long heard =
        let s : BeatBefore plan ring d heard.beat =
        ⊎_elim (λ g. heartbeat_from plan ring First g small next) (λ g. heartbeat_from plan ring Later g small next) heard.heard in
        let later = s.later in
        let by = heard.by in
        let early = tick.1 in
        let before = sent_before s.which d s.beat quiet b silent s.sent (omega arith) (omega arith) in
        let soon = s.soon in
        let way = ways_after p quiet (heard.beat + 1) 1 (omega arith) in
        let more = time_next p heard.beat in
        let till = heard.till in
        let low = (w.more.reads c b l tick.0).0 in
        omega arith

    noticed : (c d quiet b l : ℕ) → c ≡ cub_of p (d + 1) → d < p.cubs → IsFirstLife r c b → IsSilentFrom log d quiet b
        → IsTickBelow r beats c b l → IsNoticed p quiet b → BelievedBy r c b
    noticed c d quiet b l next small first silent tick long = ⊎_elim
        (λ (k : BelievedBy r c b). k)
        (λ (other : HeardTill p r c b l ⊎ (l ≤ p.deadman)). ⊎_elim
        (λ (heard : HeardTill p r c b l). absurd (not_heard c d quiet b l next small silent tick long heard))
        (λ (early : l ≤ p.deadman). absurd (not_first c quiet b l tick.0 long early))
        other)
        ((cubs_laws step p orders disk_at added h plan ring).rest.watches tick.0 first)

    believed : (c d quiet b l : ℕ) → c ≡ cub_of p (d + 1) → d < p.cubs → IsFirstLife r c b → IsSilentFrom log d quiet b
        → IsTickBelow r beats c b l → IsNoticed p quiet b → BelievesBy log c d b
    believed c d quiet b l next small first silent tick long =
        let k = noticed c d quiet b l next small first silent tick long in
        let by = k.by in
        let below = tick.1 in
        let e = bridge.logged p r orders journals w beats c k.beat (λ (e : Entry). (cub : CubNo) × (e.what ≡ what.Believed cub) × (cub.0 ≡ d))
        (w.logged.believed c d k.beat k.believed next small) (omega arith) in
        let when = e.beat in
        let early : beat_of e.entry ≤ b = omega arith in
        any_with (λ (x : Noted). (x.node ≡ c) × (beat_of x ≤ b) × IsBelief d x.entry.what) log e.entry e.there
        (e.node, early, subst (IsBelief d) (sym e.is.1) e.is.2)

    -- Of two neighbours one dies at most, so the next cub of one that dies does not come back.
    next_stays : (x : Noted) → In x log → x.entry.what ≡ what.Died → x.node < p.cubs → (b : ℕ)
        → IsFirstLife r (cub_of p (x.node + 1)) b
    next_stays x there dies small b v back =
        let died = w.tells.died x.node x.entry small (bridge.stands p r orders journals w beats x there) dies in
        let other = w.more.returned (cub_of p (x.node + 1)) v back in
        absurd (w.more.apart x.node (cub_of p (x.node + 1)) (beat_of x) other.beat died other.died refl)

    pub in_time : (x : Noted) → In x log → (v : What) → x.entry.what ≡ v → IsBelievedInTime p (IsTickBelow r beats) log x.node v
    in_time x there what.Died is = λ quiet beat reading small silent tick long.
        believed (cub_of p (x.node + 1)) x.node quiet beat reading refl small (next_stays x there is small beat) silent tick long
    in_time x there other is = tt

-- Whoever dies in a history is believed dead in time, whatever cubs add.
pub histories_believe_in_time : {S : Type 0} (step : S → Input Msg → Deed Msg S) (p : Params) (orders : List Order) (disk_at : ℕ → DiskState)
    (added : Additions) (h : History Msg S) (journals : List (List Entry)) (beats : ℕ)
    → IsPlan p → IsRingWith step p orders disk_at added h → AreJournalsOf step p h journals
    → BeliefsAreInTime p (IsTickBelow (facts_of p orders h) beats) (order_of beats journals)
histories_believe_in_time step p orders disk_at added h journals beats plan ring are =
    let r = facts_of p orders h in
    let log = order_of beats journals in
    all_by (λ (x : Noted). IsBelievedInTime p (IsTickBelow r beats) log x.node x.entry.what) log
    (λ x there. in_time step p orders disk_at added h journals plan ring are beats x there x.entry.what refl)

pub rings_believe_in_time : (G : Type 0) → RingsBelieveInTime G
rings_believe_in_time G p orders disk_at h journals beats plan is_ring are =
    histories_believe_in_time (any_step {G = G}) p orders disk_at nothing_added h journals beats plan
    (rings_are_histories G p orders disk_at h plan is_ring) are

-- And so with fewer ticks.
pub with_ticks : (p : Params) (ticked some : ℕ → ℕ → ℕ → Type 0) (log : List Noted) → IsPlan p
    → ((cub beat reading : ℕ) → cub < p.cubs → some cub beat reading → ticked cub beat reading)
    → BeliefsAreInTime p ticked log → BeliefsAreInTime p some log
with_ticks p ticked some log plan of_its all =
    all-weaker (λ (x : Noted). IsBelievedInTime p ticked log x.node x.entry.what)
    (λ (x : Noted). IsBelievedInTime p some log x.node x.entry.what) log (λ x old. by x x.entry.what old) all
  where
    by : (x : Noted) (v : What) → IsBelievedInTime p ticked log x.node v → IsBelievedInTime p some log x.node v
    by x what.Died old = λ quiet beat reading small silent tick long.
        let next = cub_of p (x.node + 1) in
        old quiet beat reading small silent (of_its next beat reading (cub_below p (x.node + 1) plan.ranges) tick) long
    by x other old = tt
