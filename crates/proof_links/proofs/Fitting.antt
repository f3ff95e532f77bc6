-- What a history tells beyond one life of each cub fits both lives.
use Rattle.std.proofs.Common.{◌≡◌, ℕ, ◌+◌, ◌<◌, ◌≤◌, List, sym, ap, ◌∙◌, arith, inl, inr}
use Rattle.std.specs.Prelude.{◌⊎◌}
use Rattle.tiger_base.specs.declared.number.LinkNo.{LinkNo}
use Rattle.tiger_base.specs.declared.tenancy.Tenancy.{Tenancy}
use Rattle.tiger_base.specs.declared.message.Msg.{Msg}
use Rattle.slot_plan.specs.declared.params.Params.{Params}
use Rattle.slot_plan.specs.Conditions.{IsPlan}
use Rattle.node_kit.specs.declared.course.Order.{Order}
use Rattle.node_kit.specs.declared.outbox.Out.TheVariants as out
use Rattle.node_kit.specs.Steps.{Deed, Input, stamp_of}
use Rattle.run_facts.specs.Events.{NodeEvent, is_death}
use Rattle.run_facts.specs.Histories.{History, beat}
use Rattle.disk_core.specs.State.{DiskState}
use Rattle.proof_lives.specs.Histories.{first_events, later_lives_of}
use Rattle.proof_lives.specs.Lives.{BeganLate, beat_at}
use Rattle.proof_lives.specs.Facts.{DiedIn, DidAt, SentAt, TickAt}
use Rattle.proof_lives.specs.FactsBy.{CameToTick, IsInOneLife}
use Rattle.proof_lives.specs.StopFactsOf.{ToldAt}
use Rattle.proof_lives.specs.TwoLifeRun.{WhichLife, event_in, life_in}
use Rattle.proof_lives.specs.TwoLifeRun.WhichLife.{First, Later}
use Rattle.proof_lives.proofs.Carrying.{ends_at}
use Rattle.proof_lives.proofs.Fitting.{Fits}
use Rattle.proof_lives.proofs.TwoLives.{beat_in, begins_anew, cut_in_run}
use Rattle.proof_facts.specs.Beside.{Additions}
use Rattle.proof_facts.specs.Facts.{beyond_with}
use Rattle.proof_facts.specs.Lives.{lives_of, DiedAt}
use Rattle.proof_facts.specs.Rings.{IsRingWith}
use Rattle.proof_links.proofs.Carrying.{came_to, tick_in}
use Rattle.proof_links.proofs.Nodes.{before, began_late, cub_inside, rises}
use Rattle.proof_links.proofs.Running.{first_opens, return_is}

module _ {S : Type 0} {step : S → Input Msg → Deed Msg S} {p : Params} {orders : List Order} {disk_at : ℕ → DiskState}
    {added : Additions} {h : History Msg S} (plan : IsPlan p) (ring : IsRingWith step p orders disk_at added h) where
  -- ---- beats of a life and returns

  -- An input of a first life is of a lower beat than each return, and one of a later life of no lower one.
  pub before_return : {c i v : ℕ} → c < p.cubs → i < (lives_of h).count c → BeganLate p (later_lives_of h) c v
      → beat_at ((lives_of h).input c) i + 2 ≤ v
  before_return {c} {i} {v} small low back =
      let inside = cub_inside plan ring c small in
      let apart = (begins_anew ring.run c inside back.done).apart i (before plan ring First c i inside low).low in
      let is = return_is plan ring back in
      let same = beat_in h First c i in
      omega arith

  pub since_return : {c i v : ℕ} → c < p.cubs → i < (later_lives_of h).count c → BeganLate p (later_lives_of h) c v
      → v ≤ beat_at ((later_lives_of h).input c) i
  since_return {c} {i} {v} small low back =
      let inside = cub_inside plan ring c small in
      let b = before plan ring Later c i inside low in
      let r = rises plan ring c (first_events h c) (event_in h Later c i) inside (omega arith) b.done in
      let is = return_is plan ring back in
      let same = beat_in h Later c i in
      omega arith

  tick_beat : (w : WhichLife) {c b l : ℕ} (t : TickAt p (life_in h w) c b l) → beat_at ((life_in h w).input c) t.at ≡ b
  tick_beat w t = ap (λ (k : Input Msg). (stamp_of k).beat) t.is

  -- A tick that is of one life with an input is a tick of that life.
  ticks_of : (w v : WhichLife) (c i b : ℕ) → c < p.cubs → i < (life_in h w).count c → CameToTick p (life_in h v) c b
      → beat_at ((life_in h w).input c) i ≤ b
      → IsInOneLife (beyond_with p orders added h) c (beat_at ((life_in h w).input c) i) b → CameToTick p (life_in h w) c b
  ticks_of First First c i b small low t le one = t
  ticks_of Later Later c i b small low t le one = t
  ticks_of First Later c i b small low t le one =
      let k = t.tick in
      let kd = k.done in
      let back = began_late plan ring c small (omega arith) in
      let since = since_return small kd back in
      let is = tick_beat Later k in
      let by = one (beat h c (first_events h c)) back (omega arith) in
      let early = before_return small low back in
      absurd (omega arith)
  ticks_of Later First c i b small low t le one =
      let k = t.tick in
      let back = began_late plan ring c small (omega arith) in
      let since = since_return small low back in
      let is = tick_beat First k in
      let early = before_return small k.done back in
      absurd (omega arith)

  -- A life is cut off where its cub dies.
  dies_there : (w : WhichLife) {c b : ℕ} → DiedIn p (life_in h w) c b → DiedAt p h c b
  dies_there w {c} {b} d =
      let inside = cub_inside plan ring c d.small in
      let e : NodeEvent Msg = h.event c (event_in h w c d.at) in
      let ends = ends_at e d.sends (sym (cut_in_run ring.run c inside w d.at d.done) ∙ d.cut) in
      record {
        small = d.small;
        at = event_in h w c d.at;
        done = (before plan ring w c d.at inside d.done).done;
        death = ap (λ (x : NodeEvent Msg). is_death x) ends;
        in_beat = beat_in h w c d.at ∙ d.in_beat;
      }

  began_so : (w : WhichLife) {c v : ℕ} → BeganLate p (life_in h w) c v → BeganLate p (later_lives_of h) c v
  began_so First {c} {v} late =
      let z = first_opens plan ring c late.small late.done in
      let is = late.in_beat in
      let above = late.later in
      absurd (omega arith)
  began_so Later late = late

  apart_from : (w : WhichLife) (c i v : ℕ) → c < p.cubs → i < (life_in h w).count c → BeganLate p (later_lives_of h) c v
      → (beat_at ((life_in h w).input c) i < v) ⊎ BeganLate p (life_in h w) c v
  apart_from First c i v small low back = let early = before_return small low back in inl (omega arith)
  apart_from Later c i v small low back = inr back

  sends_so : (w : WhichLife) (a : ℕ) (link : LinkNo) (m : Msg) (b : ℕ) → DidAt p (life_in h w) a (out.Send link m) b
      → (beyond_with p orders added h).Sends a link m b
  sends_so First a link m b d = inl d
  sends_so Later a link m b d = inr (inl d)

  sent_so : (w : WhichLife) (a k : ℕ) (t : Tenancy) (m b : ℕ) → SentAt p (life_in h w) a k t m b
      → (beyond_with p orders added h).Sent a k t m b
  sent_so First a k t m b d = inl d
  sent_so Later a k t m b d = inr d

  told_so : (w : WhichLife) (a k v s q b : ℕ) → ToldAt p (life_in h w) a k v s q b → (beyond_with p orders added h).Told a k v s q b
  told_so First a k v s q b d = inl d
  told_so Later a k v s q b d = inr d

  -- What is known beyond a life fits it.
  pub fits : (w : WhichLife) → Fits p (life_in h w) (beyond_with p orders added h)
  fits w = record {
    came = λ c b l t. came_to plan ring w t;
    ticks = λ c i b small low t le one.
        let k = tick_in plan ring t in ticks_of w k.which c i b small low k.tick le one;
    died = λ c b d. dies_there w d;
    began = λ c v late. began_so w late;
    apart = apart_from w;
    sends = sends_so w;
    sent = sent_so w;
    told = told_so w;
  }
