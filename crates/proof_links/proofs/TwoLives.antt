-- What a history tells of its cubs is told of two lives of each.
use Rattle.std.proofs.Common.{◌≡◌, ℕ, zero, suc, ◌<◌, List, false, refl, ap, subst, arith, ⊎_elim, inl, inr}
use Rattle.std.specs.Prelude.{◌⊎◌}
use Rattle.tiger_base.specs.declared.message.Msg.{Msg}
use Rattle.slot_plan.specs.declared.params.Params.{Params}
use Rattle.slot_plan.specs.Conditions.{IsPlan}
use Rattle.node_kit.specs.declared.course.Order.{Order}
use Rattle.node_kit.specs.declared.outbox.Out.{Out}
use Rattle.node_kit.specs.Steps.{Deed, Input, stamp_of}
use Rattle.run_facts.specs.Events.{is_tick_input}
use Rattle.run_facts.specs.Histories.{History, beat}
use Rattle.disk_core.specs.State.{DiskState}
use Rattle.proof_lives.specs.Histories.{first_events, later_lives_of}
use Rattle.proof_lives.specs.Lives.{Lives, beat_at}
use Rattle.proof_lives.specs.Facts.{DidAt, TickAt, TookMessage}
use Rattle.proof_lives.specs.FactsBy.{Beyond, CameToTick, facts_by}
use Rattle.proof_lives.specs.TwoLifeRun.{WhichLife, life_in}
use Rattle.proof_lives.specs.TwoLifeRun.WhichLife.{First, Later}
use Rattle.proof_lives.proofs.Order.{behind}
use Rattle.proof_lives.proofs.TwoLives.{begins_anew}
use Rattle.proof_schedule.specs.Facts.{IsFirstLife}
use Rattle.proof_facts.specs.Beside.{Additions}
use Rattle.proof_facts.specs.Blocks.{blocks_by}
use Rattle.proof_facts.specs.Facts.{beyond_of, first_facts, later_facts}
use Rattle.proof_facts.specs.Lives.{lives_of, CameAt}
use Rattle.proof_facts.specs.Pieces.{pieces_by}
use Rattle.proof_facts.specs.Rings.{IsRingWith}
use Rattle.proof_facts.specs.TwoLives.{AreBlocksOfLives, AreBlocksOfTwoLives, AreOfLives, ArePiecesOfLives, ArePiecesOfTwoLives, AreTwoLives, CameBackBefore, CameBackBy}
use Rattle.proof_links.proofs.Carrying.{tick_in}
use Rattle.proof_links.proofs.Fitting.{before_return, since_return}
use Rattle.proof_links.proofs.Nodes.{began_late, cub_inside, lived}

-- What the inputs of lives have in their beats the facts of these lives have in theirs.
module _ (p : Params) (lives : Lives) (In : ℕ → ℕ → Type 0)
    (each : (c i : ℕ) → c < p.cubs → i < lives.count c → In c (beat_at (lives.input c) i)) where
  did_in : {c b : ℕ} {o : Out Msg} → DidAt p lives c o b → In c b
  did_in {c} {b} {o} d = subst (λ k. In c k) d.in_beat (each c d.at d.small d.done)

  ticked_in : {c b l : ℕ} → TickAt p lives c b l → In c b
  ticked_in {c} {b} {l} t =
      subst (λ k. In c k) (ap (λ (i : Input Msg). (stamp_of i).beat) t.is) (each c t.at t.small t.done)

  took_in : {c b : ℕ} {m : Msg} → TookMessage p lives c m b → In c b
  took_in {c} {b} {m} t =
      subst (λ k. In c k) (ap (λ (i : Input Msg). (stamp_of i).beat) t.is) (each c t.at t.small t.done)

  facts_in_lives : (beyond : Beyond) → AreOfLives (facts_by p lives beyond) In
  facts_in_lives beyond = record {
    ticked = λ c b l t.
        subst (λ k. In c k) (ap (λ (i : Input Msg). (stamp_of i).beat) t.is) (each c t.at t.small t.done);
    put = λ c t b d. did_in d;
    inserted = λ c t n b d. did_in d.done;
    took = λ c t n b d. did_in d.done;
    asked = λ c ask b t. took_in t;
    apart = λ c ask b t. took_in t;
    reached = λ c v b t. took_in t.took;
    bare = λ c v b t. took_in t.took;
    passed = λ c v s q b t.
        subst (λ k. In c k) (ap (λ (i : Input Msg). (stamp_of i).beat) t.is) (each c t.at t.small t.done);
    heard = λ c b t. took_in t.took;
    believed = λ c b d. did_in d.did;
  }

  pieces_in_lives : ArePiecesOfLives (pieces_by p lives) In
  pieces_in_lives = record {
    split = λ c t n b w. ticked_in w.tick;
    mirrored = λ c t n j b w.
        subst (λ k. In c k) (ap (λ (i : Input Msg). (stamp_of i).beat) w.is) (each c w.at w.small w.done);
  }

-- And those of the messages that are taken.
blocks_in_lives : (p : Params) (lives : Lives) (disk_at : ℕ → DiskState) (In : ℕ → ℕ → Type 0)
    → ((c i : ℕ) → c < p.cubs → i < lives.count c → is_tick_input (lives.input c i) ≡ false
    → In c (beat_at (lives.input c) i))
    → AreBlocksOfLives (blocks_by p lives disk_at) In
blocks_in_lives p lives disk_at In each = record {
  stored = λ c t n j b w.
      let a = w.answered in
      subst (λ k. In c k) (ap (λ (i : Input Msg). (stamp_of i).beat) a.is)
      (each c a.at a.small a.done (ap is_tick_input a.is));
  told = λ c from b w.
      let a = w.took in
      subst (λ k. In c k) (ap (λ (i : Input Msg). (stamp_of i).beat) a.is)
      (each c a.at a.small a.done (ap is_tick_input a.is));
}

module _ {S : Type 0} {step : S → Input Msg → Deed Msg S} {p : Params} {orders : List Order} {disk_at : ℕ → DiskState}
    {added : Additions} {h : History Msg S} (plan : IsPlan p) (ring : IsRingWith step p orders disk_at added h) where
  first_in : (c i : ℕ) → c < p.cubs → i < (lives_of h).count c
      → IsFirstLife (first_facts p orders h) c (beat_at ((lives_of h).input c) i)
  first_in c i small low w back = let early = before_return plan ring small low back in omega arith

  later_in : (c i : ℕ) → c < p.cubs → i < (later_lives_of h).count c
      → CameBackBy (first_facts p orders h) c (beat_at ((later_lives_of h).input c) i)
  later_in c i small low =
      let back = began_late plan ring c small (omega arith) in
      let since = since_return plan ring small low back in
      record { beat = beat h c (first_events h c); returned = back; by = since }

  -- The first input of a later life is a tick, and what comes behind it is of a later beat.
  taken_in : (c i : ℕ) → c < p.cubs → i < (later_lives_of h).count c
      → is_tick_input ((later_lives_of h).input c i) ≡ false
      → CameBackBefore (first_facts p orders h) c (beat_at ((later_lives_of h).input c) i)
  taken_in c i small low message =
      let inside = cub_inside plan ring c small in
      let begins = begins_anew ring.run c inside (omega arith) in
      let back = began_late plan ring c small (omega arith) in
      let from = begins.in_beat in
      ⊎_elim
      (λ (first : i ≡ 0).
      let tick = subst (λ k. is_tick_input ((later_lives_of h).input c k) ≡ false) first message in
      let both = begins.tick in
      absurd (cc))
      (λ (more : 0 < i).
      let above = behind p ((later_lives_of h).count c) ((later_lives_of h).input c)
      (lived plan ring Later c small) 0 i more low begins.tick in
      record { beat = beat h c (first_events h c); returned = back; before = omega arith })
      (zero_or_more i)
    where
      zero_or_more : (n : ℕ) → (n ≡ 0) ⊎ (0 < n)
      zero_or_more zero = inl refl
      zero_or_more (suc n) = inr (omega arith)

  came_in : (c b : ℕ) → CameAt p h c b
      → CameToTick p (lives_of h) c b ⊎ CameToTick p (later_lives_of h) c b
  came_in c b came = let k = tick_in plan ring came in by_life k.which k.tick
    where
      by_life : (w : WhichLife) → CameToTick p (life_in h w) c b
          → CameToTick p (lives_of h) c b ⊎ CameToTick p (later_lives_of h) c b
      by_life First t = inl t
      by_life Later t = inr t

  pub two_lives : AreTwoLives (first_facts p orders h) (later_facts p orders h)
      (CameToTick p (lives_of h)) (CameToTick p (later_lives_of h))
  two_lives = record {
    firsts = facts_in_lives p (lives_of h) (IsFirstLife (first_facts p orders h)) first_in (beyond_of p orders h);
    laters = facts_in_lives p (later_lives_of h) (CameBackBy (first_facts p orders h)) later_in (beyond_of p orders h);
    in_first = λ c b t. ticked_in p (lives_of h) (IsFirstLife (first_facts p orders h)) first_in t.tick;
    in_later = λ c b t.
        ticked_in p (later_lives_of h) (CameBackBy (first_facts p orders h)) later_in t.tick;
    came = came_in;
  }

  pub pieces_of_two_lives : ArePiecesOfTwoLives (first_facts p orders h) (pieces_by p (lives_of h))
      (pieces_by p (later_lives_of h))
  pieces_of_two_lives = record {
    firsts = pieces_in_lives p (lives_of h) (IsFirstLife (first_facts p orders h)) first_in;
    laters = pieces_in_lives p (later_lives_of h) (CameBackBy (first_facts p orders h)) later_in;
  }

  pub blocks_of_two_lives : (at : ℕ → DiskState)
      → AreBlocksOfTwoLives (first_facts p orders h) (blocks_by p (lives_of h) at)
      (blocks_by p (later_lives_of h) at)
  blocks_of_two_lives at = record {
    firsts = blocks_in_lives p (lives_of h) at (IsFirstLife (first_facts p orders h))
        (λ c i small low message. first_in c i small low);
    laters = blocks_in_lives p (later_lives_of h) at (CameBackBefore (first_facts p orders h)) taken_in;
  }
