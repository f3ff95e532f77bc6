-- The laws of returns: a cub returns once, at a tick, and its successor is told of that in time, and of nothing else.
use Rattle.std.proofs.Common.{◌≡◌, ℕ, suc, ◌+◌, ◌<◌, ◌≤◌, ◌==◌, List, Option, None, refl, sym, ap, subst, ◌∙◌, arith, ⊎_elim, inl, inr}
use Rattle.std.specs.Prelude.{◌⊎◌}
use Rattle.std.proofs.lemmas.Bool.{cases_lt}
use Rattle.tiger_base.specs.declared.number.LinkNo.{LinkNo}
use Rattle.tiger_base.specs.declared.number.Stamp.{Stamp}
use Rattle.tiger_base.specs.declared.message.Msg.{Msg}
use Rattle.tiger_base.specs.declared.message.Msg.TheVariants as msg
use Rattle.slot_plan.specs.declared.params.Params.{Params}
use Rattle.slot_plan.specs.Conditions.{IsPlan}
use Rattle.slot_plan.specs.Times.{cub_of}
use Rattle.node_kit.specs.declared.course.Order.{Order}
use Rattle.node_kit.specs.declared.outbox.Out.TheVariants as out
use Rattle.node_kit.specs.Links.{links_of, ends_of}
use Rattle.node_kit.specs.Steps.{Deed, Input, stamp_of}
use Rattle.node_kit.specs.Steps.Input.{Tick}
use Rattle.node_kit.specs.Ways.{way_ahead}
use Rattle.run_facts.specs.Histories.{History, beat}
use Rattle.disk_core.specs.State.{DiskState}
use Rattle.lists.proofs.Elements.{chosen}
use Rattle.proof_lives.specs.Histories.{later_lives_of}
use Rattle.proof_lives.specs.Lives.{BeganLate, Lives, beat_at, cut_in, reading_at, store_at}
use Rattle.proof_lives.specs.Facts.{TickedAt}
use Rattle.proof_lives.specs.FactsBy.{IsInOneLife}
use Rattle.proof_lives.specs.TwoLifeRun.{WhichLife, life_in}
use Rattle.proof_lives.specs.TwoLifeRun.WhichLife.{First, Later}
use Rattle.proof_lives.proofs.Carrying.{before_next, same_ends, way_ends}
use Rattle.proof_lives.proofs.Cuts.{was_put_out}
use Rattle.proof_lives.proofs.Order as order
use Rattle.proof_lives.proofs.Order.{tick_of}
use Rattle.proof_lives.proofs.States.{stamp_made}
use Rattle.proof_lives.proofs.TwoLives.{begins_anew}
use Rattle.proof_service.specs.ServiceFacts.{serves_from}
use Rattle.proof_service.specs.ServiceLaws.{TookBackBy, WasBack}
use Rattle.proof_facts.specs.Beside.{AddedAt, Additions}
use Rattle.proof_facts.specs.Blocks.{TookBackAt}
use Rattle.proof_facts.specs.Facts.{ToldBack, beyond_with, blocks_of, facts_of}
use Rattle.proof_facts.specs.Laws.{ReturnLaws}
use Rattle.proof_facts.specs.Lives.{lives_of, CameAt}
use Rattle.proof_facts.specs.Rings.{IsRingWith}
use Rattle.proof_links.proofs.Carrying.{from_cub, reaches_near, sends_as, sends_there, tick_in, took_from}
use Rattle.proof_links.proofs.Fitting.{before_return}
use Rattle.proof_links.proofs.Nodes.{added_is, cub_inside, lived}
use Rattle.proof_links.proofs.Running.{return_is}
use Rattle.proof_links.proofs.Sending.{cub_sends, is_added}

module _ {S : Type 0} {step : S → Input Msg → Deed Msg S} {p : Params} {orders : List Order} {disk_at : ℕ → DiskState}
    {added : Additions} {h : History Msg S} (plan : IsPlan p) (ring : IsRingWith step p orders disk_at added h) where
  -- ---- the tick of a return

  -- No death cuts off an event of a later life.
  later_whole : (c i : ℕ) → cut_in (later_lives_of h) c i ≡ None
  later_whole c i =
      chosen (λ (o : Option ℕ). o ≡ None) (suc i == (later_lives_of h).count c) None None (λ _. refl) (λ _. refl)

  -- A cub that comes back ends the beat of its return, at the reading of its first input there.
  pub back_ticks : {c v : ℕ} → BeganLate p (later_lives_of h) c v
      → TickedAt p (later_lives_of h) c v (reading_at ((later_lives_of h).input c) 0)
  back_ticks {c} {v} back =
      let new = begins_anew ring.run c (cub_inside plan ring c back.small) back.done in
      let s = tick_of ((later_lives_of h).input c 0) new.tick in
      let when : s.0.beat ≡ v = ap (λ (i : Input Msg). (stamp_of i).beat) (sym s.1) ∙ back.in_beat in
      let at : s.0.reading ≡ reading_at ((later_lives_of h).input c) 0 = ap (λ (i : Input Msg). (stamp_of i).reading) (sym s.1) in
      record {
        small = back.small;
        at = 0;
        done = back.done;
        is = s.1 ∙ ap (λ (x : Stamp). Tick x) (stamp_made s.0 v when)
            ∙ ap (λ l. Tick (record { beat = v; reading = l })) at;
        whole = later_whole c 0;
      }

  -- No other tick is of that beat.
  same_reading : {c v l : ℕ} → BeganLate p (later_lives_of h) c v → (facts_of p orders h).Ticked c v l
      → l ≡ reading_at ((later_lives_of h).input c) 0
  same_reading {c} {v} {l} back t = ⊎_elim (λ q. in_first q) (λ q. in_later q) t
    where
      in_first : TickedAt p (lives_of h) c v l → l ≡ reading_at ((later_lives_of h).input c) 0
      in_first q =
          let early = before_return plan ring q.small q.done back in
          let is : beat_at ((lives_of h).input c) q.at ≡ v = ap (λ (i : Input Msg). (stamp_of i).beat) q.is in
          absurd (omega arith)

      in_later : TickedAt p (later_lives_of h) c v l → l ≡ reading_at ((later_lives_of h).input c) 0
      in_later q =
          let inputs : ℕ → Input Msg = (later_lives_of h).input c in
          let is : beat_at inputs q.at ≡ v = ap (λ (i : Input Msg). (stamp_of i).beat) q.is in
          let new = begins_anew ring.run c (cub_inside plan ring c back.small) back.done in
          let first = back.in_beat in
          ⊎_elim
          (λ (more : 0 < q.at).
          let later = order.behind p ((later_lives_of h).count c) inputs (lived plan ring Later c back.small) 0 q.at more q.done
          new.tick in
          absurd (omega arith))
          (λ (none : q.at ≤ 0).
          let z : q.at ≡ 0 = omega arith in
          sym (ap (λ (i : Input Msg). (stamp_of i).reading) q.is) ∙ ap (λ i. reading_at inputs i) z)
          (cases_lt 0 q.at)

  -- ---- what the successor is told

  joined_back : (w : WhichLife) {c from b : ℕ} → TookBackAt p (life_in h w) c from b → (blocks_of p h disk_at).TookBack c from b
  joined_back First t = inl t
  joined_back Later t = inr t

  -- A cub that comes back tells its successor in time from when on it serves.
  back_arrives : {d x l : ℕ} (c b : ℕ) → BeganLate p (later_lives_of h) d x → (facts_of p orders h).Ticked d x l
      → c ≡ cub_of p (d + 1) → CameAt p h c b → IsInOneLife (beyond_with p orders added h) c x b → x + p.delay ≤ b
      → TookBackBy (blocks_of p h disk_at) c (serves_from p l) (x + p.delay)
  back_arrives {d} {x} {l} c b back ticked to came one late =
      let from : ℕ = serves_from p (reading_at ((later_lives_of h).input d) 0) in
      let told : ToldBack p (later_lives_of h) d (way_ahead p d 1) (msg.Back from) x =
      record { late = back; way = refl; is = refl } in
      let t = tick_in plan ring came in
      let r = reaches_near plan ring t.which c b (sends_as plan ring (inr (inr (inl told)))) back.small (inl refl) to t.tick one late in
      let same : from ≡ serves_from p l = ap (λ n. serves_from p n) (sym (same_reading back ticked)) in
      record {
        beat = r.beat;
        took = subst (λ n. (blocks_of p h disk_at).TookBack c n r.beat) same (joined_back t.which (record {
          took = r.took;
          link = ap (λ (k : LinkNo). k.0) r.way ∙ ap (λ n. (way_ahead p n 1).0) (sym (before_next p d c back.small to));
        }));
        by = r.soon;
      }

  -- What a cub is told of its predecessor's return is so.
  back_from_in : (w : WhichLife) {c d from y : ℕ} → TookBackAt p (life_in h w) c from y → d < p.cubs → c ≡ cub_of p (d + 1)
      → WasBack p (facts_of p orders h) d from y
  back_from_in w {c} {d} {from} {y} g small to =
      let f = took_from plan ring w g.took in
      let own = from_cub plan ring f (λ q. q) (λ q. q) in
      let link : g.took.link.0 ≡ (way_ahead p d 1).0 =
      g.link ∙ ap (λ n. (way_ahead p n 1).0) (before_next p d c small to) in
      let ends = sym (way_ends p d 1 plan small (omega arith) (omega arith)) ∙ ap (λ n. ends_of (links_of p) n)
      (sym link) ∙ f.ends in
      let who : d ≡ f.from = (same_ends d (cub_of p (d + 1)) f.from c ends).0 in
      ⊎_elim
      (λ q.
      let ls : Lives = life_in h q.which in
      absurd (cub_sends p f.from (ls.input f.from q.did.at) (store_at p f.from (ls.input f.from) q.did.at) g.took.link
      (msg.Back from) (was_put_out p ls f.from q.did.at (out.Send g.took.link (msg.Back from)) q.did.did)))
      (λ r. ⊎_elim
      (λ (b : ToldBack p (later_lives_of h) f.from g.took.link (msg.Back from) (beat h f.from f.at)).
      let told : ToldBack p (later_lives_of h) d g.took.link (msg.Back from) (beat h f.from f.at) =
      subst (λ n. ToldBack p (later_lives_of h) n g.took.link (msg.Back from) (beat h f.from f.at)) (sym who) b in
      record {
        beat = beat h f.from f.at;
        returned = told.late;
        reading = reading_at ((later_lives_of h).input d) 0;
        ticked = inr (back_ticks told.late);
        is_from = same_back from (serves_from p (reading_at ((later_lives_of h).input d) 0)) told.is;
        later = f.later;
      })
      (λ (a : AddedAt p (lives_of h) added f.from (out.Send g.took.link (msg.Back from)) (beat h f.from f.at)).
      absurd (is_added p f.from g.took.link (msg.Back from) (added_is plan ring a)))
      r)
      (sends_there plan ring f.from f.at g.took.link (msg.Back from) own f.note.done f.sent)
    where
      same_back : (a b : ℕ) → msg.Back a ≡ msg.Back b → a ≡ b
      same_back a b e = cc

  -- The laws of returns.
  pub return_laws : ReturnLaws p (facts_of p orders h) (blocks_of p h disk_at)
  return_laws = record {
    returns_once = λ a b. return_is plan ring b ∙ sym (return_is plan ring a);
    returns_ended = λ a. record { reading = _; ticked = inr (back_ticks a) };
    back_arrives = back_arrives;
    back_from = λ g small to.
        ⊎_elim (λ q. back_from_in First q small to) (λ q. back_from_in Later q small to) g;
  }
