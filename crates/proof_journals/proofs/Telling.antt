-- Each entry of a ring's journals tells a fact.
use Rattle.std.proofs.Common.{◌≡◌, ℕ, zero, suc, ◌+◌, ◌<◌, ◌≤◌, None, Bool, List, ◌++◌, true, false, refl, sym, ap, subst, ◌∙◌, arith, ⊎_elim, inl, inr}
use Rattle.std.proofs.lemmas.Bool.{cases_Bool}
use Rattle.tiger_base.specs.declared.number.CubNo.{CubNo}
use Rattle.tiger_base.specs.declared.number.Instance.{Instance}
use Rattle.tiger_base.specs.declared.number.LinkNo.{LinkNo}
use Rattle.tiger_base.specs.declared.number.Stamp.{Stamp}
use Rattle.tiger_base.specs.declared.tenancy.Ask.{Ask}
use Rattle.tiger_base.specs.declared.tenancy.Rec.{Rec}
use Rattle.tiger_base.specs.declared.tenancy.Tenancy.{Tenancy}
use Rattle.tiger_base.specs.declared.message.Msg.{Msg}
use Rattle.tiger_base.specs.declared.message.Msg.TheVariants as msg
use Rattle.tiger_base.specs.declared.message.Note.TheVariants as note
use Rattle.tiger_base.specs.Notes.{noted}
use Rattle.slot_plan.specs.declared.params.Params.{Params}
use Rattle.slot_plan.specs.Times.{time_of, cub_of}
use Rattle.node_kit.specs.declared.course.Order.{Order}
use Rattle.node_kit.specs.declared.course.OrderKind.TheVariants.{Begin}
use Rattle.node_kit.specs.declared.journal.Entry.{Entry}
use Rattle.node_kit.specs.declared.journal.What.TheVariants as what
use Rattle.node_kit.specs.declared.outbox.Out.TheVariants as out
use Rattle.node_kit.specs.Steps.{Deed, Input, stamp_of}
use Rattle.node_kit.specs.Steps.Input.{Take, Tick}
use Rattle.node_kit.specs.Ways.{predecessor}
use Rattle.cub_changes.proofs.Numbers.{predecessor_below, next_own}
use Rattle.run_facts.specs.Events.{is_death, is_tick_input, stamp_at}
use Rattle.run_facts.specs.Histories.{History, beat, past, reading}
use Rattle.run_facts.specs.Timed.{is_died}
use Rattle.run_model.specs.Orders as ordering
use Rattle.disk_core.specs.State.{DiskState}
use Rattle.proof_lives.specs.Lives.{Lives, BeganLate, beat_at, cut_in, outs_in, reading_at}
use Rattle.proof_lives.specs.Histories.{input_of}
use Rattle.proof_lives.specs.TwoLifeRun.{WhichLife, event_in, life_in}
use Rattle.proof_lives.specs.TwoLifeRun.WhichLife.{First, Later}
use Rattle.proof_lives.proofs.Order.{tick_of}
use Rattle.proof_lives.proofs.Returns.{later_whole as later_cut}
use Rattle.proof_lives.proofs.TwoLives.{beat_in, begins_anew, input_in, stamp_in}
use Rattle.proof_lives.proofs.Cuts.{was_put_out}
use Rattle.lists.specs.Elements.{In}
use Rattle.lists.proofs.Elements.{in_cases}
use Rattle.lists.proofs.Each.{all_in}
use Rattle.std.specs.Prelude.{◌⊎◌}
use Rattle.proof_lives.specs.Facts.{DidAt, InsertedAt, TickedAt, TookAt, TookMessage}
use Rattle.proof_lives.specs.FactsBy.{WroteBelief}
use Rattle.proof_lives.proofs.Told.{any_in}
use Rattle.proof_journals.proofs.Written.{event_took}
use Rattle.proof_journals.proofs.Notes.{event_lives}
use Rattle.proof_journals.proofs.Journals.{inputs_of, beat_is}
use Rattle.proof_journals.proofs.BothLives.{act_not_added, before_it, beside_it, each_life, in_life}
use Rattle.proof_journals.proofs.Ending.{came_back}
use Rattle.proof_journals.proofs.Lists.{moved}
use Rattle.proof_controller.specs.Controllers.{GoneAt, IsOrdered}
use Rattle.proof_schedule.specs.Facts.{Entered}
use Rattle.proof_moments.specs.Ties.{StandsIn, IsPutAt, IsBeliefAt, Tells}
use Rattle.proof_facts.specs.Beside.{Additions, IsAddition}
use Rattle.proof_facts.specs.Facts.{facts_of}
use Rattle.proof_facts.specs.Lives.{lives_of, later_lives_of, later_from, acting, DiedAt}
use Rattle.proof_journals.specs.Journals.{AreStartsOrdered, JournalsTell}
use Rattle.proof_journals.proofs.Outputs.{put_seat, believes_predecessor, tells_no_return, tells_no_stop}
use Rattle.proof_journals.proofs.Events.{AreKept, acts_alone, acts_if_out, adds_few, cub_entry, cub_inside, cut_of_input, did_at, did_in_life, fair, input_of_life, life_of, outs_of_input, own_entry, who_acts, written_in}
use Rattle.std.proofs.Math.Nat.{mod-eq_of_lt}
use Rattle.slot_plan.specs.Conditions.{IsPlan}

-- behind its predecessor stands the cub
pub behind_it : (p : Params) (c : ℕ) → IsPlan p → c < p.cubs → cub_of p (predecessor p c + 1) ≡ c
unfolding cub_of
behind_it p c plan small = next_own p c (predecessor p c) plan small (mod-eq_of_lt (predecessor_below p c plan))

-- A start that was ordered is one of the orders.
pub ordered_among : (all : List Order) (ask : Ask) → IsOrdered all ask → ordering.IsOrdered all ask
ordered_among all ask o = any_in (λ (x : Order). x.what ≡ Begin ask)
    (record { beat = o.0; what = Begin ask }) all o.1 refl

-- A message that is noted as a start is one.
start_back : (m : Msg) (ask : Ask) (redundant : Bool) → noted m ≡ note.Start redundant ask → m ≡ msg.Start redundant ask
start_back (msg.Start r a) ask redundant e =
    let z : a ≡ ask = cc in
    let w : r ≡ redundant = cc in
    ap (λ (x : Ask). msg.Start r x) z ∙ ap (λ (x : Bool). msg.Start x ask) w
start_back other ask redundant e = absurd (cc)

module _ {S : Type 0} {step : S → Input Msg → Deed Msg S} {p : Params} {orders : List Order}
    {disk_at : ℕ → DiskState} {added : Additions} {h : History Msg S} {journals : List (List Entry)}
    (kept : AreKept step p orders disk_at added h journals) where
  put_told : (n : ℕ) (e : Entry) (t : Tenancy) → StandsIn journals n e → e.what ≡ what.Put t
      → IsPutAt p (facts_of p orders h) n e.stamp t
  put_told n e t s is =
      let d = cub_entry kept n e (what.Put t) s tt tt (λ v q. absurd (cc)) is in
      let lives : Lives = life_in h d.which in
      let inputs : ℕ → Input Msg = lives.input n in
      let seat = put_seat p n kept.plan inputs d.input t (was_put_out p lives n d.input (out.Act (what.Put t)) d.did) in
      let reads = (life_of kept d.which n (cub_inside kept n d.small)).reads d.input d.done in
      let same : e.stamp.reading ≡ reading_at inputs d.input = ap (λ (x : Stamp). x.reading) d.when in
      let beat : time_of p e.stamp.beat ≡ time_of p (beat_at inputs d.input) =
      ap (λ (x : Stamp). time_of p x.beat) d.when in
      let r0 = reads.0 in
      let r1 = reads.1 in
      let above = seat.above in
      let below = seat.below in
      record {
        small = d.small;
        put = in_life h (λ l. DidAt p l n (out.Act (what.Put t)) e.stamp.beat) d.which (did_at kept d);
        low = omega arith;
        high = omega arith;
        slot = seat.slot;
        above = omega arith;
        below = omega arith;
      }

  -- A record that a cub took entered its view.
  took_enters : (w : WhichLife) (c : ℕ) (q : Rec) (b : ℕ) → DidAt p (life_in h w) c (out.Act (what.Took q)) b
      → Entered (facts_of p orders h) c q.tenancy q.visit b
  took_enters w c q b d = ⊎_elim
      (λ (t : is_tick_input ((life_in h w).input c d.at) ≡ true).
      inr (in_life h (λ l. InsertedAt p l c q.tenancy q.visit b) w (record { kind = q.kind; done = d; tick = t })))
      (λ (f : is_tick_input ((life_in h w).input c d.at) ≡ false).
      inl (in_life h (λ l. TookAt p l c q.tenancy q.visit b) w (record { kind = q.kind; done = d; message = f })))
      (cases_Bool (is_tick_input ((life_in h w).input c d.at)))

  took_told : (n : ℕ) (e : Entry) (q : Rec) → StandsIn journals n e → e.what ≡ what.Took q
      → Entered (facts_of p orders h) n q.tenancy q.visit e.stamp.beat
  took_told n e q s is =
      let d = cub_entry kept n e (what.Took q) s tt tt (λ v k. absurd (cc)) is in
      took_enters d.which n q e.stamp.beat (did_at kept d)

  gone_told : (n : ℕ) (e : Entry) (v : Instance) → StandsIn journals n e → e.what ≡ what.Gone v
      → GoneAt p orders (lives_of h) v.0 e.stamp.beat
  gone_told n e v s is =
      let d = own_entry kept n e (what.Gone v) s tt is in
      ⊎_elim
      (λ small.
      let k = did_in_life kept n d.at (out.Act (what.Gone v)) small d.done tt d.did in
      absurd (tells_no_stop p n ((life_in h k.which).input n) k.input v
      (was_put_out p (life_in h k.which) n k.input (out.Act (what.Gone v)) k.did)))
      (λ k.
      let other : p.cubs ≤ n = subst (λ m. p.cubs ≤ m) (sym k.0) (omega arith) in
      let acts = acts_alone kept n d.at d.known other d.done in
      record {
        at = d.at;
        done = subst (λ m. d.at < acting h m) k.0 acts;
        in_beat = ap (λ m. beat_at (inputs_of h m) d.at) (sym k.0)
            ∙ sym (beat_in h First n d.at) ∙ ap (λ (x : Stamp). x.beat) (sym d.when);
        instance = v;
        same = refl;
        gone = k.1;
      })
      (who_acts kept n d.at (what.Gone v) d.known d.done d.did)

  believed_told : (n : ℕ) (e : Entry) (d : CubNo) → StandsIn journals n e → e.what ≡ what.Believed d
      → IsBeliefAt p (facts_of p orders h) n d.0 e.stamp.beat
  believed_told n e d s is =
      let o = cub_entry kept n e (what.Believed d) s tt tt (λ v k. absurd (cc)) is in
      let who : d.0 ≡ predecessor p n = believes_predecessor p n ((life_in h o.which).input n) o.input d
      (was_put_out p (life_in h o.which) n o.input (out.Act (what.Believed d)) o.did) in
      record {
        believed = in_life h (λ l. WroteBelief p l n e.stamp.beat) o.which (record { cub = d; did = did_at kept o });
        known = subst (λ m. m < p.cubs) (sym who) (predecessor_below p n kept.plan);
        behind = sym (behind_it p n kept.plan o.small) ∙ ap (λ m. cub_of p (m + 1)) (sym who);
      }

  died_told : (n : ℕ) (e : Entry) → n < p.cubs → StandsIn journals n e → e.what ≡ what.Died → DiedAt p h n e.stamp.beat
  died_told n e small s is =
      let x = written_in kept n e s in
      let i : ℕ = x.1.at in
      ⊎_elim
      (λ (t : is_death (h.event n i) ≡ true).
      let when = sym (beat_is step h n i e x.1.there) in
      record { small = small; at = i; done = x.1.before; death = t; in_beat = when })
      (λ (f : is_death (h.event n i) ≡ false).
      absurd (event_lives step p n (h.event n i) (past noted step h n i) e f
      (fair kept n i x.0 x.1.before) x.1.there (ap is_died is)))
      (cases_Bool (is_death (h.event n i)))

  -- ---- returns

  -- What tells of a return goes out at the first input of a later life, which is the tick by which the cub comes back.
  came_with : (w : WhichLife) (n i at : ℕ) → n < p.cubs → i < (life_in h w).count n → at ≡ event_in h w n i
      → In (out.Act what.Returned) (before_it h p w n i)
      → BeganLate p (later_lives_of h) n (beat h n at)
      × TickedAt p (later_lives_of h) n (beat h n at) (reading h n at)
  came_with First n i at small low is k = absurd k
  came_with Later n (suc i) at small low is k = absurd k
  came_with Later n zero at small low is k =
      let known = cub_inside kept n small in
      let inputs : ℕ → Input Msg = (later_lives_of h).input n in
      let back = came_back kept.ring n small low in
      let tick = tick_of (inputs 0) (begins_anew kept.ring.run n known low).tick in
      let stamp : stamp_at (h.event n at) ≡ tick.0 = ap (λ (j : ℕ). stamp_at (h.event n j)) is
      ∙ stamp_in h Later n 0 ∙ ap (λ (x : Input Msg). stamp_of x) tick.1 in
      let when : beat_at inputs 0 ≡ beat h n at =
      sym (beat_in h Later n 0) ∙ ap (λ (j : ℕ). beat h n j) (sym is) in (
        subst (λ b. BeganLate p (later_lives_of h) n b) when back,
        record {
          small = small;
          at = 0;
          done = low;
          is = tick.1 ∙ ap (λ (s : Stamp). Tick s) (sym stamp);
          whole = later_whole n 0 small low;
        },
      )
    where
      later_whole : (n i : ℕ) → n < p.cubs → i < (later_lives_of h).count n → cut_in (later_lives_of h) n i ≡ None
      later_whole n i small low =
          cut_of_input kept Later n i (cub_inside kept n small) low
          ∙ later_cut kept.ring.run n (cub_inside kept n small) (later_from h n + i) (omega arith) (omega arith)

  returned_told : (n : ℕ) (e : Entry) → n < p.cubs → StandsIn journals n e → e.what ≡ what.Returned
      → (facts_of p orders h).Returned n e.stamp.beat × (facts_of p orders h).Ticked n e.stamp.beat e.stamp.reading
  returned_told n e small s is =
      let d = own_entry kept n e what.Returned s tt is in
      let l = input_of_life kept n d.at d.known d.done (acts_if_out kept n d.at (out.Act what.Returned) d.did) in
      let lives : Lives = life_in h l.which in
      let r = ⊎_elim
      (λ k. came_with l.which n l.at d.at small l.done l.is k)
      (λ q. ⊎_elim
      (λ k. absurd (tells_no_return p n (lives.input n) l.at
      (was_put_out p lives n l.at (out.Act what.Returned) k)))
      (λ k. absurd (act_not_added p n what.Returned (all_in (IsAddition p n) (out.Act what.Returned)
      (beside_it added l.which n l.at) (adds_few kept l.which n l.at small l.done) k)))
      (in_cases (out.Act what.Returned) (outs_in p lives n l.at) (beside_it added l.which n l.at) q))
      (in_cases (out.Act what.Returned) (before_it h p l.which n l.at) (outs_in p lives n l.at ++ beside_it added l.which n l.at)
      (moved (out.Act what.Returned) (outs_of_input kept n d.at l small) d.did)) in
      subst (λ (x : Stamp). (facts_of p orders h).Returned n x.beat × (facts_of p orders h).Ticked n x.beat x.reading)
      (sym d.when) (r.0, inr r.1)

  -- ---- starts

  module _ (starts : (w : WhichLife) → AreStartsOrdered p orders (life_in h w)) where
    start_told : (n : ℕ) (e : Entry) (link : LinkNo) (ask : Ask) (redundant : Bool) → n < p.cubs
        → StandsIn journals n e → e.what ≡ what.Got link (note.Start redundant ask)
        → (TookMessage p (lives_of h) n (msg.Start redundant ask) e.stamp.beat
        ⊎ TookMessage p (later_lives_of h) n (msg.Start redundant ask) e.stamp.beat)
        × ordering.IsOrdered orders ask
    start_told n e link ask redundant small s is =
        let x = written_in kept n e s in
        let i : ℕ = x.1.at in
        let k = event_took step p n (h.event n i) (past noted step h n i) e link (note.Start redundant ask)
        (fair kept n i x.0 x.1.before) x.1.there is in
        let l = input_of_life kept n i x.0 x.1.before k.input in
        let input : (life_in h l.which).input n l.at ≡ Take e.stamp link (msg.Start redundant ask) =
        input_in h l.which n l.at ∙ ap (λ (j : ℕ). input_of (h.event n j)) (sym l.is)
        ∙ k.is ∙ ap (λ (m : Msg). Take e.stamp link m) (start_back k.message ask redundant k.same) in (
          in_life h (λ lives. TookMessage p lives n (msg.Start redundant ask) e.stamp.beat) l.which
              (record { small = small; at = l.at; done = l.done; reading = e.stamp.reading; link = link; is = input }),
          ordered_among orders ask (starts l.which n l.at e.stamp link ask redundant small l.done input),
        )

    pub tells : Tells p (facts_of p orders h) orders journals
    tells = record {
      put = put_told;
      took = took_told;
      gone = gone_told;
      believed = believed_told;
      died = died_told;
      returned = returned_told;
      asked = λ n e link a small s is. start_told n e link a false small s is;
      apart = λ n e link a small s is. start_told n e link a true small s is;
    }

pub journals_tell : (S : Type 0) → JournalsTell S
journals_tell S step p orders disk_at added h journals plan ring are first later =
    tells (record { plan = plan; ring = ring; are = are }) (each_life h (AreStartsOrdered p orders) first later)
