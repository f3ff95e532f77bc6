-- A node that is a cub in some other type's clothes puts out what a cub's rules put out.
use Rattle.std.proofs.Common.{◌≡◌, ℕ, true, refl, zero, suc, ◌+◌, ◌<◌, ◌≤◌, ◌==◌, ◌++◌, Bool, false, cond, Option, Some, None, sym, ap, ◌∙◌, arith, ⊎_elim}
use Rattle.std.proofs.lemmas.Bool.{cases_Bool, cases_lt, le-ltb, lt-ltb, ne_eqb}
use Rattle.tiger_base.specs.declared.number.Stamp.{Stamp}
use Rattle.tiger_base.specs.declared.message.Msg.{Msg}
use Rattle.tiger_base.specs.Notes.{noted}
use Rattle.slot_plan.specs.declared.params.Params.{Params}
use Rattle.node_kit.specs.Steps.{Deed, Input, stamp_of}
use Rattle.node_kit.specs.Steps.Input.{Take, Tick}
use Rattle.cub_rules.specs.declared.store.Store.{Store}
use Rattle.cub_rules.specs.State.{CubState, returning_store}
use Rattle.cub_rules.specs.Cubs.{coming_back, cub_step, was_away}
use Rattle.run_facts.specs.Events.{NodeEvent, Past, after, after_input, after_cut, kept_outs, left_outs, outs_of, is_return, is_tick_input}
use Rattle.run_facts.specs.Events.NodeEvent.{Does, Ends, Dies, Returns}
use Rattle.run_facts.specs.Histories.{History, IsRun, beat, open_beat}
use Rattle.proof_lives.specs.Lives.{IsLife, beginning, deed_of, cut_outs, outs_at, store_at, ticks_at, beat_at}
use Rattle.proof_lives.specs.Histories.{acting, first_events, input_of, has_input, cut_of_event, lives_of}
use Rattle.proof_lives.proofs.Acting.{acts_at, ticks_acting}
use Rattle.proof_lives.proofs.Order.{after_tick, tick_of}
use Rattle.proof_lives.proofs.Returns.{died, first_ended, first_here, open_first, opens_after, opens_rise}
use Rattle.proof_lives.proofs.TwoLives.{first_beat}
use Rattle.cub_changes.proofs.Chains.{ending_on, ending_back}

-- cub c of a plan with what it keeps, and the beat of its last tick
abbrev pub cub_with : Params → ℕ → Store → Option ℕ → CubState
cub_with p c h last = record { params = p; cub = c; store = h; last = last }

-- the beat of the last tick once an input has come, and before input i of a life
abbrev pub last_behind : Input Msg → Option ℕ → Option ℕ
last_behind (Take stamp link m) last = last
last_behind (Tick stamp) last = Some stamp.beat

abbrev pub last_at : (ℕ → Input Msg) → ℕ → Option ℕ
last_at inputs zero = None
last_at inputs (suc i) = last_behind (inputs i) (last_at inputs i)

-- the cub does not come back by an input
abbrev pub GoesOn : Option ℕ → Input Msg → Type 0
GoesOn last (Take stamp link m) = Unit {0}
GoesOn last (Tick stamp) = was_away last stamp.beat ≡ false

pub cub_state : (p : Params) (c : ℕ) (h : Store) (last : Option ℕ) (k : Input Msg) → GoesOn last k
    → (cub_step (cub_with p c h last) k).state ≡ cub_with p c (deed_of p c k h).state (last_behind k last)
cub_state p c h last (Take stamp link m) on = refl
cub_state p c h last (Tick stamp) on = ap (λ (d : Deed Msg Store). cub_with p c d.state (Some stamp.beat)) (ending_on p c stamp last h on)

pub cub_outs : (p : Params) (c : ℕ) (h : Store) (last : Option ℕ) (k : Input Msg) → GoesOn last k
    → (cub_step (cub_with p c h last) k).outs ≡ (deed_of p c k h).outs
cub_outs p c h last (Take stamp link m) on = refl
cub_outs p c h last (Tick stamp) on = ap (λ (d : Deed Msg Store). d.outs) (ending_on p c stamp last h on)

-- ---- a tick ends each beat of a life, so none of its ticks is a return

abbrev tick_before : ℕ → Option ℕ
tick_before zero = None
tick_before (suc n) = Some n

last_behind_tick : (k : Input Msg) (n : ℕ) → (stamp_of k).beat ≡ n
    → last_behind k (tick_before n) ≡ tick_before (cond (is_tick_input k) (suc n) n)
last_behind_tick (Take stamp link m) n e = refl
last_behind_tick (Tick stamp) n e = ap Some e

pub last_is : (count : ℕ) (inputs : ℕ → Input Msg) → ((i : ℕ) → i < count → beat_at inputs i ≡ ticks_at inputs i)
    → (i : ℕ) → i ≤ count → last_at inputs i ≡ tick_before (ticks_at inputs i)
last_is count inputs in_beat zero low = refl
last_is count inputs in_beat (suc i) low =
    ap (λ (o : Option ℕ). last_behind (inputs i) o) (last_is count inputs in_beat i (omega arith))
    ∙ last_behind_tick (inputs i) (ticks_at inputs i) (in_beat i (omega arith))

no_return : (n : ℕ) → was_away (tick_before n) n ≡ false
no_return zero = refl
no_return (suc n) = le-ltb _ _ (omega arith)

goes_on : (last : Option ℕ) (k : Input Msg) (n : ℕ) → last ≡ tick_before n → (stamp_of k).beat ≡ n → GoesOn last k
goes_on last (Take stamp link m) n is e = tt
goes_on last (Tick stamp) n is e = rw (is, e) (no_return n)

pub life_goes_on : (count : ℕ) (inputs : ℕ → Input Msg) → ((i : ℕ) → i < count → beat_at inputs i ≡ ticks_at inputs i)
    → (i : ℕ) → i < count → GoesOn (last_at inputs i) (inputs i)
life_goes_on count inputs in_beat i low =
    goes_on (last_at inputs i) (inputs i) (ticks_at inputs i) (last_is count inputs in_beat i (omega (arith, low))) (in_beat i low)

-- ---- a life that begins with a return

-- the cub comes back by a tick
pub back_state : (p : Params) (c : ℕ) (h : Store) (last : Option ℕ) (stamp : Stamp) → was_away last stamp.beat ≡ true
    → (cub_step (cub_with p c h last) (Tick stamp)).state
    ≡ cub_with p c (deed_of p c (Tick stamp) (returning_store p stamp.reading)).state (Some stamp.beat)
back_state p c h last stamp away = ap (λ (d : Deed Msg Store). cub_with p c d.state (Some stamp.beat)) (ending_back p c stamp last h away)

pub back_outs : (p : Params) (c : ℕ) (h : Store) (last : Option ℕ) (stamp : Stamp) → was_away last stamp.beat ≡ true
    → (cub_step (cub_with p c h last) (Tick stamp)).outs
    ≡ (coming_back p c stamp h).outs ++ (deed_of p c (Tick stamp) (returning_store p stamp.reading)).outs
back_outs p c h last stamp away = ap (λ (d : Deed Msg Store). d.outs) (ending_back p c stamp last h away)

-- what it keeps then is what its life begins with
begins_back : (p : Params) (stamp : Stamp) → 0 < stamp.beat → beginning p stamp ≡ returning_store p stamp.reading
begins_back p stamp late =
    let e : (stamp.beat == 0) ≡ false = ne_eqb stamp.beat 0 (λ q. omega arith) in
    rw e refl

-- a cub that ended each beat below one has been away since, if a later one comes
away_since : (n b : ℕ) → n < b → was_away (tick_before n) b ≡ true
away_since zero b less = lt-ltb 0 b less
away_since (suc n) b less = lt-ltb (n + 1) b (omega arith)

-- the beat of the last tick before input i of a life, if this was the last one before it
abbrev pub last_from : Option ℕ → (ℕ → Input Msg) → ℕ → Option ℕ
last_from before inputs zero = before
last_from before inputs (suc i) = last_behind (inputs i) (last_from before inputs i)

-- What a cub does at the inputs of a life that begins with its return, whatever it kept before that: at the first it comes
-- back, and at each other one it goes on.
pub record ActsBack (p : Params) (c count : ℕ) (inputs : ℕ → Input Msg) (h : Store) (last : Option ℕ) : Type 0 where
  pub state : (cub_step (cub_with p c h last) (inputs 0)).state
      ≡ cub_with p c (store_at p c inputs 1) (last_from last inputs 1)
  pub outs : (cub_step (cub_with p c h last) (inputs 0)).outs
      ≡ (coming_back p c (stamp_of (inputs 0)) h).outs ++ outs_at p c inputs 0
  pub goes_on : (i : ℕ) → 0 < i → i < count → GoesOn (last_from last inputs i) (inputs i)

module _ (p : Params) (c count : ℕ) (inputs : ℕ → Input Msg) (life : IsLife p count inputs) (some : 0 < count)
    (tick : is_tick_input (inputs 0) ≡ true) (late : 0 < beat_at inputs 0) (last : Option ℕ) where
  last_later : (i : ℕ) → i < count → last_from last inputs (suc i) ≡ tick_before (beat_at inputs 0 + ticks_at inputs (suc i))
  last_later zero low =
      let s = tick_of (inputs 0) tick in
      let one = after_tick inputs 0 tick in
      let e : beat_at inputs 0 + ticks_at inputs 1 ≡ suc (beat_at inputs 0) = omega arith in
      ap (λ (k : Input Msg). last_behind k last) s.1
      ∙ ap (λ (k : Input Msg). Some (stamp_of k).beat) (sym s.1)
      ∙ sym (ap tick_before e)
  last_later (suc i) low =
      let k : Input Msg = inputs (suc i) in
      let n : ℕ = beat_at inputs 0 + ticks_at inputs (suc i) in
      let same = last_behind_tick k n (life.in_beat (suc i) low) in
      let counts : cond (is_tick_input k) (suc n) n ≡ beat_at inputs 0 + ticks_at inputs (suc (suc i)) = ⊎_elim
      (λ (t : is_tick_input k ≡ true). let more = after_tick inputs (suc i) t in rw t (omega arith))
      (λ (f : is_tick_input k ≡ false).
      let stays : ticks_at inputs (suc (suc i)) ≡ ticks_at inputs (suc i) =
      ap (λ (b : Bool). cond b (suc (ticks_at inputs (suc i))) (ticks_at inputs (suc i))) f in
      rw f (omega arith))
      (cases_Bool (is_tick_input k)) in
      ap (λ (o : Option ℕ). last_behind k o) (last_later i (omega arith)) ∙ same ∙ ap tick_before counts

  later_goes_on : (i : ℕ) → 0 < i → i < count → GoesOn (last_from last inputs i) (inputs i)
  later_goes_on zero more low = absurd (omega arith)
  later_goes_on (suc i) more low =
      goes_on (last_from last inputs (suc i)) (inputs (suc i)) (beat_at inputs 0 + ticks_at inputs (suc i))
      (last_later i (omega arith)) (life.in_beat (suc i) low)

  -- So it is if it has been away.
  pub acts_back : (h : Store) → was_away last (beat_at inputs 0) ≡ true → ActsBack p c count inputs h last
  acts_back h away =
      let s = tick_of (inputs 0) tick in
      let stamp : Stamp = s.0 in
      let beats : beat_at inputs 0 ≡ stamp.beat = ap (λ (k : Input Msg). (stamp_of k).beat) s.1 in
      let gone : was_away last stamp.beat ≡ true = ap (λ b. was_away last b) (sym beats) ∙ away in
      let first = begins_back p stamp (omega arith) in
      record {
        state = ap (λ (k : Input Msg). (cub_step (cub_with p c h last) k).state) s.1 ∙ back_state p c h last stamp gone
            ∙ ap (λ (g : Store). cub_with p c (deed_of p c (Tick stamp) g).state (Some stamp.beat)) (sym first)
            ∙ ap (λ (k : Input Msg). cub_with p c (deed_of p c k (beginning p (stamp_of k))).state (last_behind k last)) (sym s.1);
        outs = ap (λ (k : Input Msg). (cub_step (cub_with p c h last) k).outs) s.1 ∙ back_outs p c h last stamp gone
            ∙ ap (λ (g : Store). (coming_back p c stamp h).outs ++ (deed_of p c (Tick stamp) g).outs) (sym first)
            ∙ ap (λ (k : Input Msg). (coming_back p c (stamp_of k) h).outs ++ (deed_of p c k (beginning p (stamp_of k))).outs)
            (sym s.1);
        goes_on = later_goes_on;
      }

-- ---- events

-- nothing is done at a return
pub after_return : {S : Type 0} (step : S → Input Msg → Deed Msg S) (e : NodeEvent Msg) (x : Past S)
    → is_return e ≡ true → (after noted step e x).state ≡ x.state
after_return step (Does i) x t = absurd (cc)
after_return step (Ends i sends) x t = absurd (cc)
after_return step (Dies stamp) x t = absurd (cc)
after_return step (Returns stamp) x t = refl

-- nor at a death apart from an event
pub after_death_alone : {S : Type 0} (step : S → Input Msg → Deed Msg S) (e : NodeEvent Msg) (x : Past S)
    → has_input e ≡ false → (after noted step e x).state ≡ x.state
after_death_alone step (Does i) x t = absurd (cc)
after_death_alone step (Ends i sends) x t = absurd (cc)
after_death_alone step (Dies stamp) x t = refl
after_death_alone step (Returns stamp) x t = refl

-- A node that returns has been away: it did not end the beat before that of its return.
pub away_then : {S : Type 0} {step : S → Input Msg → Deed Msg S} {p : Params} {nodes : ℕ} {h : History Msg S}
    (run : IsRun noted step p nodes h) (n : ℕ) (known : n < nodes) → first_events h n < h.count n
    → was_away (last_at ((lives_of h).input n) (acting h n)) (beat h n (first_events h n)) ≡ true
away_then {S} {step} {p} {nodes} {h} run n known low =
    let inputs : ℕ → Input Msg = (lives_of h).input n in
    let here = first_here run n known in
    let ended = first_ended run n known in
    let d = died run n known low in
    let next = d.next in
    let apart = d.apart in
    let most : acting h n ≤ first_events h n = ⊎_elim
    (λ (l : first_events h n < acting h n). let z = (acts_at h n here ended (first_events h n) l).done in absurd (omega arith))
    (λ (le : acting h n ≤ first_events h n). le)
    (cases_lt (first_events h n) (acting h n)) in
    let opened = open_first run n known (acting h n) most in
    let rise = opens_rise run n known (acting h n) (first_events h n) most (omega arith) in
    let by = opens_after run n known d.at (omega arith) (here d.at (omega arith)) in
    let behind_it : first_events h n ≡ suc d.at = omega arith in
    let is : open_beat h n (first_events h n) ≡ open_beat h n (suc d.at) = ap (open_beat h n) behind_it in
    let ticks = ticks_acting h n here ended (acting h n) (omega arith) in
    let last = last_is (acting h n) inputs (λ i less. first_beat run n known i less) (acting h n) (omega arith) in
    ap (λ (o : Option ℕ). was_away o (beat h n (first_events h n))) last
    ∙ away_since (ticks_at inputs (acting h n)) (beat h n (first_events h n)) (omega arith)

-- an event with an input is a step at it, of which its node's death may cut off what goes out
pub after_state : {S : Type 0} (step : S → Input Msg → Deed Msg S) (e : NodeEvent Msg) (x : Past S)
    → has_input e ≡ true → (after noted step e x).state ≡ (step x.state (input_of e)).state
unfolding after_input after_cut
after_state step (Does i) x t = refl
after_state step (Ends i sends) x t = refl
after_state step (Dies stamp) x t = absurd (cc)
after_state step (Returns stamp) x t = absurd (cc)

pub event_outs : {S : Type 0} (step : S → Input Msg → Deed Msg S) (e : NodeEvent Msg) (x : Past S)
    → has_input e ≡ true → outs_of step e x ≡ cut_outs (cut_of_event e) (step x.state (input_of e)).outs
unfolding kept_outs left_outs
event_outs step (Does i) x t = refl
event_outs step (Ends i sends) x t = refl
event_outs step (Dies stamp) x t = absurd (cc)
event_outs step (Returns stamp) x t = absurd (cc)
