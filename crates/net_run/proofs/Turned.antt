-- A cub stays sound by each turn, and a ring what it is by each event that may be given.
use Rattle.std.proofs.Common.{◌≡◌, ◌∙◌, ℕ, zero, suc, ◌+◌, ◌-◌, ◌*◌, ◌/◌, ◌<◌, ◌≤◌, Bool, true, false, cond, List, length, get_or, map, Some, None, Option, refl, sym, ap, subst, arith}
use Rattle.std.specs.Prelude.{find, slice_get, unwrap_or}
use Rattle.std.specs.List.{range_with_len}
use Rattle.std.specs.Option.{is_some}
use Rattle.std.proofs.lemmas.List.FromFn.{length-map-range_with_len}
use Rattle.tiger_base.specs.declared.number.Instance.{Instance}
use Rattle.net_schedule.specs.declared.ring.Entry.{Entry}
use Rattle.net_schedule.specs.declared.ring.NetState.{NetState}
use Rattle.net_schedule.specs.declared.ring.NetState.TheVariants as state
use Rattle.net_schedule.specs.declared.ring.Own.{Own}
use Rattle.net_schedule.specs.declared.packet.Packet.{Packet}
use Rattle.net_schedule.specs.declared.packet.Packet.TheVariants as packet
use Rattle.net_schedule.specs.declared.world.NetStop.TheVariants as cause
use Rattle.net_schedule.specs.declared.world.NetEvent.{NetEvent}
use Rattle.net_schedule.specs.declared.world.NetEvent.TheVariants as event
use Rattle.net_schedule.specs.Rings.{IsOwnQuantum, IsEntryOf, reaches}
use Rattle.net_schedule.specs.Cubs.{CubState, IsSound, IsKeptOf, HasLoads, IsMoreBy, CanTake, is_of, is_for, is_live, is_waiting, is_asked, is_kept, counts, waits, carried, kept_rate, first_over, answered, state_of, with_own, with_ask, with_state, put_in, number_of, in_state, keeping, reserved, taking, released}
use Rattle.net_schedule.specs.Worlds.{WorldState, after, turned, cub_at, asked_at, actor_of, turn_of, goal_of, goal_of_sent, taking_turn, fault_of, IsPossible, CanTurn, WasSent}
use Rattle.net_schedule.specs.Links.{IsWorld}
use Rattle.net_schedule.proofs.Sound.{entered, entered_idle, kept_too, ended, placed, released_row, has_own, has_kept, unreleased}
use Rattle.net_schedule.proofs.Worldly.{world_moved, can_take, ask_can}
use Rattle.net_run.proofs.Sums.{actor_low, sent_some, unused}

-- ---- the rows that lemmas on a cub's loads speak of

at_row : (f : ℕ → ℕ) (a n i : ℕ) → i < n → get_or (map f (range_with_len a n)) i 0 ≡ f (a + i)
at_row f a zero i low = absurd (omega (arith, low))
at_row f a (suc n) zero low = ap f (omega arith)
at_row f a (suc n) (suc i) low =
    let same : a + 1 + i ≡ a + suc i = omega arith in
    at_row f (a + 1) n i (omega (arith, low)) ∙ ap f same

-- what each of the cub's quanta has by a function
abbrev row_by : CubState → (ℕ → ℕ) → List ℕ
row_by s f = map f (range_with_len (s.no * s.ring.quanta) s.ring.quanta)

abbrev row_of : CubState → List ℕ
row_of s = row_by s (carried s)

abbrev row_up : CubState → Entry → List ℕ
row_up s e = row_by s (λ k. carried s k + kept_rate s.ring k e)

abbrev row_down : CubState → Entry → List ℕ
row_down s e = row_by s (λ k. carried s k - kept_rate s.ring k e)

length-row : (s : CubState) (f : ℕ → ℕ) → length (row_by s f) ≡ s.ring.quanta
length-row s f = length-map-range_with_len f (s.no * s.ring.quanta) s.ring.quanta

has_row : (s : CubState) → IsSound s → HasLoads s (row_of s)
has_row s h = record {
  sound = h;
  len = length-row s (carried s);
  is = λ i low. at_row (carried s) (s.no * s.ring.quanta) s.ring.quanta i low;
}

is_up : (s : CubState) (e : Entry) → IsMoreBy s.ring (s.no * s.ring.quanta) e (row_of s) (row_up s e)
is_up s e = record {
  len = length-row s (λ k. carried s k + kept_rate s.ring k e) ∙ sym (length-row s (carried s));
  more = λ i low.
      let less : i < s.ring.quanta = omega (arith, low, length-row s (carried s)) in
      omega (
        arith,
        at_row (carried s) (s.no * s.ring.quanta) s.ring.quanta i less,
        at_row (λ k. carried s k + kept_rate s.ring k e) (s.no * s.ring.quanta) s.ring.quanta i less,
      );
}

is_down : (s : CubState) (e : Entry) → ((i : ℕ) → i < length (row_of s) → kept_rate s.ring (s.no * s.ring.quanta + i) e ≤ get_or (row_of s) i 0)
    → IsMoreBy s.ring (s.no * s.ring.quanta) e (row_down s e) (row_of s)
is_down s e has = record {
  len = length-row s (carried s) ∙ sym (length-row s (λ k. carried s k - kept_rate s.ring k e));
  more = λ i low.
      let less : i < s.ring.quanta = omega (arith, low, length-row s (λ k. carried s k - kept_rate s.ring k e)) in
      omega (
        arith,
        at_row (carried s) (s.no * s.ring.quanta) s.ring.quanta i less,
        at_row (λ k. carried s k - kept_rate s.ring k e) (s.no * s.ring.quanta) s.ring.quanta i less,
        has i (omega (arith, less, length-row s (carried s))),
      );
}

-- ---- a cub's turns

abbrev asked_for : Instance → ℕ → ℕ → NetState → Own
asked_for v at rate x = record { entry = record { instance = v; at = at; rate = rate }; state = x }

ask_sound : (s : CubState) (v : Instance) (at rate : ℕ) → IsSound s → IsOwnQuantum s.ring s.no at → 1 ≤ rate → rate ≤ s.ring.capacity → is_asked s.own v ≡ false → IsSound (with_ask s v at rate)
ask_sound s v at rate h own some few new =
    (elim (first_over s at rate) as (λ o. first_over s at rate ≡ o → IsSound (with_own s (asked_for v at rate (state_of (answered o (reaches s.ring at)))))) [
      | None ↦ λ ef. fits (reaches s.ring at) refl ef
      | Some over ↦ λ ef.
          (entered_idle s (row_of s) (asked_for v at rate (state_of (answered (Some over) (reaches s.ring at)))) (put_in number_of (asked_for v at rate (state_of (answered (Some over) (reaches s.ring at)))) s.own)
          (has_row s h) (record { entry = entry; waits = λ e. absurd (cc) }) new refl refl).sound
    ]) refl
  where
    entry : IsEntryOf s.ring s.no (record { instance = v; at = at; rate = rate })
    entry = record { at = own; some = some; few = few }

    fits : (far : Bool) → reaches s.ring at ≡ far → first_over s at rate ≡ None → IsSound (with_own s (asked_for v at rate (state_of (answered None far))))
    fits true er ef =
        (entered s (row_of s) (row_up s (record { instance = v; at = at; rate = rate })) (asked_for v at rate state.Waiting) (put_in number_of (asked_for v at rate state.Waiting) s.own) (has_row s h)
        (record { entry = entry; waits = λ e. er }) new ef refl refl (is_up s (record { instance = v; at = at; rate = rate }))).sound
    fits false er ef =
        (entered s (row_of s) (row_up s (record { instance = v; at = at; rate = rate })) (asked_for v at rate state.Placed) (put_in number_of (asked_for v at rate state.Placed) s.own) (has_row s h)
        (record { entry = entry; waits = λ e. absurd (cc) }) new ef refl refl (is_up s (record { instance = v; at = at; rate = rate }))).sound

-- an entry that counts ends
end_sound : (s : CubState) (v : Instance) (x : NetState) (o : Own) → IsSound s → find (is_of v) s.own ≡ Some o → is_live o.state ≡ true → is_live x ≡ false → IsSound (in_state s v x)
end_sound s v x o h f live dead =
    (ended s (row_of s) (row_down s o.entry) v x o (with_state v x s.own) (has_row s h) f live dead refl (is_down s o.entry (has_own s (row_of s) v o (has_row s h) f live))).sound

stop_sound : (s : CubState) (v : Instance) (x : NetState) (f : Option Own) → IsSound s → is_live x ≡ false → find (is_of v) s.own ≡ f → IsSound (cond (counts f) (in_state s v x) s)
stop_sound s v x None h dead f = h
stop_sound s v x (Some o) h dead f = cases (is_live o.state) refl
  where
    cases : (b : Bool) → is_live o.state ≡ b → IsSound (cond b (in_state s v x) s)
    cases true live = end_sound s v x o h f live dead
    cases false live = h

waits_live : (x : NetState) → is_waiting x ≡ true → is_live x ≡ true
waits_live state.Placed e = absurd (cc)
waits_live state.Waiting e = refl
waits_live (state.Full quantum sum) e = absurd (cc)
waits_live (state.Refused quantum sum) e = absurd (cc)
waits_live state.Stopped e = absurd (cc)

refuse_sound : (s : CubState) (v : Instance) (x : NetState) (f : Option Own) → IsSound s → is_live x ≡ false → find (is_of v) s.own ≡ f → IsSound (cond (waits f) (in_state s v x) s)
refuse_sound s v x None h dead f = h
refuse_sound s v x (Some o) h dead f = cases (is_waiting o.state) refl
  where
    cases : (b : Bool) → is_waiting o.state ≡ b → IsSound (cond b (in_state s v x) s)
    cases true wait = end_sound s v x o h f (waits_live o.state wait) dead
    cases false wait = h

confirm_sound : (s : CubState) (v : Instance) (f : Option Own) → IsSound s → find (is_of v) s.own ≡ f → IsSound (cond (waits f) (in_state s v state.Placed) s)
confirm_sound s v None h f = h
confirm_sound s v (Some o) h f = cases (is_waiting o.state) refl
  where
    cases : (b : Bool) → is_waiting o.state ≡ b → IsSound (cond b (in_state s v state.Placed) s)
    cases true wait = (placed s (row_of s) v o (with_state v state.Placed s.own) (has_row s h) f wait refl).sound
    cases false wait = h

reserve_sound : (s : CubState) (e : Entry) → IsSound s → IsKeptOf s.ring s.no e → IsSound (reserved s e)
reserve_sound s e h mine = cases (is_kept s.kept e.instance) refl
  where
    cases : (b : Bool) → is_kept s.kept e.instance ≡ b → IsSound (cond b s (keeping s e (first_over s e.at e.rate)))
    cases true eb = h
    cases false eb =
        (elim (first_over s e.at e.rate) as (λ o. first_over s e.at e.rate ≡ o → IsSound (keeping s e o))
        [ None ↦ λ ef. (kept_too s (row_of s) (row_up s e) e (put_in (λ (x : Entry). x.instance.0) e s.kept) (has_row s h) mine eb ef refl (is_up s e)).sound | Some over ↦ λ ef. h ]) refl

release_sound : (s : CubState) (v : Instance) (f : Option Entry) → IsSound s → find (is_for v) s.kept ≡ f → IsSound (released s v)
release_sound s v None h f = subst IsSound (unreleased s v f) h
release_sound s v (Some e) h f =
    (released_row s (row_of s) (row_down s e) v e (released s v).kept (has_row s h) f refl (is_down s e (has_kept s (row_of s) v e (has_row s h) f))).sound

take_sound : (s : CubState) (p : Packet) → IsSound s → CanTake s p → IsSound (taking s p)
take_sound s (packet.Reserve v at rate to) h can = reserve_sound s (record { instance = v; at = at; rate = rate }) h can.1
take_sound s (packet.Confirm v to) h can = confirm_sound s v (find (is_of v) s.own) h refl
take_sound s (packet.Refuse v quantum sum to) h can = refuse_sound s v (state.Refused quantum sum) (find (is_of v) s.own) h refl refl
take_sound s (packet.Release v to) h can = release_sound s v (find (is_for v) s.kept) h refl

-- ---- a ring's events

can_turn : (w : WorldState) (e : NetEvent) → IsWorld w → IsPossible w.ring e → fault_of w e ≡ None → CanTurn (cub_at w (actor_of w e)) (turn_of w e)
can_turn w (event.Ask v at rate) h can none = ask_can w v at rate h can.0 can.1 can.2 (unused (asked_at w v) none)
can_turn w (event.Stop v) h can none = tt
can_turn w (event.Renew c) h can none = tt
can_turn w (event.Deliver n) h can none =
    let p = sent_some (slice_get w.sent n) none in
    rw p.1 (can_take w n p.0 h p.1).1

turned_sound : (w : WorldState) (e : NetEvent) → IsWorld w → IsPossible w.ring e → fault_of w e ≡ None → IsSound (cub_at w (actor_of w e)) → IsSound (turned (cub_at w (actor_of w e)) (turn_of w e))
turned_sound w (event.Ask v at rate) h can none sound =
    let may = ask_can w v at rate h can.0 can.1 can.2 (unused (asked_at w v) none) in
    ask_sound (cub_at w (at / w.ring.quanta)) v at rate sound may.0 may.1 may.2 may.3
turned_sound w (event.Stop v) h can none sound =
    stop_sound (cub_at w (unwrap_or (asked_at w v) 0)) v state.Stopped (find (is_of v) (cub_at w (unwrap_or (asked_at w v) 0)).own) sound refl refl
turned_sound w (event.Renew c) h can none sound = sound
turned_sound w (event.Deliver n) h can none sound = cases (slice_get w.sent n) refl none sound
  where
    cases : (o : Option Packet) → slice_get w.sent n ≡ o → cond (is_some o) None (Some cause.NeverSent) ≡ None → IsSound (cub_at w (goal_of_sent o)) → IsSound (turned (cub_at w (goal_of_sent o)) (taking_turn o))
    cases None e never sound = absurd (cc)
    cases (Some p) e never sound = take_sound (cub_at w (goal_of p).0) p sound (can_take w n p h e).1

was_sent : (w : WorldState) (e : NetEvent) → fault_of w e ≡ None → WasSent w.sent (turn_of w e)
was_sent w (event.Ask v at rate) none = tt
was_sent w (event.Stop v) none = tt
was_sent w (event.Renew c) none = tt
was_sent w (event.Deliver n) none =
    let p = sent_some (slice_get w.sent n) none in
    subst (λ (q : Option Packet). WasSent w.sent (taking_turn q)) (sym p.1) (n, p.1)

pub world_next : (w : WorldState) (e : NetEvent) → IsWorld w → IsPossible w.ring e → fault_of w e ≡ None → IsWorld (after w e)
world_next w e h can none =
    let low = actor_low w e h can none in
    let may = can_turn w e h can none in
    world_moved w (actor_of w e) (turn_of w e) e h low may (was_sent w e none) (turned_sound w e h can none (h.seated (actor_of w e) low).sound) refl refl
