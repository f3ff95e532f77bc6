-- What an event changes of the sums of placed rates: the entry at its place alone, if it has one.
use Rattle.std.proofs.Common.{◌≡◌, ◌∙◌, ℕ, zero, suc, ◌+◌, ◌/◌, ◌<◌, ◌&&◌, Bool, true, false, cond, List, [], ◌∷◌, length, get_or, Some, None, Option, refl, sym, ap, subst, arith, eq-eqb}
use Rattle.std.proofs.Math.ListN.{set}
use Rattle.std.specs.Prelude.{find, sum_by, slice_get, unwrap_or}
use Rattle.std.specs.List.{flat_map}
use Rattle.std.specs.Option.{is_some}
use Rattle.std.proofs.lemmas.List.{get_or-set_same}
use Rattle.std.proofs.lemmas.List.Sums.{sum_by-cons}
use Rattle.tiger_base.specs.declared.number.Instance.{Instance}
use Rattle.net_schedule.specs.declared.ring.NetRing.{NetRing}
use Rattle.net_schedule.specs.declared.ring.Entry.{Entry}
use Rattle.net_schedule.specs.declared.ring.NetState.{NetState}
use Rattle.net_schedule.specs.declared.ring.NetState.TheVariants as state
use Rattle.net_schedule.specs.declared.ring.Own.{Own}
use Rattle.net_schedule.specs.declared.packet.Packet.{Packet}
use Rattle.net_schedule.specs.declared.packet.Packet.TheVariants as packet
use Rattle.net_schedule.specs.declared.world.NetStop.TheVariants as cause
use Rattle.net_schedule.specs.declared.world.NetEvent.{NetEvent}
use Rattle.net_schedule.specs.declared.world.NetEvent.TheVariants as event
use Rattle.net_schedule.specs.Rings.{takes}
use Rattle.net_schedule.specs.Cubs.{CubState, fresh_cub, is_of, is_asked, is_kept, is_placed, is_waiting, number_of, put_in, with_state, counts, waits, first_over, keeping, reserved, confirmed, refused, released, with_ask, with_stop, in_state, asked_entry}
use Rattle.net_schedule.specs.Worlds.{WorldState, cub_at, after, moved, goal_of, goal_of_sent, taking_turn, actor_of, asked_at, fault_of, IsPossible}
use Rattle.net_schedule.specs.Claims.{placed_rate, ring_sum}
use Rattle.net_schedule.specs.Links.{IsWorld}
use Rattle.net_schedule.proofs.Lists.{sum_put}
use Rattle.net_schedule.proofs.Finds.{none_any, put_found, state_found}
use Rattle.net_schedule.proofs.Dominated.{sum_of_parts}
use Rattle.net_schedule.proofs.Worldly.{can_take, ask_low, ask_can, asked_low}
use Rattle.net_run.specs.Peaks.{place_by, place_for, place_of, if_placed, placed_at, rate_of}

-- ---- one list

-- a list differs from another one, for the sums of placed rates, in one entry at most, which stays the same
pub record Differs (r : NetRing) (old new : List Own) (was now : Option Entry) : Type 0 where
  pub sums : (k : ℕ) → sum_by (placed_rate r k) new + rate_of r k was ≡ sum_by (placed_rate r k) old + rate_of r k now
  pub same : (a b : Entry) → was ≡ Some a → now ≡ Some b → a ≡ b

unchanged : (r : NetRing) (own : List Own) (was : Option Entry) → Differs r own own was was
unchanged r own was = record { sums = λ k. refl; same = λ a b ea eb. cc }

part_is : (r : NetRing) (k : ℕ) (o : Own) → placed_rate r k o ≡ rate_of r k (if_placed (Some o))
part_is r k o = cases (is_placed o.state)
  where
    cases : (b : Bool) → cond (b && takes r o.entry.at k) o.entry.rate 0 ≡ rate_of r k (cond b (Some o.entry) None)
    cases true = refl
    cases false = refl

-- an entry in another state
sum_state : (f : Own → ℕ) (v : Instance) (x : NetState) (own : List Own) (o : Own) → find (is_of v) own ≡ Some o
    → sum_by f (with_state v x own) + f o ≡ sum_by f own + f (record o { state = x })
sum_state f v x [] o e = absurd (cc)
sum_state f v x (y ∷ ys) o e = cases (is_of v y) e (λ g. sum_state f v x ys o g)
  where
    cases : (b : Bool) → cond b (Some y) (find (is_of v) ys) ≡ Some o
        → (find (is_of v) ys ≡ Some o → sum_by f (with_state v x ys) + f o ≡ sum_by f ys + f (record o { state = x }))
        → sum_by f (cond b (record y { state = x } ∷ ys) (y ∷ with_state v x ys)) + f o ≡ sum_by f (y ∷ ys) + f (record o { state = x })
    cases true g ih =
        let same : y ≡ o = cc in
        let here : f y ≡ f o = ap f same in
        let there : f (record y { state = x }) ≡ f (record o { state = x }) = ap (λ (z : Own). f (record z { state = x })) same in
        omega (arith, sum_by-cons f y ys, sum_by-cons f (record y { state = x }) ys, here, there)
    cases false g ih = omega (arith, ih g, sum_by-cons f y ys, sum_by-cons f y (with_state v x ys))

entry_of_placed : (o : Own) (e : Entry) → if_placed (Some o) ≡ Some e → o.entry ≡ e
entry_of_placed o e = cases (is_placed o.state)
  where
    cases : (b : Bool) → cond b (Some o.entry) None ≡ Some e → o.entry ≡ e
    cases true g = cc
    cases false g = absurd (cc)

restated : (r : NetRing) (v : Instance) (x : NetState) (own : List Own) (o : Own) → find (is_of v) own ≡ Some o
    → Differs r own (with_state v x own) (if_placed (find (is_of v) own)) (if_placed (find (is_of v) (with_state v x own)))
restated r v x own o e =
    let f = state_found v x own o e in
    rw (e, f) (record {
      sums = λ k. omega (arith, sum_state (placed_rate r k) v x own o e, part_is r k o, part_is r k (record o { state = x }));
      same = λ a b ea eb. sym (entry_of_placed o a ea) ∙ entry_of_placed (record o { state = x }) b eb;
    })

either : (r : NetRing) (s : CubState) (v : Instance) (x : NetState) (b : Bool) → (b ≡ true → (o : Own) × (find (is_of v) s.own ≡ Some o))
    → Differs r s.own (cond b (in_state s v x) s).own (if_placed (find (is_of v) s.own)) (if_placed (find (is_of v) (cond b (in_state s v x) s).own))
either r s v x true there = let o = there refl in restated r v x s.own o.0 o.1
either r s v x false there = unchanged r s.own (if_placed (find (is_of v) s.own))

counts_some : (o : Option Own) → counts o ≡ true → (x : Own) × (o ≡ Some x)
counts_some None e = absurd (cc)
counts_some (Some x) e = (x, refl)

waits_some : (o : Option Own) → waits o ≡ true → (x : Own) × (o ≡ Some x) × (is_waiting x.state ≡ true)
waits_some None e = absurd (cc)
waits_some (Some x) e = (x, refl, e)

waits_unplaced : (x : NetState) → is_waiting x ≡ true → is_placed x ≡ false
waits_unplaced state.Placed e = absurd (cc)
waits_unplaced state.Waiting e = refl
waits_unplaced (state.Full quantum sum) e = refl
waits_unplaced (state.Refused quantum sum) e = refl
waits_unplaced state.Stopped e = refl

-- one that waits, and then is not placed either
idle : (r : NetRing) (s : CubState) (v : Instance) (x : NetState) (b : Bool) → is_placed x ≡ false
    → (b ≡ true → (o : Own) × (find (is_of v) s.own ≡ Some o) × (is_waiting o.state ≡ true)) → Differs r s.own (cond b (in_state s v x) s).own None None
idle r s v x false un there = unchanged r s.own None
idle r s v x true un there =
    let o = there refl in
    let before : (k : ℕ) → placed_rate r k o.0 ≡ 0 = λ k. rw (waits_unplaced o.0.state o.2) refl in
    let behind : (k : ℕ) → placed_rate r k (record o.0 { state = x }) ≡ 0 = λ k. rw un refl in
    record {
      sums = λ k. omega (arith, sum_state (placed_rate r k) v x s.own o.0 o.1, before k, behind k);
      same = λ a b ea eb. absurd (cc);
    }

entered : (r : NetRing) (v : Instance) (o : Own) (own : List Own) → is_of v o ≡ true → is_asked own v ≡ false
    → Differs r own (put_in number_of o own) (if_placed (find (is_of v) own)) (if_placed (find (is_of v) (put_in number_of o own)))
entered r v o own is new =
    let none = none_any (is_of v) own new in
    rw (none, put_found number_of (is_of v) o own is none) (record {
      sums = λ k. omega (arith, sum_put (placed_rate r k) number_of o own, part_is r k o);
      same = λ a b ea eb. absurd (cc);
    })

pub reserved_own : (s : CubState) (e : Entry) → (reserved s e).own ≡ s.own
reserved_own s e =
    elim (is_kept s.kept e.instance) as (λ b. (cond b s (keeping s e (first_over s e.at e.rate))).own ≡ s.own)
    [ true ↦ refl | false ↦ elim (first_over s e.at e.rate) as (λ o. (keeping s e o).own ≡ s.own) [ None ↦ refl | Some over ↦ refl ] ]

-- ---- the whole ring

sum_set : {X : Type 0} (g : X → ℕ) (xs : List X) (i : ℕ) (y d : X) → i < length xs → sum_by g (set xs i y) + g (get_or xs i d) ≡ sum_by g xs + g y
sum_set g [] i y d low = absurd (omega (arith, low))
sum_set g (x ∷ xs) zero y d low = omega (arith, sum_by-cons g x xs, sum_by-cons g y xs)
sum_set g (x ∷ xs) (suc i) y d low = omega (arith, sum_set g xs i y d (omega (arith, low)), sum_by-cons g x xs, sum_by-cons g x (set xs i y))

-- what an event changes of the sums of a ring
pub record Changes (old new : WorldState) (was now : Option Entry) : Type 0 where
  pub sums : (k : ℕ) → ring_sum new k + rate_of old.ring k was ≡ ring_sum old k + rate_of old.ring k now
  pub same : (a b : Entry) → was ≡ Some a → now ≡ Some b → a ≡ b

-- one cub changes, and the others stay
ring_changes : (w v : WorldState) (c : ℕ) (s : CubState) (was now : Option Entry) → v.ring ≡ w.ring → v.cubs ≡ set w.cubs c s → c < length w.cubs
    → Differs w.ring (cub_at w c).own s.own was now → Changes w v was now
ring_changes w v c s was now er ec there d = record {
  sums = λ k.
      let sums : ring_sum v k ≡ sum_by (placed_rate w.ring k) (flat_map (λ (y : CubState). y.own) (set w.cubs c s)) = rw (er, ec) refl in
      omega (
        arith,
        sums,
        d.sums k,
        sum_of_parts (placed_rate w.ring k) (λ (y : CubState). y.own) w.cubs,
        sum_of_parts (placed_rate w.ring k) (λ (y : CubState). y.own) (set w.cubs c s),
        sum_set (λ (y : CubState). sum_by (placed_rate w.ring k) y.own) w.cubs c s (fresh_cub w.ring 0) there,
      );
  same = d.same;
}

-- the same, if what changes is the entry of an instance there
place_changes : (w v : WorldState) (c : ℕ) (s : CubState) (u : Instance) → v.ring ≡ w.ring → v.cubs ≡ set w.cubs c s → c < length w.cubs
    → Differs w.ring (cub_at w c).own s.own (if_placed (find (is_of u) (cub_at w c).own)) (if_placed (find (is_of u) s.own))
    → Changes w v (placed_at w (Some (record { cub = c; instance = u }))) (placed_at v (Some (record { cub = c; instance = u })))
place_changes w v c s u er ec there d =
    let here : cub_at v c ≡ s = rw (er, ec) (get_or-set_same w.cubs c s (fresh_cub w.ring 0) there) in
    subst (λ (y : CubState). Changes w v (if_placed (find (is_of u) (cub_at w c).own)) (if_placed (find (is_of u) y.own))) (sym here)
    (ring_changes w v c s (if_placed (find (is_of u) (cub_at w c).own)) (if_placed (find (is_of u) s.own)) er ec there d)

pub sent_some : (p : Option Packet) → cond (is_some p) None (Some cause.NeverSent) ≡ None → (q : Packet) × (p ≡ Some q)
sent_some None e = absurd (cc)
sent_some (Some q) e = (q, refl)

pub unused : (o : Option ℕ) → cond (is_some o) (Some cause.Used) None ≡ None → o ≡ None
unused None e = refl
unused (Some c) e = absurd (cc)

-- who acts by an event is a cub of the ring
pub actor_low : (w : WorldState) (e : NetEvent) → IsWorld w → IsPossible w.ring e → fault_of w e ≡ None → actor_of w e < w.ring.cubs
actor_low w (event.Ask v at rate) h can none = (ask_low w at h can.0).0
actor_low w (event.Stop v) h can none = asked_low w v h
actor_low w (event.Renew c) h can none = can
actor_low w (event.Deliver n) h can none =
    let p = sent_some (slice_get w.sent n) none in
    rw (p.1) (can_take w n p.0 h p.1).0

-- a packet that comes to its cub
abbrev pub came : WorldState → ℕ → Option Packet → WorldState
came w n p = moved w (goal_of_sent p) (taking_turn p) (event.Deliver n)

packet_changes : (w : WorldState) (n : ℕ) (p : Packet) → (goal_of p).0 < length w.cubs
    → Changes w (came w n (Some p)) (placed_at w (place_by p)) (placed_at (came w n (Some p)) (place_by p))
packet_changes w n (packet.Reserve v at rate to) there =
    let s = cub_at w to.0 in
    let e : Entry = record { instance = v; at = at; rate = rate } in
    ring_changes w (came w n (Some (packet.Reserve v at rate to))) to.0 (reserved (cub_at w to.0) (record { instance = v; at = at; rate = rate })) None None refl refl there
    (subst (λ (own : List Own). Differs w.ring (cub_at w to.0).own own None None) (sym (reserved_own (cub_at w to.0) (record { instance = v; at = at; rate = rate }))) (unchanged w.ring (cub_at w to.0).own None))
packet_changes w n (packet.Confirm v to) there =
    place_changes w (came w n (Some (packet.Confirm v to))) to.0 (confirmed (cub_at w to.0) v) v refl refl there
    (either w.ring (cub_at w to.0) v state.Placed (waits (find (is_of v) (cub_at w to.0).own)) (λ e. let x = waits_some (find (is_of v) (cub_at w to.0).own) e in (x.0, x.1)))
packet_changes w n (packet.Refuse v quantum sum to) there =
    ring_changes w (came w n (Some (packet.Refuse v quantum sum to))) to.0 (refused (cub_at w to.0) v (state.Refused quantum sum)) None None refl refl there
    (idle w.ring (cub_at w to.0) v (state.Refused quantum sum) (waits (find (is_of v) (cub_at w to.0).own)) refl (λ e. waits_some (find (is_of v) (cub_at w to.0).own) e))
packet_changes w n (packet.Release v to) there =
    ring_changes w (came w n (Some (packet.Release v to))) to.0 (released (cub_at w to.0) v) None None refl refl there (unchanged w.ring (cub_at w to.0).own None)

pub event_changes : (w : WorldState) (e : NetEvent) → IsWorld w → IsPossible w.ring e → fault_of w e ≡ None
    → Changes w (after w e) (placed_at w (place_of w e)) (placed_at (after w e) (place_of w e))
event_changes w (event.Ask v at rate) h can none =
    let c = at / w.ring.quanta in
    let there = subst (λ (n : ℕ). at / w.ring.quanta < n) (sym h.count) (ask_low w at h can.0).0 in
    let new = (ask_can w v at rate h can.0 can.1 can.2 (unused (asked_at w v) none)).3 in
    place_changes w (after w (event.Ask v at rate)) (at / w.ring.quanta) (with_ask (cub_at w (at / w.ring.quanta)) v at rate) v refl refl there
    (entered w.ring v (asked_entry (cub_at w (at / w.ring.quanta)) v at rate) (cub_at w (at / w.ring.quanta)).own (eq-eqb v.0 v.0 refl) new)
event_changes w (event.Stop v) h can none =
    let there = subst (λ (n : ℕ). unwrap_or (asked_at w v) 0 < n) (sym h.count) (asked_low w v h) in
    place_changes w (after w (event.Stop v)) (unwrap_or (asked_at w v) 0) (with_stop (cub_at w (unwrap_or (asked_at w v) 0)) v) v refl refl there
    (either w.ring (cub_at w (unwrap_or (asked_at w v) 0)) v state.Stopped (counts (find (is_of v) (cub_at w (unwrap_or (asked_at w v) 0)).own))
    (λ e. counts_some (find (is_of v) (cub_at w (unwrap_or (asked_at w v) 0)).own) e))
event_changes w (event.Renew c) h can none =
    let there = subst (λ (n : ℕ). c.0 < n) (sym h.count) can in
    ring_changes w (after w (event.Renew c)) c.0 (cub_at w c.0) None None refl refl there (unchanged w.ring (cub_at w c.0).own None)
event_changes w (event.Deliver n) h can none =
    let p = sent_some (slice_get w.sent n) none in
    let there = subst (λ (m : ℕ). (goal_of p.0).0 < m) (sym h.count) (can_take w n p.0 h p.1).0 in
    subst (λ (q : Option Packet). Changes w (came w n q) (placed_at w (place_for q)) (placed_at (came w n q) (place_for q))) (sym p.1)
    (packet_changes w n p.0 there)
