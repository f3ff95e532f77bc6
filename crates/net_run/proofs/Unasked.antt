-- An instance that was not asked for is not, but by its own ask.
use Rattle.std.proofs.Common.{◌≡◌, ◌∙◌, ℕ, ◌/◌, ◌<◌, ◌||◌, ◌==◌, Bool, true, false, cond, List, [], ◌∷◌, length, nat_lt, Some, None, Option, refl, sym, ap, subst}
use Rattle.std.proofs.Math.ListN.{set}
use Rattle.std.specs.Prelude.{find, slice_get, unwrap_or}
use Rattle.std.specs.List.{range_with_len}
use Rattle.std.proofs.lemmas.Bool.{eqb-true}
use Rattle.std.proofs.lemmas.List.{get_or-set_same, get_or-set_other}
use Rattle.tiger_base.specs.declared.number.Instance.{Instance}
use Rattle.net_schedule.specs.declared.ring.NetRing.{NetRing}
use Rattle.net_schedule.specs.declared.ring.NetState.{NetState}
use Rattle.net_schedule.specs.declared.ring.NetState.TheVariants as state
use Rattle.net_schedule.specs.declared.ring.Own.{Own}
use Rattle.net_schedule.specs.declared.packet.Packet.{Packet}
use Rattle.net_schedule.specs.declared.packet.Packet.TheVariants as packet
use Rattle.net_schedule.specs.declared.world.NetEvent.{NetEvent}
use Rattle.net_schedule.specs.declared.world.NetEvent.TheVariants as event
use Rattle.net_schedule.specs.Cubs.{CubState, fresh_cub, is_of, is_asked, number_of, put_in, with_state, counts, waits, reserved, confirmed, refused, released, with_ask, with_stop, in_state, asked_entry}
use Rattle.net_schedule.specs.Worlds.{WorldState, cub_at, after, goal_of, asked_at, fault_of, IsPossible}
use Rattle.net_schedule.specs.Links.{IsWorld}
use Rattle.net_schedule.proofs.Places.{differ}
use Rattle.net_schedule.proofs.Worldly.{can_take, ask_low, asked_low}
use Rattle.net_run.specs.Sent.{is_ask_of, StaysUnasked}
use Rattle.net_run.proofs.Sums.{came, sent_some, reserved_own}

asked_state : (u v : Instance) (x : NetState) (own : List Own) → is_asked (with_state v x own) u ≡ is_asked own u
asked_state u v x [] = refl
asked_state u v x (y ∷ ys) = cases (is_of v y) (asked_state u v x ys)
  where
    cases : (b : Bool) → is_asked (with_state v x ys) u ≡ is_asked ys u → is_asked (cond b (record y { state = x } ∷ ys) (y ∷ with_state v x ys)) u ≡ is_asked (y ∷ ys) u
    cases true ih = refl
    cases false ih = ap (λ (b : Bool). is_of u y || b) ih

asked_put : (u : Instance) (o : Own) (own : List Own) → is_of u o ≡ false → is_asked (put_in number_of o own) u ≡ is_asked own u
asked_put u o [] other = rw other refl
asked_put u o (y ∷ ys) other = cases (nat_lt (number_of o) (number_of y)) (asked_put u o ys other)
  where
    cases : (b : Bool) → is_asked (put_in number_of o ys) u ≡ is_asked ys u → is_asked (cond b (o ∷ y ∷ ys) (y ∷ put_in number_of o ys)) u ≡ is_asked (y ∷ ys) u
    cases true ih = rw other refl
    cases false ih = ap (λ (b : Bool). is_of u y || b) ih

asked_either : (u : Instance) (s : CubState) (v : Instance) (x : NetState) (b : Bool) → is_asked (cond b (in_state s v x) s).own u ≡ is_asked s.own u
asked_either u s v x true = asked_state u v x s.own
asked_either u s v x false = refl

find_same : (p q : ℕ → Bool) (xs : List ℕ) → ((k : ℕ) → p k ≡ q k) → find p xs ≡ find q xs
find_same p q [] h = refl
find_same p q (x ∷ xs) h = rw (h x, find_same p q xs h) refl

-- one cub changes, and is asked for the same instance or not
asked_ring : (w v : WorldState) (c : ℕ) (s : CubState) (u : Instance) → v.ring ≡ w.ring → v.cubs ≡ set w.cubs c s → c < length w.cubs
    → is_asked s.own u ≡ is_asked (cub_at w c).own u → asked_at v u ≡ asked_at w u
asked_ring w v c s u er ec low same =
    ap (λ (r : NetRing). find (λ k. is_asked (cub_at v k).own u) (range_with_len 0 r.cubs)) er
    ∙ find_same (λ k. is_asked (cub_at v k).own u) (λ k. is_asked (cub_at w k).own u) (range_with_len 0 w.ring.cubs) each
  where
    here : cub_at v c ≡ s
    here = rw (er, ec) (get_or-set_same w.cubs c s (fresh_cub w.ring 0) low)

    each : (k : ℕ) → is_asked (cub_at v k).own u ≡ is_asked (cub_at w k).own u
    each k = cases (k == c) refl
      where
        cases : (b : Bool) → (k == c) ≡ b → is_asked (cub_at v k).own u ≡ is_asked (cub_at w k).own u
        cases true e =
            let is : k ≡ c = eqb-true k c e in
            subst (λ (n : ℕ). is_asked (cub_at v n).own u ≡ is_asked (cub_at w n).own u) (sym is) (ap (λ (y : CubState). is_asked y.own u) here ∙ same)
        cases false e =
            let other : cub_at v k ≡ cub_at w k = rw (er, ec) (get_or-set_other w.cubs c k s (fresh_cub w.ring 0) (differ k c e)) in
            ap (λ (y : CubState). is_asked y.own u) other

packet_stays : (w : WorldState) (n : ℕ) (p : Packet) (u : Instance) → (goal_of p).0 < length w.cubs → asked_at (came w n (Some p)) u ≡ asked_at w u
packet_stays w n (packet.Reserve v at rate to) u low =
    asked_ring w (came w n (Some (packet.Reserve v at rate to))) to.0 (reserved (cub_at w to.0) (record { instance = v; at = at; rate = rate })) u refl refl low
    (ap (λ (own : List Own). is_asked own u) (reserved_own (cub_at w to.0) (record { instance = v; at = at; rate = rate })))
packet_stays w n (packet.Confirm v to) u low =
    asked_ring w (came w n (Some (packet.Confirm v to))) to.0 (confirmed (cub_at w to.0) v) u refl refl low
    (asked_either u (cub_at w to.0) v state.Placed (waits (find (is_of v) (cub_at w to.0).own)))
packet_stays w n (packet.Refuse v quantum sum to) u low =
    asked_ring w (came w n (Some (packet.Refuse v quantum sum to))) to.0 (refused (cub_at w to.0) v (state.Refused quantum sum)) u refl refl low
    (asked_either u (cub_at w to.0) v (state.Refused quantum sum) (waits (find (is_of v) (cub_at w to.0).own)))
packet_stays w n (packet.Release v to) u low =
    asked_ring w (came w n (Some (packet.Release v to))) to.0 (released (cub_at w to.0) v) u refl refl low refl

-- only its own ask changes which cub was asked for an instance
pub asked_stays : (w : WorldState) (e : NetEvent) → IsWorld w → IsPossible w.ring e → fault_of w e ≡ None → (u : Instance) → is_ask_of u e ≡ false → asked_at (after w e) u ≡ asked_at w u
asked_stays w (event.Ask v at rate) h can none u other =
    asked_ring w (after w (event.Ask v at rate)) (at / w.ring.quanta) (with_ask (cub_at w (at / w.ring.quanta)) v at rate) u refl refl
    (subst (λ (n : ℕ). at / w.ring.quanta < n) (sym h.count) (ask_low w at h can.0).0)
    (asked_put u (asked_entry (cub_at w (at / w.ring.quanta)) v at rate) (cub_at w (at / w.ring.quanta)).own other)
asked_stays w (event.Stop v) h can none u other =
    asked_ring w (after w (event.Stop v)) (unwrap_or (asked_at w v) 0) (with_stop (cub_at w (unwrap_or (asked_at w v) 0)) v) u refl refl
    (subst (λ (n : ℕ). unwrap_or (asked_at w v) 0 < n) (sym h.count) (asked_low w v h))
    (asked_either u (cub_at w (unwrap_or (asked_at w v) 0)) v state.Stopped (counts (find (is_of v) (cub_at w (unwrap_or (asked_at w v) 0)).own)))
asked_stays w (event.Renew c) h can none u other =
    asked_ring w (after w (event.Renew c)) c.0 (cub_at w c.0) u refl refl (subst (λ (n : ℕ). c.0 < n) (sym h.count) can) refl
asked_stays w (event.Deliver n) h can none u other =
    let p = sent_some (slice_get w.sent n) none in
    let there = subst (λ (m : ℕ). (goal_of p.0).0 < m) (sym h.count) (can_take w n p.0 h p.1).0 in
    subst (λ (q : Option Packet). asked_at (came w n q) u ≡ asked_at w u) (sym p.1) (packet_stays w n p.0 u there)

pub unasked_stays : (w : WorldState) (e : NetEvent) → IsWorld w → IsPossible w.ring e → fault_of w e ≡ None → StaysUnasked e w (after w e)
unasked_stays w e h can none u other un = asked_stays w e h can none u other ∙ un
