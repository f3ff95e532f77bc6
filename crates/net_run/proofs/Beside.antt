-- A run that passes renewals over tells the same as the run of the plan: the law of each step.
use Rattle.std.proofs.Common.{◌≡◌, ◌∙◌, ℕ, zero, suc, ◌+◌, ◌-◌, ◌/◌, ◌<◌, ◌≤◌, ◌&&◌, ◌||◌, ◌==◌, Bool, true, false, not, cond, List, [], ◌∷◌, ◌++◌, length, map, take, drop, Some, None, Option, refl, sym, ap, subst, arith}
use Rattle.std.specs.Prelude.{slice_get, slice_set, filter, unwrap_or}
use Rattle.std.specs.List.{fold, range_with_len, list_any, AllByRecursion}
use Rattle.std.proofs.lemmas.Bool.{eqb-true, leb-true}
use Rattle.std.proofs.lemmas.List.{map-append, append-nil, length-map, set-get_or}
use Rattle.tiger_base.specs.declared.number.Instance.{Instance}
use Rattle.net_schedule.specs.declared.ring.NetRing.{NetRing}
use Rattle.net_schedule.specs.declared.ring.Entry.{Entry}
use Rattle.net_schedule.specs.declared.ring.Own.{Own}
use Rattle.net_schedule.specs.declared.packet.Packet.{Packet}
use Rattle.net_schedule.specs.declared.world.NetEvent.{NetEvent}
use Rattle.net_schedule.specs.declared.world.NetEvent.TheVariants as event
use Rattle.net_schedule.specs.Rings.{IsRing}
use Rattle.net_schedule.specs.Cubs.{CubState, fresh_cub, is_waiting, reserve_of, confirm_of, confirming, renewing}
use Rattle.net_schedule.specs.Worlds.{WorldState, fresh_world, cub_at, after, asked_at, actor_of, turn_of, turned, telling, goal_of_sent, taking_turn, fault_of, IsPossible}
use Rattle.net_schedule.specs.Links.{IsWorld}
use Rattle.net_schedule.proofs.Capacity.{capacity}
use Rattle.net_schedule.proofs.Worldly.{fresh_is_world}
use Rattle.net_read.specs.declared.plan.NetOrder.{NetOrder}
use Rattle.net_read.specs.declared.plan.NetOrder.TheVariants as order
use Rattle.net_read.specs.Orders.{step_of, asks_of, AreOrdersFrom}
use Rattle.net_read.specs.Plans.{NetSaid}
use Rattle.net_run.specs.Peaks.{peak_after, AlwaysKeeps}
use Rattle.net_run.specs.Runs.{Running, done, came, fated, drawn, draw_of, taking_first, delivered, looked, happened, renewed, renewals, is_renewal, event_of, is_in, ordered, stepped, standings, begun, run_to}
use Rattle.net_run.specs.Sent.{AreBelow, WereSent, OnlyBelow, IsAtStep}
use Rattle.net_run.specs.Shortened.{has_enough, is_quiet, renewed_by, renewed_in, shortly_renewed, shortly_stepped}
use Rattle.net_run.proofs.Asked.{WasAsked, asks_by, asks_behind, asks_in, asks_to, asks_more, all_asked}
use Rattle.net_run.proofs.Fronts.{same_more, not_more, same_fewer}
use Rattle.net_run.proofs.Packets.{packets_of, each_sent, sent_by, out_done, sent_done, below_append}
use Rattle.net_run.proofs.Ranges.{there, run_first, run_more}
use Rattle.net_run.proofs.Scenes.{always_first, always_next}
use Rattle.net_run.proofs.Steps.{head, fresh_behind, none_from, raised, happened_ring}
use Rattle.net_run.proofs.Turned.{world_next}
use Rattle.net_run.proofs.Unasked.{unasked_stays}

-- Beside the run r of a plan the run s passes renewals over, and so many steps are left: their cubs, peaks and
-- generators are the same, and so are the first packets that are under way, one for each step that is left. And these
-- instances were asked for.
pub record IsBeside (left : ℕ) (vs : List Instance) (r s : Running) : Type 0 where
  pub ring : s.scene.world.ring ≡ r.scene.world.ring
  pub cubs : s.scene.world.cubs ≡ r.scene.world.cubs
  pub peak : s.scene.peak ≡ r.scene.peak
  pub draws : s.draws ≡ r.draws
  pub out : take left (packets_of s) ≡ take left (packets_of r)
  pub sent : WereSent r.scene.world r.out
  pub shortly : WereSent s.scene.world s.out
  pub world : IsWorld r.scene.world
  pub always : AlwaysKeeps r.scene.world
  pub asked : AllByRecursion (WasAsked r.scene.world) vs

-- ---- what the same cubs tell

same_but : (w v : WorldState) → v.ring ≡ w.ring → v.cubs ≡ w.cubs → v ≡ record { ring = w.ring; cubs = w.cubs; sent = v.sent; events = v.events }
same_but w v er ec =
    ap (λ (r : NetRing). record { ring = r; cubs = v.cubs; sent = v.sent; events = v.events }) er
    ∙ ap (λ (cs : List CubState). record { ring = w.ring; cubs = cs; sent = v.sent; events = v.events }) ec

asked_same : (w v : WorldState) (u : Instance) → v.ring ≡ w.ring → v.cubs ≡ w.cubs → asked_at v u ≡ asked_at w u
asked_same w v u er ec = ap (λ (y : WorldState). asked_at y u) (same_but w v er ec)

cub_same : (w v : WorldState) (c : ℕ) → v.ring ≡ w.ring → v.cubs ≡ w.cubs → cub_at v c ≡ cub_at w c
cub_same w v c er ec = ap (λ (y : WorldState). cub_at y c) (same_but w v er ec)

pub standings_same : (orders : List NetOrder) (w v : WorldState) → v.ring ≡ w.ring → v.cubs ≡ w.cubs → standings orders v ≡ standings orders w
standings_same orders w v er ec = ap (λ (y : WorldState). standings orders y) (same_but w v er ec)

turned_same : (w v : WorldState) (e f : NetEvent) → v.ring ≡ w.ring → v.cubs ≡ w.cubs → actor_of v f ≡ actor_of w e → turn_of v f ≡ turn_of w e → (after v f).cubs ≡ (after w e).cubs
turned_same w v e f er ec ea et =
    ap (λ (y : WorldState). slice_set y.cubs (actor_of v f) (turned (cub_at y (actor_of v f)) (turn_of v f))) (same_but w v er ec)
    ∙ ap (λ (c : ℕ). slice_set w.cubs c (turned (cub_at w c) (turn_of v f))) ea ∙ ap (λ x. slice_set w.cubs (actor_of w e) (turned (cub_at w (actor_of w e)) x)) et

telling_same : (w v : WorldState) (e f : NetEvent) → v.ring ≡ w.ring → v.cubs ≡ w.cubs → actor_of v f ≡ actor_of w e → turn_of v f ≡ turn_of w e
    → telling (cub_at v (actor_of v f)) (turn_of v f) ≡ telling (cub_at w (actor_of w e)) (turn_of w e)
telling_same w v e f er ec ea et =
    ap (λ (y : WorldState). telling (cub_at y (actor_of v f)) (turn_of v f)) (same_but w v er ec) ∙ ap (λ (c : ℕ). telling (cub_at w c) (turn_of v f)) ea
    ∙ ap (λ x. telling (cub_at w (actor_of w e)) x) et

-- ---- an event in both

done_beside : (left : ℕ) (vs : List Instance) (r s : Running) (e f : NetEvent) → IsBeside left vs r s → IsPossible r.scene.world.ring e → fault_of r.scene.world e ≡ None
    → actor_of s.scene.world f ≡ actor_of r.scene.world e → turn_of s.scene.world f ≡ turn_of r.scene.world e → IsBeside left (asks_by e vs) (done r e) (done s f)
done_beside left vs r s e f h can none ea et =
    let next = world_next r.scene.world e h.world can none in
    let told : sent_by s f ≡ sent_by r e
    = telling_same r.scene.world s.scene.world e f h.ring h.cubs ea et in
    record {
      ring = h.ring;
      cubs = turned_same r.scene.world s.scene.world e f h.ring h.cubs ea et;
      peak = h.peak;
      draws = h.draws;
      out = ap (take left) (out_done s f h.shortly) ∙ ap (λ (more : List Packet). take left (packets_of s ++ each_sent more)) told
          ∙ same_more left (packets_of s) (packets_of r) (each_sent (sent_by r e)) h.out ∙ sym (ap (take left) (out_done r e h.sent));
      sent = sent_done r e h.sent;
      shortly = sent_done s f h.shortly;
      world = next;
      always = always_next r.scene.world e next.made (capacity (after r.scene.world e) next) h.always;
      asked = all_asked r.scene.world e vs h.world can none h.asked;
    }

-- ---- the orders of a step

order_actor : (w v : WorldState) (o : NetOrder) → v.ring ≡ w.ring → v.cubs ≡ w.cubs → actor_of v (event_of o) ≡ actor_of w (event_of o)
order_actor w v (order.Ask step entry) er ec = ap (λ (r : NetRing). entry.at / r.quanta) er
order_actor w v (order.Stop step u) er ec = ap (λ (c : Option ℕ). unwrap_or c 0) (asked_same w v u er ec)

order_turn : (w v : WorldState) (o : NetOrder) → turn_of v (event_of o) ≡ turn_of w (event_of o)
order_turn w v (order.Ask step entry) = refl
order_turn w v (order.Stop step u) = refl

orders_beside : (left n step asks : ℕ) (vs : List Instance) (os : List NetOrder) (r s : Running) → IsBeside left vs r s → AreOrdersFrom r.scene.world.ring n step asks os → OnlyBelow r.scene.world asks
    → IsBeside left (asks_behind (ordered os step) vs) (happened r (ordered os step)) (happened s (ordered os step))
orders_beside left n step asks vs [] r s h each new = h
orders_beside left n step asks vs (o ∷ os) r s h each new =
    cases (is_in step o) refl (λ b at may fresh. orders_beside left n step (asks + asks_of o) (asks_by (event_of o) vs) os (done r (event_of o)) (done s (event_of o)) b may fresh)
  where
    cases : (b : Bool) → is_in step o ≡ b
        → (IsBeside left (asks_by (event_of o) vs) (done r (event_of o)) (done s (event_of o)) → step_of o ≡ step → AreOrdersFrom r.scene.world.ring n step (asks + asks_of o) os
        → OnlyBelow (after r.scene.world (event_of o)) (asks + asks_of o)
        → IsBeside left (asks_behind (ordered os step) (asks_by (event_of o) vs)) (happened (done r (event_of o)) (ordered os step)) (happened (done s (event_of o)) (ordered os step)))
        → IsBeside left (asks_behind (ordered (o ∷ os) step) vs) (happened r (ordered (o ∷ os) step)) (happened s (ordered (o ∷ os) step))
    cases true is ih =
        let at : step_of o ≡ step = eqb-true (step_of o) step is in
        let can = head r.scene.world n step asks o each.0 new in
        let both = done_beside left vs r s (event_of o) (event_of o) h can.0 can.1 (order_actor r.scene.world s.scene.world o h.ring h.cubs) (order_turn r.scene.world s.scene.world o) in
        let may = subst (λ (i : ℕ). AreOrdersFrom r.scene.world.ring n i (asks + asks_of o) os) at each.1 in
        let fresh = fresh_behind r.scene.world (after r.scene.world (event_of o)) n step asks o each.0 (unasked_stays r.scene.world (event_of o) h.world can.0 can.1) new in
        let first : ordered (o ∷ os) step ≡ event_of o ∷ ordered os step = rw is refl in
        subst (λ (es : List NetEvent). IsBeside left (asks_behind es vs) (happened r es) (happened s es)) (sym first) (ih both at may fresh)
    cases false is ih =
        let none : ordered (o ∷ os) step ≡ [] = none_from r.scene.world.ring n step asks (o ∷ os) (raised r.scene.world.ring n step asks (o ∷ os) 0 (rw is refl) each) in
        subst (λ (es : List NetEvent). IsBeside left (asks_behind es vs) (happened r es) (happened s es)) (sym none) h

-- ---- the renewals

none_waits : (own : List Own) → not (list_any (λ o. is_waiting o.state) own) ≡ true → filter (λ o. is_waiting o.state) own ≡ []
none_waits [] e = refl
none_waits (o ∷ os) e = cases (is_waiting o.state) e (none_waits os)
  where
    cases : (b : Bool) → not (b || list_any (λ o. is_waiting o.state) os) ≡ true → (not (list_any (λ o. is_waiting o.state) os) ≡ true → filter (λ o. is_waiting o.state) os ≡ [])
        → cond b (o ∷ filter (λ o. is_waiting o.state) os) (filter (λ o. is_waiting o.state) os) ≡ []
    cases true g ih = absurd (cc)
    cases false g ih = ih g

no_entries : (kept : List Entry) → (length kept == 0) ≡ true → kept ≡ []
no_entries [] e = refl
no_entries (x ∷ xs) e = absurd (omega (arith, eqb-true (length (x ∷ xs)) 0 e))

both_true : (a b : Bool) → (a && b) ≡ true → (a ≡ true) × (b ≡ true)
both_true true true e = (refl, refl)
both_true true false e = absurd (cc)
both_true false b e = absurd (cc)

quiet_sends : (s : CubState) → is_quiet s ≡ true → renewing s ≡ []
quiet_sends s e =
    let b = both_true (length s.kept == 0) (not (list_any (λ o. is_waiting o.state) s.own)) e in
    ap (λ (xs : List Own). map (λ (o : Own). reserve_of s o.entry) xs ++ confirming s) (none_waits s.own b.1)
    ∙ ap (λ (xs : List Entry). map (λ (x : Entry). confirm_of s x.instance) xs) (no_entries s.kept b.0)

-- a renewal is passed over
passed_beside : (left : ℕ) (vs : List Instance) (r s : Running) (c : ℕ) → IsBeside left vs r s → c < r.scene.world.ring.cubs
    → take left (packets_of r ++ each_sent (renewing (cub_at r.scene.world c))) ≡ take left (packets_of r) → IsBeside left vs (done r (event.Renew (record { 0 = c }))) s
passed_beside left vs r s c h low idle =
    let next = world_next r.scene.world (event.Renew (record { 0 = c })) h.world low refl in
    record {
      ring = h.ring;
      cubs = h.cubs ∙ sym (set-get_or r.scene.world.cubs c (fresh_cub r.scene.world.ring 0));
      peak = h.peak;
      draws = h.draws;
      out = h.out ∙ sym (ap (take left) (out_done r (event.Renew (record { 0 = c })) h.sent) ∙ idle);
      sent = sent_done r (event.Renew (record { 0 = c })) h.sent;
      shortly = h.shortly;
      world = next;
      always = always_next r.scene.world (event.Renew (record { 0 = c })) next.made (capacity (after r.scene.world (event.Renew (record { 0 = c }))) next) h.always;
      asked = all_asked r.scene.world (event.Renew (record { 0 = c })) vs h.world low refl h.asked;
    }

one_beside : (left : ℕ) (vs : List Instance) (r s : Running) (c : ℕ) → IsBeside left vs r s → c < r.scene.world.ring.cubs → IsBeside left vs (done r (event.Renew (record { 0 = c }))) (renewed_by left s c)
one_beside left vs r s c h low = cases (has_enough left s) (is_quiet (cub_at s.scene.world c)) refl refl
  where
    cases : (a b : Bool) → has_enough left s ≡ a → is_quiet (cub_at s.scene.world c) ≡ b
        → IsBeside left vs (done r (event.Renew (record { 0 = c }))) (cond (a || b) s (done s (event.Renew (record { 0 = c }))))
    cases true b ea eb =
        let much : left ≤ length s.out = leb-true left (length s.out) ea in
        passed_beside left vs r s c h low
        (not_more left (packets_of r) (packets_of s) (each_sent (renewing (cub_at r.scene.world c))) (omega (arith, much, length-map s.out (slice_get s.scene.world.sent))) h.out)
    cases false true ea eb =
        let same = cub_same r.scene.world s.scene.world c h.ring h.cubs in
        let none = quiet_sends (cub_at r.scene.world c) (subst (λ (x : CubState). is_quiet x ≡ true) same eb) in
        passed_beside left vs r s c h low
        (ap (λ (more : List Packet). take left (packets_of r ++ each_sent more)) none ∙ ap (take left) (append-nil (packets_of r)))
    cases false false ea eb = done_beside left vs r s (event.Renew (record { 0 = c })) (event.Renew (record { 0 = c })) h low refl refl refl

renewals_beside : (left : ℕ) (vs : List Instance) (cs : List ℕ) (r s : Running) → IsBeside left vs r s → AllByRecursion (λ c. c < r.scene.world.ring.cubs) cs
    → IsBeside left vs (happened r (map (λ c. event.Renew (record { 0 = c })) cs)) (fold (renewed_by left) s cs)
renewals_beside left vs [] r s h low = h
renewals_beside left vs (c ∷ cs) r s h low = renewals_beside left vs cs (done r (event.Renew (record { 0 = c }))) (renewed_by left s c) (one_beside left vs r s c h low.0) low.1

-- ---- a delivery

sent_there : (w : WorldState) (n : ℕ) → n < length w.sent → fault_of w (event.Deliver n) ≡ None
sent_there w n low = rw (there w.sent n low) refl

came_beside : (left : ℕ) (vs : List Instance) (r s : Running) (n m : ℕ) → IsBeside left vs r s → n < length r.scene.world.sent → slice_get s.scene.world.sent m ≡ slice_get r.scene.world.sent n
    → IsBeside left vs (came r n) (came s m)
came_beside left vs r s n m h low same =
    done_beside left vs r s (event.Deliver n) (event.Deliver m) h tt (sent_there r.scene.world n low) (ap goal_of_sent same) (ap taking_turn same)

-- a packet that stays under way goes to the end
again_beside : (left : ℕ) (vs : List Instance) (r s : Running) (n m : ℕ) → IsBeside left vs r s → n < length r.scene.world.sent → m < length s.scene.world.sent
    → slice_get s.scene.world.sent m ≡ slice_get r.scene.world.sent n → IsBeside left vs (record r { out = r.out ++ n ∷ [] }) (record s { out = s.out ++ m ∷ [] })
again_beside left vs r s n m h low less same = record {
  ring = h.ring;
  cubs = h.cubs;
  peak = h.peak;
  draws = h.draws;
  out = ap (take left) (map-append (slice_get s.scene.world.sent) s.out (m ∷ []))
      ∙ ap (λ (o : Option Packet). take left (packets_of s ++ o ∷ [])) same
      ∙ same_more left (packets_of s) (packets_of r) (slice_get r.scene.world.sent n ∷ []) h.out
      ∙ sym (ap (take left) (map-append (slice_get r.scene.world.sent) r.out (n ∷ [])));
  sent = below_append (length r.scene.world.sent) r.out (n ∷ []) h.sent (low, tt);
  shortly = below_append (length s.scene.world.sent) s.out (m ∷ []) h.shortly (less, tt);
  world = h.world;
  always = h.always;
  asked = h.asked;
}

fated_beside : (left : ℕ) (vs : List Instance) (r s : Running) (n m : ℕ) (d : Option ℕ) → IsBeside left vs r s → n < length r.scene.world.sent → m < length s.scene.world.sent
    → slice_get s.scene.world.sent m ≡ slice_get r.scene.world.sent n → IsBeside left vs (fated r n d) (fated s m d)
fated_beside left vs r s n m None h low less same = came_beside left vs r s n m h low same
fated_beside left vs r s n m (Some d) h low less same = cases (d == 0) (d == 1)
  where
    cases : (a b : Bool) → IsBeside left vs (cond a r (cond b (came (record r { out = r.out ++ n ∷ [] }) n) (came r n))) (cond a s (cond b (came (record s { out = s.out ++ m ∷ [] }) m) (came s m)))
    cases true b = h
    cases false true = came_beside left vs (record r { out = r.out ++ n ∷ [] }) (record s { out = s.out ++ m ∷ [] }) n m (again_beside left vs r s n m h low less same) low same
    cases false false = came_beside left vs r s n m h low same

delivered_beside : (left : ℕ) (vs : List Instance) (r s : Running) → IsBeside (suc left) vs r s → IsBeside left vs (delivered r) (delivered s)
delivered_beside left vs r s h = firsts r.out s.out h.out h.sent h.shortly (same_fewer left (packets_of s) (packets_of r) h.out)
  where
    firsts : (ro so : List ℕ) → take (suc left) (map (slice_get s.scene.world.sent) so) ≡ take (suc left) (map (slice_get r.scene.world.sent) ro)
        → AreBelow (length r.scene.world.sent) ro → AreBelow (length s.scene.world.sent) so → take left (packets_of s) ≡ take left (packets_of r)
        → IsBeside left vs (taking_first r ro) (taking_first s so)
    firsts [] [] e low less fewer = record {
      ring = h.ring;
      cubs = h.cubs;
      peak = h.peak;
      draws = h.draws;
      out = fewer;
      sent = h.sent;
      shortly = h.shortly;
      world = h.world;
      always = h.always;
      asked = h.asked;
    }
    firsts [] (m ∷ ms) e low less fewer = absurd (cc)
    firsts (n ∷ ns) [] e low less fewer = absurd (cc)
    firsts (n ∷ ns) (m ∷ ms) e low less fewer =
        let same : slice_get s.scene.world.sent m ≡ slice_get r.scene.world.sent n = cc in
        let rest : take left (map (slice_get s.scene.world.sent) ms) ≡ take left (map (slice_get r.scene.world.sent) ns) = cc in
        let taken : IsBeside left vs (record r { out = ns; draws = drawn r.draws }) (record s { out = ms; draws = drawn s.draws }) = record {
          ring = h.ring;
          cubs = h.cubs;
          peak = h.peak;
          draws = ap drawn h.draws;
          out = rest;
          sent = low.1;
          shortly = less.1;
          world = h.world;
          always = h.always;
          asked = h.asked;
        } in
        subst (λ (d : Option ℕ). IsBeside left vs (fated (record r { out = ns; draws = drawn r.draws }) n (draw_of r.draws)) (fated (record s { out = ms; draws = drawn s.draws }) m d))
        (sym (ap draw_of h.draws))
        (fated_beside left vs (record r { out = ns; draws = drawn r.draws }) (record s { out = ms; draws = drawn s.draws }) n m (draw_of r.draws) taken low.0 less.0 same)

-- ---- the steps

looked_beside : (left : ℕ) (vs : List Instance) (r s : Running) → IsBeside left vs r s → IsBeside left vs (looked r) (looked s)
looked_beside left vs r s h = record {
  ring = h.ring;
  cubs = h.cubs;
  peak = ap (λ (y : WorldState). peak_after s.scene.peak y) (same_but r.scene.world s.scene.world h.ring h.cubs) ∙ ap (λ p. peak_after p r.scene.world) h.peak;
  draws = h.draws;
  out = h.out;
  sent = h.sent;
  shortly = h.shortly;
  world = h.world;
  always = h.always;
  asked = h.asked;
}

low_range : (a n m : ℕ) → a + n ≤ m → AllByRecursion (λ c. c < m) (range_with_len a n)
low_range a zero m le = tt
low_range a (suc n) m le = (omega (arith, le), low_range (a + 1) n m (omega (arith, le)))

renewed_beside : (p : NetSaid) (vs : List Instance) (r s : Running) (i : ℕ) → IsBeside (p.steps - i) vs r s → r.scene.world.ring ≡ p.ring → IsBeside (p.steps - i) vs (renewed p r i) (shortly_renewed p s i)
renewed_beside p vs r s i h ring = cases (is_renewal p.renew i)
  where
    cases : (b : Bool) → IsBeside (p.steps - i) vs (cond b (happened r (renewals p.ring.cubs)) r) (cond b (renewed_in (p.steps - i) s p.ring.cubs) s)
    cases true = renewals_beside (p.steps - i) vs (range_with_len 0 p.ring.cubs) r s h
        (low_range 0 p.ring.cubs r.scene.world.ring.cubs (subst (λ (y : NetRing). 0 + p.ring.cubs ≤ y.cubs) (sym ring) (omega arith)))
    cases false = h

-- the place of the next order is the same in both
at_beside : (left : ℕ) (vs : List Instance) (r s : Running) (orders : List NetOrder) (i first : ℕ) → IsBeside left vs r s → IsAtStep s.scene.world orders i first → IsAtStep r.scene.world orders i first
at_beside left vs r s orders i first h at = record {
  rest = at.rest;
  steps = at.steps;
  asks = at.asks;
  possible = subst (λ (y : NetRing). AreOrdersFrom y at.steps i at.asks (drop first orders)) h.ring at.possible;
  new = λ v low. sym (asked_same r.scene.world s.scene.world v h.ring h.cubs) ∙ at.new v low;
}

pub stepped_beside : (p : NetSaid) (vs : List Instance) (r s : Running) (i first : ℕ) → i < p.steps → IsBeside (p.steps - i) vs r s → s.scene.world.ring ≡ p.ring → IsAtStep s.scene.world p.orders i first
    → IsBeside (p.steps - (i + 1)) (asks_in p.orders vs i) (stepped p r i) (shortly_stepped p s i)
stepped_beside p vs r s i first low h ring at =
    let here = at_beside (p.steps - i) vs r s p.orders i first h at in
    let bound : i ≤ i = omega arith in
    let did = subst (λ (es : List NetEvent). IsBeside (p.steps - i) (asks_behind es vs) (happened r es) (happened s es)) (here.rest i bound)
    (orders_beside (p.steps - i) here.steps i here.asks vs (drop first p.orders) r s h here.possible here.new) in
    let again = renewed_beside p (asks_in p.orders vs i) (happened r (ordered p.orders i)) (happened s (ordered p.orders i)) i did (happened_ring r (ordered p.orders i) ∙ sym h.ring ∙ ring) in
    let count : p.steps - i ≡ suc (p.steps - (i + 1)) = omega (arith, low) in
    looked_beside (p.steps - (i + 1)) (asks_in p.orders vs i) (delivered (renewed p (happened r (ordered p.orders i)) i)) (delivered (shortly_renewed p (happened s (ordered p.orders i)) i))
    (delivered_beside (p.steps - (i + 1)) (asks_in p.orders vs i) (renewed p (happened r (ordered p.orders i)) i) (shortly_renewed p (happened s (ordered p.orders i)) i)
    (subst (λ (n : ℕ). IsBeside n (asks_in p.orders vs i) (renewed p (happened r (ordered p.orders i)) i) (shortly_renewed p (happened s (ordered p.orders i)) i)) count again))

pub first_beside : (p : NetSaid) (s : Running) → IsRing p.ring → s ≡ begun p → IsBeside (p.steps - 0) (asks_to p.orders 0) (run_to p 0) s
first_beside p s ring e =
    subst (λ (x : Running). IsBeside (p.steps - 0) (asks_to p.orders 0) x s) (run_first p (begun p) refl) (subst (λ (x : Running). IsBeside (p.steps - 0) (asks_to p.orders 0) (begun p) x) (sym e) (record {
      ring = refl;
      cubs = refl;
      peak = refl;
      draws = refl;
      out = refl;
      sent = tt;
      shortly = tt;
      world = fresh_is_world p.ring ring;
      asked = tt;
      always = always_first p.ring (fresh_is_world p.ring ring).made (capacity (fresh_world p.ring) (fresh_is_world p.ring ring));
    }))

pub next_beside : (p : NetSaid) (s new : Running) (i first : ℕ) → i < p.steps → IsBeside (p.steps - i) (asks_to p.orders i) (run_to p i) s → s.scene.world.ring ≡ p.ring → IsAtStep s.scene.world p.orders i first
    → new ≡ shortly_stepped p s i → IsBeside (p.steps - (i + 1)) (asks_to p.orders (i + 1)) (run_to p (i + 1)) new
next_beside p s new i first low h ring at e =
    subst (λ (vs : List Instance). IsBeside (p.steps - (i + 1)) vs (run_to p (i + 1)) new) (asks_more p.orders i)
    (subst (λ (x : Running). IsBeside (p.steps - (i + 1)) (asks_in p.orders (asks_to p.orders i) i) x new) (run_more p (run_to p i) i refl)
    (subst (λ (x : Running). IsBeside (p.steps - (i + 1)) (asks_in p.orders (asks_to p.orders i) i) (stepped p (run_to p i) i) x) (sym e)
    (stepped_beside p (asks_to p.orders i) (run_to p i) s i first low h ring at)))
