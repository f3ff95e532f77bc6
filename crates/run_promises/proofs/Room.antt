-- Fewer others than slots leave a slot; and who is put has its first block due soon.
use Rattle.std.proofs.Common.{◌≡◌, ◌≢◌, ℕ, zero, suc, ◌+◌, ◌<◌, ◌≤◌, true, false, List, [], ◌∷◌, ◌++◌, length, Some, refl, sym, ap, subst, ◌∙◌, arith, ⊎_elim}
use Rattle.std.proofs.lemmas.Bool.{true≢false}
use Rattle.tiger_base.specs.declared.tenancy.Tenancy.{Tenancy}
use Rattle.slot_plan.proofs.Times.{time_mono, window_parts}
use Rattle.node_kit.specs.declared.course.Kept.{Kept}
use Rattle.run_facts.specs.Commanded.{stop_ordered}
use Rattle.run_facts.specs.Order.{beat_of}
use Rattle.run_facts.specs.Timed.{IsRead}
use Rattle.run_model.specs.Moments.{view_of}
use Rattle.run_model.specs.Orders.{IsRecentStop, IsOfRecentlyStopped}
use Rattle.run_model.specs.Runs.{order_in}
use Rattle.run_model.specs.Schedule.{Stop}
use Rattle.lists.specs.Elements.{In}
use Rattle.proof_moments.proofs.Lists.{any_by}
use Rattle.lists.proofs.Elements.{in_left, in_right, in_cases}
use Rattle.lists.proofs.Each.{all_in}
use Rattle.lists.proofs.Cuts.{cut_by}
use Rattle.run_promises.specs.Kept.{IsKeptWell, after_tick, WasPut}
use Rattle.run_promises.specs.Waits.{Wait}
use Rattle.run_promises.specs.Placing.{NobodyIsStoppedIn, HasRoom, WasTaken, WhoFindsRoomIsPut, TheFirstBlockIsDueSoon}
use Rattle.run_promises.proofs.Fronts.{put_by_tick, holder_by_tick, stop_by_tick, put_stays}
use Rattle.run_promises.proofs.Journals.{from_the_order, put_in_journals, rightly_put, one_tenancy}
use Rattle.run_promises.proofs.Stops.{stop_was_ordered}
use Rattle.run_promises.proofs.Tried.{over_or_not, nobody_waits_beside_a_free_slot}

-- ---- one more than there is room for

length_joined : {X : Type 0} (xs ys : List X) → length (xs ++ ys) ≡ length xs + length ys
length_joined [] ys = omega arith
length_joined (x ∷ xs) ys = let h = length_joined xs ys in omega arith

-- if each number below n has an element of a list, and no two have the same, the list is no shorter
each_has_its_own : (n : ℕ) (Has : ℕ → ℕ → Type 0) (xs : List ℕ) → ((s : ℕ) → s < n → (v : ℕ) × In v xs × Has s v)
    → ((s t v : ℕ) → Has s v → Has t v → s ≡ t) → n ≤ length xs
each_has_its_own zero Has xs each one = omega arith
each_has_its_own (suc n) Has xs each one =
    let last = each n (omega arith) in
    let cut = cut_by last.0 xs last.1 in
    let rest : List ℕ = cut.front ++ cut.back in
    let shorter : n ≤ length rest = each_has_its_own n Has rest
    (λ s low.
    let q = each s (omega arith) in
    let there : In q.0 rest = ⊎_elim
    (λ i. in_left q.0 cut.front cut.back i)
    (λ i. ⊎_elim
    (λ (e : q.0 ≡ last.0). let same = one s n last.0 (subst (λ (v : ℕ). Has s v) e q.2) last.2 in absurd (omega arith))
    (λ j. in_right q.0 cut.front cut.back j) i)
    (in_cases q.0 cut.front (last.0 ∷ cut.back) (subst (λ (ys : List ℕ). In q.0 ys) (sym cut.is) q.1)) in
    (q.0, there, q.2))
    one in
    let a = length_joined cut.front cut.back in
    let b = length_joined cut.front (last.0 ∷ cut.back) in
    let c : length (cut.front ++ last.0 ∷ cut.back) ≡ length xs = ap (λ (ys : List ℕ). length ys) cut.is in
    omega arith

-- ---- an instance has one slot

-- at some tick of a cub an instance had a slot
abbrev Had : Kept → ℕ → ℕ → ℕ → Type 0
Had k c slot v = (beat : ℕ) × (t : Tenancy) × ((after_tick k c beat).schedule.holder slot ≡ Some t) × (t.instance.0 ≡ v)

one_slot : (k : Kept) (c : ℕ) → IsKeptWell k → (s t v : ℕ) → Had k c s v → Had k c t v → s ≡ t
one_slot k c w s t v a b =
    let pa = holder_by_tick (order_in k) c a.0 s a.1 a.2 in
    let pb = holder_by_tick (order_in k) c b.0 t b.1 b.2 in
    let same = one_tenancy k a.1 b.1 w pa.0 pb.0 (a.3 ∙ sym b.3) in
    sym pa.1 ∙ ap (λ (u : Tenancy). u.slot.0) same ∙ pb.1

-- nobody was stopped so shortly before a tick that its record still counts
none_recent : (k : Kept) (c from last beat v : ℕ) (stop : Stop) → IsKeptWell k → NobodyIsStoppedIn k from last → from ≤ beat → beat ≤ last
    → In stop (after_tick k c beat).schedule.stops → IsRecentStop k.course.plan.params beat v stop → ⊥
none_recent k c from last beat v stop w none low high i recent =
    let p = k.course.plan.params in
    let g = stop_by_tick (order_in k) c beat stop i in
    let grows = time_mono p from beat low in
    let soon = recent.1 in
    let early = g.2 in
    let ordered : stop_ordered k.orders stop.instance stop.beat ≡ true =
    subst (λ (b : ℕ). stop_ordered k.orders stop.instance b ≡ true) (sym g.1) (stop_was_ordered k stop.instance w g.0) in
    ⊎_elim (λ l. omega arith) (λ l. omega arith) (none stop.instance stop.beat ordered)

-- so whoever took a slot from one who waits is one of the others
taken_by_another : (k : Kept) (a : Wait) (slot : ℕ) (room : HasRoom k a) → IsKeptWell k → (after_tick k a.cub a.last).put a.ask.instance.0 ≡ false
    → WasTaken k a slot → (v : ℕ) × In v room.others × Had k a.cub slot v
taken_by_another k a slot room w unput t = ⊎_elim
    (λ held.
    let put = (holder_by_tick (order_in k) a.cub t.beat slot held.0 held.1).2 in
    let other : held.0.instance.0 ≢ a.ask.instance.0 = λ e. true≢false
    (sym (put_stays (order_in k) t.beat a.last a.cub a.ask.instance.0 t.high (subst (λ (v : ℕ). WasPut (after_tick k a.cub t.beat) v) e put)) ∙ unput) in
    (held.0.instance.0, room.all t.beat slot held.0 t.low t.high held.1 other, (t.beat, held.0, held.1, refl)))
    (λ recent.
    let p = k.course.plan.params in
    let m = after_tick k a.cub t.beat in
    let r = any_by (IsOfRecentlyStopped p m t.beat slot t.visit) (view_of m a.cub) recent in
    let stop = any_by (IsRecentStop p t.beat r.0.tenancy.instance.0) m.schedule.stops r.2.2 in
    absurd (none_recent k a.cub a.from a.last t.beat r.0.tenancy.instance.0 stop.0 w room.stops t.low t.high stop.1 stop.2))
    t.taken

pub who_finds_room_is_put : (k : Kept) → IsKeptWell k → WhoFindsRoomIsPut k
who_finds_room_is_put k w a wide h turn room = ⊎_elim
    (λ over. over)
    (λ not. ⊎_elim
    (λ over. over)
    (λ all.
    let few = room.few in
    let many : k.course.plan.params.slots ≤ length room.others = each_has_its_own k.course.plan.params.slots (Had k a.cub) room.others
    (λ slot low. taken_by_another k a slot room w not.0 (all slot low)) (one_slot k a.cub w) in
    absurd (omega arith))
    (nobody_waits_beside_a_free_slot k w a wide h turn))
    (over_or_not k a a.last)

-- ---- the first block

pub the_first_block_is_due_soon : (k : Kept) → IsKeptWell k → TheFirstBlockIsDueSoon k
the_first_block_is_due_soon k w c beat v h =
    let p = k.course.plan.params in
    let q = put_by_tick (order_in k) c beat v h in
    let t : Tenancy = q.0 in
    let x = q.1.entry in
    let s = from_the_order k x q.1.there in
    let read = all_in (IsRead p) x.entry s.journal (w.timed x.node s.journal s.at).reads s.there in
    let skewed = read.high in
    let grows = time_mono p (beat_of x) beat q.3 in
    let window = window_parts p x.entry.stamp.reading t.slot.0 t.first (rightly_put k t w q.1).1.window in
    let first = window.0 in
    (t, record { put = put_in_journals k t q.1; instance = q.2; soon = omega arith })
