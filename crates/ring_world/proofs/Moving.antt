-- The machine after one event more, beside the events of its nodes.
use Rattle.std.proofs.Common.{◌≡◌, ℕ, suc, ◌+◌, ◌<◌, ◌≤◌, List, [], ◌∷◌, ◌++◌, length, Bool, true, false, Some, ◌&&◌, refl, zero}
use Rattle.std.proofs.Common.{ap, sym, ◌∙◌, subst, arith, cond, ⊎_elim, append-nil}
use Rattle.std.specs.Prelude.{slice_get, option_map, ◌==◌, if◌then◌else◌}
use Rattle.std.specs.List.{AllByRecursion}
use Rattle.std.proofs.lemmas.Bool.{cases_Bool, cases_eq, eq-eqb, ne_eqb}
use Rattle.tiger_base.specs.declared.message.Note.{Note}
use Rattle.slot_plan.specs.declared.params.Params.{Params}
use Rattle.node_kit.specs.Links.{links_of, ends_of, leads_to}
use Rattle.node_kit.specs.Steps.{Input, Deed}
use Rattle.node_kit.specs.Steps.Input.{Take, Tick}
use Rattle.run_facts.specs.Events.{NodeEvent, Past, Dated, opening, after_all, behind, outs_of, stamp_at, is_tick, is_death}
use Rattle.run_facts.specs.Events.{is_return, is_take_on, sends_of, sends_along}
use Rattle.run_facts.specs.Events.NodeEvent.{Does, Ends, Dies, Returns}
use Rattle.run_facts.specs.Accounts.{open_after, IsOpen, event_at, AreCounted, front}
use Rattle.run_facts.proofs.Along.{sends-append, sends-none, sends_of-dated}
use Rattle.run_facts.proofs.Indexed.{all-at}
use Rattle.run_facts.proofs.Rows.{all-weaker, same-element}
use Rattle.run_facts.proofs.Timelines.{open-append, behind-tick}
use Rattle.ring_world.specs.declared.event.Event.{Event}
use Rattle.ring_world.specs.Machine.{Machine, Being, Way, undying, lived, dropped, lost_on, gone_on, moved}
use Rattle.ring_world.specs.Laws.{IsPlace}
use Rattle.ring_world.specs.Merging.{added}
use Rattle.ring_world.proofs.Deaths.{return-is}
use Rattle.ring_world.proofs.Lists.{each-get, each-length}
use Rattle.ring_world.proofs.Neighbours.{AreApart, MayDie, apart-moved}
use Rattle.ring_world.proofs.Steps.{IsLifeline, IsDue, lifeline-more, lifeline-later}
use Rattle.ring_world.proofs.Ways.{IsOnWay, IsTakenOff, taken_off, put_on, way-later, way-sent, way-idle, way-taken, way-dropped}

-- each node of the machine, and each of its links, beside the events of the nodes
pub record Holds {M S : Type 0} (note : M → Note) (step : S → Input M → Deed M S) (stands : S → Params → ℕ → Type 0) (p : Params) (nodes : ℕ) (first : ℕ → S) (m : Machine M S) (es : ℕ → List (NodeEvent M)) : Type 0 where
  pub size : length m.beings ≡ nodes
  pub apart : AreApart p m.beings
  pub node : (n : ℕ) → n < nodes → (b : Being S) × (slice_get m.beings n ≡ Some b) × IsLifeline note step stands p n m.beat (first n) b (es n)
  pub way : (l from to : ℕ) → ends_of (links_of p) l ≡ Some (from, to)
      → (w : Way M) × (slice_get m.ways l ≡ Some w)
      × IsOnWay p.delay m.beat l w (sends_along note step l (es from) (opening (first from) undying)) (es to)

-- what happens to a node may happen
pub record IsMove {M S : Type 0} (note : M → Note) (step : S → Input M → Deed M S) (stands : S → Params → ℕ → Type 0) (p : Params) (nodes : ℕ) (m : Machine M S) (e : Event) (n : ℕ) (x : NodeEvent M) (b : Being S) : Type 0 where
  pub within : n < nodes
  pub here : slice_get m.beings n ≡ Some b
  pub due : IsDue note step stands p n e.stamp.beat b x
  pub goes : m.beat ≤ e.stamp.beat
  pub done : (k : ℕ) (c : Being S) → slice_get m.beings k ≡ Some c → c.dead ≡ false → m.beat ≤ c.ticked → e.stamp.beat ≤ c.ticked
  pub takes : (l from to : ℕ) (w : Way M) → ends_of (links_of p) l ≡ Some (from, to) → slice_get m.ways l ≡ Some w → is_take_on l x ≡ true → (to ≡ n) × IsTakenOff e.stamp.beat l w x
  pub dies : is_death x ≡ true → MayDie p m.beings n
  pub aged : is_tick x ≡ true → (l from : ℕ) (w : Way M) → ends_of (links_of p) l ≡ Some (from, n) → slice_get m.ways l ≡ Some w
      → AllByRecursion (λ (d : Dated M). e.stamp.beat < d.beat + p.delay) w.under_way

added-here : {M : Type 0} (n : ℕ) (x : NodeEvent M) (es : ℕ → List (NodeEvent M)) → added n x es n ≡ es n ++ x ∷ []
added-here n x es = let q : (n == n) ≡ true = eq-eqb n n refl in rw q refl

added-other : {M : Type 0} (n : ℕ) (x : NodeEvent M) (es : ℕ → List (NodeEvent M)) (k : ℕ) → (k ≡ n → ⊥) → added n x es k ≡ es k
added-other n x es k ne = let q : (k == n) ≡ false = ne_eqb k n ne in rw q refl

-- a return takes nothing
return-takes-none : {M : Type 0} (l : ℕ) (x : NodeEvent M) → is_return x ≡ true → is_take_on l x ≡ false
return-takes-none l (Does i) h = absurd (cc)
return-takes-none l (Ends i sends) h = absurd (cc)
return-takes-none l (Dies s) h = absurd (cc)
return-takes-none l (Returns s) h = refl

-- an event that is no return is in the open beat
open-is : {M : Type 0} (x : NodeEvent M) (t : ℕ) → is_return x ≡ false → IsOpen t x → (stamp_at x).beat ≡ t
open-is (Does i) t h o = o
open-is (Ends i sends) t h o = o
open-is (Dies s) t h o = o
open-is (Returns s) t h o = absurd (cc)

-- no event is below the beat that is open before it
open-low : {M : Type 0} (t : ℕ) (x : NodeEvent M) → IsOpen t x → t ≤ (stamp_at x).beat
open-low t (Does i) o = omega (arith, o)
open-low t (Ends i sends) o = omega (arith, o)
open-low t (Dies s) o = omega (arith, o)
open-low t (Returns s) o = o

front-open : {M : Type 0} (t : ℕ) (es : List (NodeEvent M)) (i : ℕ) → i < length es → AreCounted t es
    → open_after t (front i es) ≤ (stamp_at (event_at es i)).beat
front-open t [] i low counted = absurd (omega (arith, low))
front-open t (e ∷ es) zero low counted = open-low t e counted.0
front-open t (e ∷ es) (suc i) low counted = front-open (behind e t) es i (omega (arith, low)) counted.1

-- an event that takes nothing and is no tick leaves the beat open
stays-open : {M : Type 0} (x : NodeEvent M) (t : ℕ) → is_return x ≡ false → is_tick x ≡ false → behind x t ≡ t
stays-open x t here still = behind-tick x t here ∙ ap (λ b. cond b (suc t) t) still

take-no-tick : {M : Type 0} (l : ℕ) (x : NodeEvent M) → is_take_on l x ≡ true → is_tick x ≡ false
take-no-tick l (Does (Take s k m)) h = refl
take-no-tick l (Does (Tick s)) h = absurd (cc)
take-no-tick l (Ends (Take s k m) sends) h = refl
take-no-tick l (Ends (Tick s) sends) h = absurd (cc)
take-no-tick l (Dies s) h = refl
take-no-tick l (Returns s) h = absurd (cc)

module _ {M S : Type 0} (note : M → Note) (step : S → Input M → Deed M S) (stands : S → Params → ℕ → Type 0) (p : Params) (nodes beats : ℕ) (place : IsPlace p nodes beats) (first : ℕ → S)
    (m : Machine M S) (es : ℕ → List (NodeEvent M)) (h : Holds note step stands p nodes first m es) (e : Event) (n : ℕ) (x : NodeEvent M) (b : Being S) (move : IsMove note step stands p nodes m e n x b) where
  line : IsLifeline note step stands p n m.beat (first n) b (es n)
  line =
      let own = h.node n move.within in
      let same : own.0 ≡ b = same-element m.beings n own.0 b own.1 move.here in
      subst (λ (c : Being S). IsLifeline note step stands p n m.beat (first n) c (es n)) same own.2

  being-at : (k : ℕ) (c : Being S) → slice_get m.beings k ≡ Some c → slice_get (moved note step p m e n x b.past).beings k ≡ Some (if k == n then lived note step x c else c)
  being-at k c at = each-get (λ j a. if j == n then lived note step x a else a) 0 m.beings k k (omega arith) ∙ ap (λ o. option_map (λ a. if k == n then lived note step x a else a) o) at

  node-after : (k : ℕ) → k < nodes → (c : Being S) × (slice_get (moved note step p m e n x b.past).beings k ≡ Some c) × IsLifeline note step stands p k e.stamp.beat (first k) c (added n x es k)
  node-after k low = ⊎_elim
      (λ (same : k ≡ n).
      let q : (n == n) ≡ true = eq-eqb n n refl in
      subst (λ j. (c : Being S) × (slice_get (moved note step p m e n x b.past).beings j ≡ Some c) × IsLifeline note step stands p j e.stamp.beat (first j) c (added n x es j)) (sym same) (
        lived note step x b,
        being-at n b move.here ∙ ap (λ t. Some (cond t (lived note step x b) b)) q,
        subst (IsLifeline note step stands p n e.stamp.beat (first n) (lived note step x b)) (sym (added-here n x es)) (lifeline-more note step stands p n m.beat e.stamp.beat (first n) b (es n) x move.goes line move.due),
      ))
      (λ (ne : k ≡ n → ⊥).
      let own = h.node k low in
      let c = own.0 in
      let theirs = own.2 in
      let q : (k == n) ≡ false = ne_eqb k n ne in (
        c,
        being-at k c own.1 ∙ ap (λ t. Some (cond t (lived note step x c) c)) q,
        subst (IsLifeline note step stands p k e.stamp.beat (first k) c) (sym (added-other n x es k ne))
            (lifeline-later note step stands p k m.beat e.stamp.beat (first k) c (es k) move.goes (λ alive. move.done k c own.1 alive (theirs.low alive)) theirs),
      ))
      (cases_eq k n)

  sends-added : (l from to : ℕ) → ends_of (links_of p) l ≡ Some (from, to)
      → sends_along note step l (added n x es from) (opening (first from) undying) ≡ sends_along note step l (es from) (opening (first from) undying) ++ sends_of l e.stamp.beat (outs_of step x b.past)
  sends-added l from to ends = ⊎_elim
      (λ (same : from ≡ n).
      let start = opening (first n) undying in
      let mine : sends_along note step l (added n x es n) start ≡ sends_along note step l (es n) start ++ sends_of l e.stamp.beat (outs_of step x b.past) =
      ap (λ q. sends_along note step l q start) (added-here n x es)
      ∙ sends-append note step l (es n) (x ∷ []) start
      ∙ ap (λ ds. sends_along note step l (es n) start ++ ds) (append-nil (sends_of l (stamp_at x).beat (outs_of step x (after_all note step (es n) start)))
      ∙ ap (λ (s : Past S). sends_of l (stamp_at x).beat (outs_of step x s)) (sym line.past)
      ∙ ap (λ q. sends_of l q (outs_of step x b.past)) move.due.dated) in
      subst (λ j. sends_along note step l (added n x es j) (opening (first j) undying) ≡ sends_along note step l (es j) (opening (first j) undying) ++ sends_of l e.stamp.beat (outs_of step x b.past)) (sym same) mine)
      (λ (ne : from ≡ n → ⊥).
      let start = opening (first from) undying in
      let none : sends_of l (stamp_at x).beat (outs_of step x b.past) ++ [] ≡ [] = sends-none note step p n from to l (x ∷ []) b.past ends ne (move.due.allowed, tt) in
      let zero_sent : sends_of l e.stamp.beat (outs_of step x b.past) ≡ [] = ap (λ q. sends_of l q (outs_of step x b.past)) (sym move.due.dated) ∙ sym (append-nil (sends_of l (stamp_at x).beat (outs_of step x b.past))) ∙ none in
      ap (λ q. sends_along note step l q start) (added-other n x es from ne)
      ∙ sym (append-nil (sends_along note step l (es from) start))
      ∙ ap (λ ds. sends_along note step l (es from) start ++ ds) (sym zero_sent))
      (cases_eq from n)

  beat_is : (stamp_at x).beat ≡ e.stamp.beat
  beat_is = move.due.dated

  -- who does not get it has no event more, and each event is in a beat up to this one
  early-all : (k : ℕ) → k < nodes → (i : ℕ) → i < length (added n x es k)
      → (stamp_at (event_at (added n x es k) i)).beat ≤ e.stamp.beat
  early-all k low i at =
      let after = node-after k low in
      all-at (λ (f : NodeEvent M). (stamp_at f).beat ≤ e.stamp.beat) (added n x es k) i at after.2.early

  -- and no beat above that is open before one
  opened-all : (k : ℕ) → k < nodes → (i : ℕ) → i < length (added n x es k)
      → open_after 0 (front i (added n x es k)) ≤ e.stamp.beat
  opened-all k low i at =
      let after = node-after k low in
      let early = early-all k low i at in
      let opens = front-open 0 (added n x es k) i at after.2.counted in
      omega (arith, early, opens)

  open-high : (k : ℕ) → k < nodes → open_after 0 (added n x es k) ≤ e.stamp.beat + 1
  open-high k low =
      let after = node-after k low in
      let ticked = after.2.ticked in
      let high = after.2.high in
      omega (arith, ticked, high)

  -- a link to another node is as it was
  way-other : (l from to : ℕ) (w : Way M) → ends_of (links_of p) l ≡ Some (from, to) → slice_get m.ways l ≡ Some w
      → (to ≡ n → ⊥) → taken_off l x (lost_on p n x l w) ≡ w
  way-other l from to w ends at other =
      let none : is_take_on l x ≡ false = ⊎_elim
      (λ (q : is_take_on l x ≡ true). absurd (other (move.takes l from to w ends at q).0))
      (λ (q : is_take_on l x ≡ false). q)
      (cases_Bool (is_take_on l x)) in
      let leads : leads_to n (ends_of (links_of p) l) ≡ false = ap (leads_to n) ends ∙ ne_eqb to n other in
      let kept : lost_on p n x l w ≡ w = unled (is_return x) (leads_to n (ends_of (links_of p) l)) leads in
      ap (taken_off l x) kept ∙ (rw none refl)
    where
      unled : (a b : Bool) → b ≡ false → cond (a && b) (dropped (stamp_at x).beat w) w ≡ w
      unled true b h = rw h refl
      unled false b h = refl

  -- a link to the node
  way-mine : (l from : ℕ) (w : Way M) (sent : List (Dated M)) → ends_of (links_of p) l ≡ Some (from, n)
      → slice_get m.ways l ≡ Some w → IsOnWay p.delay m.beat l w sent (es n)
      → IsOnWay p.delay e.stamp.beat l (taken_off l x (lost_on p n x l w)) sent (es n ++ x ∷ [])
  way-mine l from w sent ends at on = ⊎_elim
      (λ (back : is_return x ≡ true).
      let none = return-takes-none l x back in
      let leads : leads_to n (ends_of (links_of p) l) ≡ true = ap (leads_to n) ends ∙ eq-eqb n n refl in
      let kept : taken_off l x (lost_on p n x l w) ≡ dropped e.stamp.beat w =
      (let q : taken_off l x (lost_on p n x l w) ≡ dropped (stamp_at x).beat w = rw (back, leads, none) refl in q)
      ∙ ap (λ b. dropped b w) beat_is in
      subst (λ (v : Way M). IsOnWay p.delay e.stamp.beat l v sent (es n ++ x ∷ [])) (sym kept)
      (way-dropped p.delay m.beat e.stamp.beat l w sent (es n) x move.goes on (stamp_at x) (return-is x back) beat_is))
      (λ (here : is_return x ≡ false).
      let kept : lost_on p n x l w ≡ w = rw here refl in
      let now_open : open_after 0 (es n) ≡ e.stamp.beat =
      sym line.ticked ∙ sym (open-is x b.ticked here move.due.open_here) ∙ beat_is in
      let opens : open_after 0 (es n ++ x ∷ []) ≡ behind x (open_after 0 (es n)) = open-append 0 (es n) (x ∷ []) in
      subst (λ (v : Way M). IsOnWay p.delay e.stamp.beat l (taken_off l x v) sent (es n ++ x ∷ [])) (sym kept)
      (⊎_elim
      (λ (taking : is_take_on l x ≡ true).
      way-taken p.delay m.beat e.stamp.beat l w sent (es n) x move.goes on here taking (move.takes l from n w ends at taking).1
      now_open (opens ∙ stays-open x (open_after 0 (es n)) here (take-no-tick l x taking) ∙ now_open))
      (λ (idle : is_take_on l x ≡ false).
      let same : taken_off l x w ≡ w = rw idle refl in
      subst (λ (v : Way M). IsOnWay p.delay e.stamp.beat l v sent (es n ++ x ∷ [])) (sym same)
      (way-idle p.delay m.beat e.stamp.beat l w sent (es n) x move.goes on here idle (⊎_elim
      (λ (ticks : is_tick x ≡ true).
      let all : open_after 0 (es n ++ x ∷ []) ≡ suc e.stamp.beat = opens ∙ behind-tick x (open_after 0 (es n)) here
      ∙ ap (λ q. cond q (suc (open_after 0 (es n))) (open_after 0 (es n))) ticks ∙ ap suc now_open in
      all-weaker (λ (d : Dated M). e.stamp.beat < d.beat + p.delay) (λ d. open_after 0 (es n ++ x ∷ []) ≤ d.beat + p.delay)
      w.under_way (λ d g. omega (arith, g, all)) (move.aged ticks l from w ends at))
      (λ (still : is_tick x ≡ false).
      let all : open_after 0 (es n ++ x ∷ []) ≡ open_after 0 (es n) =
      opens ∙ stays-open x (open_after 0 (es n)) here still in
      subst (λ t. AllByRecursion (λ (d : Dated M). t ≤ d.beat + p.delay) w.under_way) (sym all) on.young)
      (cases_Bool (is_tick x)))))
      (cases_Bool (is_take_on l x))))
      (cases_Bool (is_return x))

  -- any link, but for what is sent in the event
  way-got : (l from to : ℕ) (w : Way M) (sent : List (Dated M)) → ends_of (links_of p) l ≡ Some (from, to)
      → slice_get m.ways l ≡ Some w → IsOnWay p.delay m.beat l w sent (es to)
      → IsOnWay p.delay e.stamp.beat l (taken_off l x (lost_on p n x l w)) sent (added n x es to)
  way-got l from to w sent ends at on = ⊎_elim
      (λ (same : to ≡ n).
      subst (λ j. ends_of (links_of p) l ≡ Some (from, j) → IsOnWay p.delay m.beat l w sent (es j)
      → IsOnWay p.delay e.stamp.beat l (taken_off l x (lost_on p n x l w)) sent (added n x es j)) (sym same)
      (λ ends_n on_n. subst (IsOnWay p.delay e.stamp.beat l (taken_off l x (lost_on p n x l w)) sent) (sym (added-here n x es))
      (way-mine l from w sent ends_n at on_n)) ends on)
      (λ (other : to ≡ n → ⊥).
      subst (λ (v : Way M). IsOnWay p.delay e.stamp.beat l v sent (added n x es to)) (sym (way-other l from to w ends at other))
      (subst (IsOnWay p.delay e.stamp.beat l w sent) (sym (added-other n x es to other))
      (way-later p.delay m.beat e.stamp.beat l w sent (es to) move.goes on)))
      (cases_eq to n)

  way-after : (l from to : ℕ) → ends_of (links_of p) l ≡ Some (from, to)
      → (w : Way M) × (slice_get (moved note step p m e n x b.past).ways l ≡ Some w)
      × IsOnWay p.delay e.stamp.beat l w (sends_along note step l (added n x es from) (opening (first from) undying)) (added n x es to)
  way-after l from to ends =
      let own = h.way l from to ends in
      let w = own.0 in
      let at = own.1 in
      let low_to = (place.linked l from to ends).1 in
      let beat = e.stamp.beat in
      let old = sends_along note step l (es from) (opening (first from) undying) in
      let ds = sends_of l beat (outs_of step x b.past) in
      let new = put_on ds (taken_off l x (lost_on p n x l w)) in
      let get : slice_get (moved note step p m e n x b.past).ways l ≡ Some new =
      each-get (λ k v. gone_on step x b.past k (lost_on p n x k v)) 0 m.ways l l (omega arith)
      ∙ ap (λ o. option_map (λ v. gone_on step x b.past l (lost_on p n x l v)) o) at
      ∙ ap (λ q. Some (put_on (sends_of l q (outs_of step x b.past)) (taken_off l x (lost_on p n x l w)))) beat_is in
      let dated = sends_of-dated (λ q. q ≡ beat) l beat (outs_of step x b.past) refl in
      let delay = place.delay in
      let high = open-high to low_to in
      let got = way-got l from to w old ends at own.2 in
      let on = way-sent p.delay beat l (taken_off l x (lost_on p n x l w)) old ds (added n x es to) dated (omega (arith, high, delay))
      (early-all to low_to) (opened-all to low_to) got in (
        new,
        get,
        subst (λ qs. IsOnWay p.delay beat l new qs (added n x es to)) (sym (sends-added l from to ends)) on,
      )

  pub holds-moved : Holds note step stands p nodes first (moved note step p m e n x b.past) (added n x es)
  holds-moved = record {
    size = each-length (λ j a. if j == n then lived note step x a else a) 0 m.beings ∙ h.size;
    apart = apart-moved note step p m.beings x n place.two_cubs h.apart move.dies;
    node = node-after;
    way = way-after;
  }
