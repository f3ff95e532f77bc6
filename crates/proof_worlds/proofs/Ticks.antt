-- The ticks of a list of events that is accepted are those of its history.
use Rattle.std.proofs.Common.{◌≡◌, ℕ, zero, suc, ◌+◌, ◌<◌, ◌≤◌, List, [], ◌∷◌, ◌++◌, length, filter, Bool, true, false, cond, ◌&&◌, Option, Some, refl, sym, ap, subst, ◌∙◌, arith, ⊎_elim, inl, inr, length-append}
use Rattle.std.specs.Prelude.{slice_get, find, option_map, unwrap_or, ◌==◌, ◌⊎◌}
use Rattle.std.specs.List.{AllByRecursion}
use Rattle.std.proofs.lemmas.Bool.{cases_Bool, cases_lt, eqb-true, eq-eqb}
use Rattle.std.proofs.lemmas.List.Elements.{filter-append}
use Rattle.std.proofs.lemmas.Option.{none-some}
use Rattle.tiger_base.specs.declared.number.Stamp.{Stamp}
use Rattle.tiger_base.specs.declared.message.Msg.{Msg}
use Rattle.slot_plan.specs.declared.params.Params.{Params}
use Rattle.node_kit.specs.declared.course.Order.{Order}
use Rattle.node_kit.specs.Rows.{each_below}
use Rattle.node_kit.specs.Steps.Input.{Take, Tick}
use Rattle.node_kit.proofs.Rows.{get-each_below}
use Rattle.run_facts.specs.Events.{NodeEvent, IsPlain, is_tick, is_death, is_return, stamp_at}
use Rattle.run_facts.specs.Events.NodeEvent.{Does, Ends, Dies, Returns}
use Rattle.run_facts.specs.Histories.{History, beat, reading, ticks}
use Rattle.run_claims.specs.Accounts.{Ticking, HasTick, is_tick_of, is_tick_at, reading_at}
use Rattle.disk_core.specs.State.{DiskState}
use Rattle.ring_nodes.specs.declared.nodes.AnyNode.{AnyNode}
use Rattle.proof_controller.specs.Controllers.{controller}
use Rattle.proof_facts.specs.Rings.{node_count}
use Rattle.proof_journals.proofs.Events.{behind_tick}
use Rattle.proof_ring.specs.Accounts.{IsControllersClock}
use Rattle.proof_ring.proofs.Commanded.{kept}
use Rattle.proof_ring.proofs.CubLives.{stays_here}
use Rattle.ring_world.specs.declared.event.Act.{Act}
use Rattle.ring_world.specs.declared.event.Act.TheVariants as act
use Rattle.ring_world.specs.declared.event.Event.{Event}
use Rattle.ring_world.specs.Machine.{Machine, journals_of}
use Rattle.ring_world.specs.Merging.{Happening, act_of, added, own, told_from}
use Rattle.ring_world.proofs.Accepting.{some-same}
use Rattle.proof_worlds.specs.Accepted.{IsAccepted, IsTickIn}
use Rattle.proof_worlds.specs.Accounts.{tick_of, ticks_of}
use Rattle.proof_worlds.proofs.Events.{all_each, tick_event, tick_happened}
use Rattle.proof_worlds.proofs.Rings as rings

-- ---- the ticks of a list

abbrev event_at : Stamp → Act → Event
event_at stamp a = record { stamp = stamp; act = a }

-- A tick of an event before others is that event, or one of the others.
first_or_rest : (stamp : Stamp) (a : Act) (rest : List Ticking) (n b l : ℕ) → HasTick (tick_of stamp a ++ rest) n b l
    → (event_at stamp a ≡ tick_event (record { beat = b; reading = l }) n) ⊎ HasTick rest n b l
first_or_rest stamp (act.Get link number) rest n b l t = inr t
first_or_rest stamp (act.Tick node) rest n b l t = ⊎_elim
    (λ first. inl
    (ap (λ (k : ℕ). tick_event stamp k) first.0
    ∙ ap (λ (x : ℕ). tick_event (record { beat = x; reading = stamp.reading }) n) first.1
    ∙ ap (λ (x : ℕ). tick_event (record { beat = b; reading = x }) n) first.2))
    (λ later. inr later) t
first_or_rest stamp (act.Die cub) rest n b l t = inr t
first_or_rest stamp (act.DieIn final sends) rest n b l t = inr t
first_or_rest stamp (act.Return cub) rest n b l t = inr t

behind : (stamp : Stamp) (a : Act) (rest : List Ticking) (n b l : ℕ) → HasTick rest n b l → HasTick (tick_of stamp a ++ rest) n b l
behind stamp (act.Get link number) rest n b l t = t
behind stamp (act.Tick node) rest n b l t = inr t
behind stamp (act.Die cub) rest n b l t = t
behind stamp (act.DieIn final sends) rest n b l t = t
behind stamp (act.Return cub) rest n b l t = t

-- Each tick of a list is one of its events.
pub has_event : (events : List Event) (n b l : ℕ) → HasTick (ticks_of events) n b l
    → (k : ℕ) × (slice_get events k ≡ Some (tick_event (record { beat = b; reading = l }) n))
has_event [] n b l t = absurd t
has_event (e ∷ es) n b l t = ⊎_elim
    (λ first. (0, ap (λ (x : Event). Some x) first))
    (λ later. let r = has_event es n b l later in (suc r.0, r.1))
    (first_or_rest e.stamp e.act (ticks_of es) n b l t)

-- The reading of the only tick of a node in a beat.
abbrev reading_in : Option Ticking → ℕ
reading_in o = unwrap_or (option_map (λ tick. tick.reading) o) 0

picked : (test : Bool) (t : Ticking) (o : Option Ticking) (r : ℕ) → (test ≡ true → t.reading ≡ r) → (test ≡ false → reading_in o ≡ r)
    → reading_in (cond test (Some t) o) ≡ r
picked true t o r first rest = first refl
picked false t o r first rest = rest refl

both_pass : (a b : Bool) → (a && b) ≡ true → (a ≡ true) × (b ≡ true)
both_pass true true e = (refl, refl)
both_pass true false e = absurd (cc)
both_pass false b e = absurd (cc)

reading_is : (ts : List Ticking) (n b r : ℕ) → ((l : ℕ) → HasTick ts n b l → l ≡ r) → HasTick ts n b r → reading_at ts n b ≡ r
reading_is [] n b r one t = absurd t
reading_is (x ∷ xs) n b r one t = picked (is_tick_at n b x) x (find (is_tick_at n b) xs) r
    (λ passes.
    let both = both_pass (x.node == n) (x.beat == b) passes in
    one x.reading (inl (eqb-true x.node n both.0, eqb-true x.beat b both.1, refl)))
    (λ fails. reading_is xs n b r (λ l later. one l (inr later)) (⊎_elim
    (λ first.
    let node = eq-eqb x.node n first.0 in
    let when = eq-eqb x.beat b first.1 in
    let never = rw (node, when) at fails in
    absurd (cc))
    (λ later. later) t))

-- ---- the ticks that a history is told as

-- A tick of a node is told.
own_first : {M : Type 0} (lost : ℕ → ℕ) (stamp : Stamp) (n : ℕ) (past : List (NodeEvent M)) (x : Happening M) (rest : List Ticking) (es : List (NodeEvent M))
    → (x.node == n) ≡ true → ((k : ℕ) → slice_get es k ≡ Some (Does (Tick stamp)) → HasTick rest n stamp.beat stamp.reading)
    → (k : ℕ) → slice_get (x.event ∷ es) k ≡ Some (Does (Tick stamp))
    → HasTick (tick_of (stamp_at x.event) (act_of lost past x.node x.event) ++ rest) n stamp.beat stamp.reading
own_first {M} lost stamp n past x rest es t later zero there =
    let is : x.event ≡ Does (Tick stamp) = some-same x.event (Does (Tick stamp)) there in
    subst (λ (y : NodeEvent M). HasTick (tick_of (stamp_at y) (act_of lost past x.node y) ++ rest) n stamp.beat stamp.reading) (sym is)
    (inl (eqb-true x.node n t, refl, refl))
own_first lost stamp n past x rest es t later (suc k) there =
    behind (stamp_at x.event) (act_of lost past x.node x.event) rest n stamp.beat stamp.reading (later k there)

own_has : {M : Type 0} (lost : ℕ → ℕ) (stamp : Stamp) (n : ℕ) (es : ℕ → List (NodeEvent M)) (xs : List (Happening M)) (k : ℕ)
    → slice_get (own n xs) k ≡ Some (Does (Tick stamp)) → HasTick (ticks_of (told_from lost es xs)) n stamp.beat stamp.reading
own_has lost stamp n es [] k there = absurd (none-some _ there)
own_has lost stamp n es (x ∷ xs) k there =
    let next = added x.node x.event es in
    let rest = ticks_of (told_from lost next xs) in
    ⊎_elim
    (λ (t : (x.node == n) ≡ true). own_first lost stamp n (es x.node) x rest (own n xs) t (own_has lost stamp n next xs) k (rw t at there))
    (λ (f : (x.node == n) ≡ false).
    behind (stamp_at x.event) (act_of lost (es x.node) x.node x.event) rest n stamp.beat stamp.reading (own_has lost stamp n next xs k (rw f at there)))
    (cases_Bool (x.node == n))

-- As many ticks of a node are told as it has.
told_count : {M : Type 0} (lost : ℕ → ℕ) (n k : ℕ) (past : List (NodeEvent M)) (y : NodeEvent M) (rest : List Ticking) (es : List (NodeEvent M))
    → IsPlain y → (k == n) ≡ true → length (filter (is_tick_of n) rest) ≡ length (filter is_tick es)
    → length (filter (is_tick_of n) (tick_of (stamp_at y) (act_of lost past k y) ++ rest)) ≡ length (filter is_tick (y ∷ es))
told_count lost n k past (Does (Take stamp link msg)) rest es plain t same = same
told_count lost n k past (Does (Tick stamp)) rest es plain t same = rw t (ap (λ (j : ℕ). suc j) same)
told_count lost n k past (Ends input sends) rest es plain t same = absurd plain
told_count lost n k past (Dies stamp) rest es plain t same = same
told_count lost n k past (Returns stamp) rest es plain t same = absurd plain

others_count : {M : Type 0} (lost : ℕ → ℕ) (n k : ℕ) (past : List (NodeEvent M)) (y : NodeEvent M) (rest : List Ticking) → (k == n) ≡ false
    → length (filter (is_tick_of n) (tick_of (stamp_at y) (act_of lost past k y) ++ rest)) ≡ length (filter (is_tick_of n) rest)
others_count lost n k past (Does (Take stamp link msg)) rest f = refl
others_count lost n k past (Does (Tick stamp)) rest f = rw f refl
others_count lost n k past (Ends input sends) rest f = refl
others_count lost n k past (Dies stamp) rest f = refl
others_count lost n k past (Returns stamp) rest f = refl

own_count : {M : Type 0} (lost : ℕ → ℕ) (n : ℕ) (es : ℕ → List (NodeEvent M)) (xs : List (Happening M))
    → AllByRecursion IsPlain (own n xs)
    → length (filter (is_tick_of n) (ticks_of (told_from lost es xs))) ≡ length (filter is_tick (own n xs))
own_count lost n es [] plain = refl
own_count {M} lost n es (x ∷ xs) plain =
    let told = ticks_of (told_from lost (added x.node x.event es) xs) in
    ⊎_elim
    (λ (t : (x.node == n) ≡ true).
    let both : AllByRecursion IsPlain (x.event ∷ own n xs) = rw t at plain in
    rw t (told_count lost n x.node (es x.node) x.event told (own n xs) both.0 t
    (own_count lost n (added x.node x.event es) xs both.1)))
    (λ (f : (x.node == n) ≡ false).
    let rest : AllByRecursion IsPlain (own n xs) = rw f at plain in
    rw f (others_count lost n x.node (es x.node) x.event told f ∙ own_count lost n (added x.node x.event es) xs rest))
    (cases_Bool (x.node == n))

count_below : {M S : Type 0} (h : History M S) (n k : ℕ) → length (filter is_tick (each_below (h.event n) k)) ≡ ticks h n k
count_below h n zero = refl
count_below h n (suc k) =
    let before = count_below h n k in
    let parts = length-append (filter is_tick (each_below (h.event n) k)) (filter is_tick (h.event n k ∷ [])) in
    ap length (filter-append is_tick (each_below (h.event n) k) (h.event n k ∷ [])) ∙ parts
    ∙ ⊎_elim
    (λ (t : is_tick (h.event n k) ≡ true). rw t (omega (arith, before)))
    (λ (f : is_tick (h.event n k) ≡ false). rw f (omega (arith, before)))
    (cases_Bool (is_tick (h.event n k)))

-- A node that neither dies nor returns in an event does it whole.
alive_plain : {M : Type 0} (e : NodeEvent M) → is_death e ≡ false → is_return e ≡ false → IsPlain e
alive_plain (Does input) lives stays = tt
alive_plain (Ends input sends) lives stays = absurd (cc)
alive_plain (Dies stamp) lives stays = tt
alive_plain (Returns stamp) lives stays = absurd (cc)

tick_is : {M : Type 0} (e : NodeEvent M) → IsPlain e → is_tick e ≡ true → e ≡ Does (Tick (stamp_at e))
tick_is (Does (Take stamp link msg)) plain t = absurd (cc)
tick_is (Does (Tick stamp)) plain t = refl
tick_is (Ends input sends) plain t = absurd plain
tick_is (Dies stamp) plain t = absurd (cc)
tick_is (Returns stamp) plain t = absurd plain

-- ---- a list that is accepted

module _ (G : Type 0) (p : Params) (orders : List Order) (disk_at : ℕ → DiskState) (beats : ℕ)
    (events : List Event) (m : Machine Msg (AnyNode G)) (k : IsAccepted p orders disk_at beats events m) where
  abbrev pub h : History Msg (AnyNode G)
  h = rings.h G p orders disk_at beats events m k

  -- Only cubs die and return, so each event of another node is whole.
  plain_at : (n i : ℕ) → n < node_count p → p.cubs ≤ n → i < h.count n → IsPlain (h.event n i)
  plain_at n i inside other low =
      let ring = rings.is_ring G p orders disk_at beats events m k in
      alive_plain (h.event n i) (ring.deaths.mortal n i inside other low) (stays_here ring n inside other i low)

  -- A node has one tick in a beat, since its beats are later behind a tick.
  one_tick : (n i j : ℕ) → n < node_count p → i < h.count n → j < h.count n → is_tick (h.event n i) ≡ true
      → is_tick (h.event n j) ≡ true → beat h n i ≡ beat h n j → i ≡ j
  one_tick n i j inside low high one two same =
      let all = kept G p orders disk_at h (journals_of m) k.plan (rings.is_ring G p orders disk_at beats events m k)
      (rings.written G p orders disk_at beats events m k) in
      let up : i ≤ j = ⊎_elim
      (λ (less : j < i). let later = behind_tick all n j i inside less low two in absurd (omega (arith, later, same)))
      (λ (le : i ≤ j). le)
      (cases_lt j i) in
      let down : j ≤ i = ⊎_elim
      (λ (less : i < j). let later = behind_tick all n i j inside less high one in absurd (omega (arith, later, same)))
      (λ (le : j ≤ i). le)
      (cases_lt i j) in
      omega (arith, up, down)

  -- A tick of the list is an event of its node, in a beat up to the machine's.
  pub happened : (n b l : ℕ) → n < node_count p → HasTick (ticks_of events) n b l
      → (i : ℕ) × (i < h.count n) × (h.event n i ≡ Does (Tick (record { beat = b; reading = l })))
  happened n b l inside t =
      let e = has_event events n b l t in
      tick_happened p _ beats h events (rings.come G p orders disk_at beats events m k).merged (record { beat = b; reading = l }) n e.0
      (rings.within G p orders disk_at beats events m k n inside) e.1

  pub tick_in : (n b l : ℕ) → n < node_count p → HasTick (ticks_of events) n b l → IsTickIn events (m.beat + 1) n b l
  tick_in n b l inside t =
      let e = has_event events n b l t in
      let mine = happened n b l inside t in
      let early = (rings.come G p orders disk_at beats events m k).early n mine.0
      (rings.within G p orders disk_at beats events m k n inside) mine.1 in
      let when : beat h n mine.0 ≡ b = ap (λ (y : NodeEvent Msg). (stamp_at y).beat) mine.2 in
      record { below = omega (arith, early, when); at = e.0; is = e.1 }

  controller_inside : controller p < node_count p
  controller_inside = omega arith

  controller_no_cub : p.cubs ≤ controller p
  controller_no_cub = omega arith

  count : ticks h (controller p) (h.count (controller p)) ≡ length (filter (is_tick_of (controller p)) (ticks_of events))
  count =
      let merged = (rings.come G p orders disk_at beats events m k).merged in
      let own_events = merged.each (controller p) (rings.within G p orders disk_at beats events m k (controller p) controller_inside) in
      let plain : AllByRecursion IsPlain (own (controller p) merged.merged) = subst (AllByRecursion IsPlain) (sym own_events)
      (all_each IsPlain (h.event (controller p)) (h.count (controller p)) (λ i low. plain_at (controller p) i controller_inside controller_no_cub low)) in
      sym
      (ap (λ (es : List Event). length (filter (is_tick_of (controller p)) (ticks_of es))) merged.told
      ∙ own_count h.before (controller p) (λ _. []) merged.merged plain
      ∙ ap (λ (es : List (NodeEvent Msg)). length (filter is_tick es)) own_events
      ∙ count_below h (controller p) (h.count (controller p)))

  shows : (i : ℕ) → i < h.count (controller p) → is_tick (h.event (controller p) i) ≡ true
      → reading h (controller p) i ≡ reading_at (ticks_of events) (controller p) (beat h (controller p) i)
  shows i low tick =
      let n = controller p in
      let merged = (rings.come G p orders disk_at beats events m k).merged in
      let at : slice_get (own n merged.merged) i ≡ Some (Does (Tick (stamp_at (h.event n i)))) =
      ap (λ (ys : List (NodeEvent Msg)). slice_get ys i) (merged.each n (rings.within G p orders disk_at beats events m k n controller_inside))
      ∙ get-each_below (h.event n) (h.count n) i low ∙ ap (λ (y : NodeEvent Msg). Some y) (tick_is (h.event n i) (plain_at n i controller_inside controller_no_cub low) tick) in
      let there : HasTick (ticks_of events) n (beat h n i) (reading h n i) =
      subst (λ (es : List Event). HasTick (ticks_of es) n (beat h n i) (reading h n i)) (sym merged.told)
      (own_has h.before (stamp_at (h.event n i)) n (λ _. []) merged.merged i at) in
      sym (reading_is (ticks_of events) n (beat h n i) (reading h n i)
      (λ l t.
      let mine = happened n (beat h n i) l controller_inside t in
      let same : mine.0 ≡ i = one_tick n mine.0 i controller_inside mine.1 low (ap is_tick mine.2) tick
      (ap (λ (y : NodeEvent Msg). (stamp_at y).beat) mine.2) in
      sym (ap (λ (y : NodeEvent Msg). (stamp_at y).reading) mine.2) ∙ ap (λ (j : ℕ). reading h n j) same)
      there)

  pub clock : IsControllersClock p h (length (filter (is_tick_of (controller p)) (ticks_of events))) (reading_at (ticks_of events) (controller p))
  clock = record { beats = count; shows = shows }
