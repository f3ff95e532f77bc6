-- The orders of a scenario's events are writable, and there is a digest for each start.
use Rattle.std.proofs.Common.{◌≡◌, ℕ, suc, ◌+◌, ◌*◌, ◌<◌, ◌≤◌, List, [], ◌∷◌, ◌++◌, length, take, Some, refl, sym, ap, ◌∙◌, subst, arith, ⊎_elim}
use Rattle.std.specs.Prelude.{slice_get}
use Rattle.std.specs.Int.{div_ceil}
use Rattle.std.specs.List.{AllByRecursion, fold, flat_map}
use Rattle.std.specs.List.Sorted.{IsNonDecreasingBy}
use Rattle.std.proofs.lemmas.Bool.{cases_lt}
use Rattle.std.proofs.lemmas.Grind.{div_ceil_times}
use Rattle.std.proofs.lemmas.List.{length-map}
use Rattle.std.proofs.lemmas.List.Elements.{recursion_from_All}
use Rattle.std.proofs.lemmas.List.Sums.{fold_push}
use Rattle.std.proofs.Math.Nat.{mul-le-mul, mul-le-mul_right, add-mul}
use Rattle.tiger_base.specs.Limits.{most_blocks, most_file}
use Rattle.slot_plan.specs.declared.params.Params.{Params}
use Rattle.stripe_layout.specs.Places.{block_count}
use Rattle.stripe_layout.specs.declared.catalogue.Catalogue.{Catalogue}
use Rattle.stripe_layout.specs.declared.catalogue.FileInfo.{FileInfo}
use Rattle.stripe_layout.proofs.Blocks.{block_count-there, one_block}
use Rattle.node_kit.specs.declared.course.Course.{Course}
use Rattle.node_kit.specs.declared.course.Order.{Order}
use Rattle.node_kit.specs.declared.course.OrderKind.{OrderKind}
use Rattle.node_kit.specs.declared.course.OrderKind.TheVariants as kinds
use Rattle.node_kit.specs.declared.journal.Entry.{Entry}
use Rattle.scenario_read.specs.declared.scenario.ScEvent.{ScEvent}
use Rattle.scenario_read.specs.declared.scenario.ScEvent.TheVariants.{Begin, Finish}
use Rattle.scenario_read.specs.Events.{beat_of}
use Rattle.scenario_read.specs.Events as events
use Rattle.scenario_read.specs.Orders.{first_disk, disk_in, orders_from, start_order}
use Rattle.scenario_read.specs.Sound.{AreEvents, StartsWithin}
use Rattle.scenario_read.proofs.EventFacts.{starts_in-take_cons}
use Rattle.run_facts.specs.Accounts.{Rising}
use Rattle.run_report.specs.Digests.{digest_of, digests_of}
use Rattle.run_report.specs.Outcomes.{order_outcomes, outcomes_of}
use Rattle.audit_read.specs.Writable.{AreOrders, IsAsk, IsAskOf, MayBeOrdered, last_beat, start_in, starts_in}
use Rattle.journal_promises.proofs.Nodes.{AreOrdersWithin, IsOrderWithin}

-- ---- files

-- a file has no more blocks than bytes
few_blocks : (len size : ℕ) → 1 ≤ size → div_ceil len size ≤ len
few_blocks len size sized =
    let bounds = div_ceil_times len size sized in ⊎_elim
    (λ (many : len < div_ceil len size).
    let up : (len + 1) * size ≤ div_ceil len size * size = mul-le-mul_right size (omega (arith, many)) in
    let least : len * 1 ≤ len * size = mul-le-mul (omega arith) sized in
    let sum = add-mul len 1 size in
    let high = bounds.1 in
    absurd (omega (arith, up, least, sum, high)))
    (λ (few : div_ceil len size ≤ len). few)
    (cases_lt len (div_ceil len size))

-- a file that is there, and is not too long
pub record HasFile (c : Catalogue) (file : ℕ) : Type 0 where
  pub info : FileInfo
  pub there : slice_get c.files file ≡ Some info
  pub short : info.len ≤ most_file

count_fits : (c : Catalogue) (file : ℕ) (has : HasFile c file) → (1 ≤ block_count c file) × (block_count c file ≤ most_blocks)
count_fits c file has =
    let count = block_count-there c file has.info has.there in
    let some = one_block c file has.info has.there in
    let few = few_blocks has.info.len c.block c.sound.block_low in
    let short = has.short in
    (omega (arith, count, some), omega (arith, count, few, short))

first_disk-there : (c : Catalogue) (file : ℕ) (info : FileInfo) → slice_get c.files file ≡ Some info → first_disk c file ≡ info.disk
unfolding first_disk
first_disk-there c file info at = ap disk_in at

-- ---- events

-- each stop is of an instance that was started before it, if so many were started before the first event
abbrev StopsBehind : ℕ → List ScEvent → Type 0
StopsBehind n [] = Unit {0}
StopsBehind n (Begin beat file ∷ es) = StopsBehind (n + 1) es
StopsBehind n (Finish beat v ∷ es) = (v.0 < n) × StopsBehind n es

stops_behind : (n : ℕ) (es : List ScEvent)
    → ((k beat v : ℕ) → slice_get es k ≡ Some (Finish beat (record { 0 = v })) → v < n + events.starts_in (take k es)) → StopsBehind n es
stops_behind n [] given = tt
stops_behind n (Begin b f ∷ es) given =
    stops_behind (n + 1) es
    (λ k beat v at.
    let low = given (suc k) beat v at in
    omega (arith, low, starts_in-take_cons (Begin b f) es k))
stops_behind n (Finish b v ∷ es) given = (
  let low = given 0 b v.0 refl in omega (arith, low),
  stops_behind n es
      (λ k beat w at.
      let low = given (suc k) beat w at in
      omega (arith, low, starts_in-take_cons (Finish b v) es k)),
)

beats_rise : (es : List ScEvent) → IsNonDecreasingBy beat_of es → Rising beat_of es
beats_rise [] order = tt
beats_rise (e ∷ es) order = (
  recursion_from_All (λ (x : ScEvent). beat_of e ≤ beat_of x) es (λ i d low. order 0 (suc i) d (omega arith) (omega (arith, low))),
  beats_rise es (λ i j d le low. order (suc i) (suc j) d (omega (arith, le)) (omega (arith, low))),
)

-- ---- orders

starts_push : (before : List Order) (o : Order) → starts_in (before ++ o ∷ []) ≡ starts_in before + start_in o.what
starts_push before o = fold_push (λ (n : ℕ) (x : Order). n + start_in x.what) 0 before o

last_push : (before : List Order) (o : Order) → last_beat (before ++ o ∷ []) ≡ o.beat
last_push before o = fold_push (λ (n : ℕ) (x : Order). x.beat) 0 before o

module _ (p : Params) (beats : ℕ) (c : Catalogue) (block : c.block ≡ p.block) (files : ℕ) (has : (file : ℕ) → file < files → HasFile c file) where
  -- the start that a number of starts before it makes
  start_fits : (n beat : ℕ) (file : ℕ) (before : List Order) → file < files → starts_in before ≡ n
      → (n ≡ starts_in before)
      × IsAskOf p (record { instance = record { 0 = n }; file = record { 0 = file }; count = block_count c file; disk = first_disk c file }) (slice_get c.files file)
      × IsAsk (record { instance = record { 0 = n }; file = record { 0 = file }; count = block_count c file; disk = first_disk c file })
  start_fits n beat file before within count =
      let f = has file within in
      let same : block_count c file ≡ div_ceil f.info.len p.block =
      block_count-there c file f.info f.there ∙ ap (λ (size : ℕ). div_ceil f.info.len size) block in (
        sym count,
        (rw f.there (same, first_disk-there c file f.info f.there)),
        count_fits c file f,
      )

  orders_writable : (n : ℕ) (before : List Order) (es : List ScEvent) → starts_in before ≡ n
      → AllByRecursion (λ e. beat_of e < beats) es → AllByRecursion (λ e. last_beat before ≤ beat_of e) es
      → Rising beat_of es → AllByRecursion (StartsWithin files) es → StopsBehind n es
      → AreOrders p beats c.files before (orders_from c n es)
  orders_writable n before [] count early later rising within stops = tt
  orders_writable n before (Begin beat file ∷ es) count early later rising within stops =
      let o : Order = start_order c n beat file in (
        record { early = early.0; in_time = later.0; orders = start_fits n beat file.0 before within.0 count },
        orders_writable (n + 1) (before ++ o ∷ []) es (starts_push before o ∙ ap (λ (m : ℕ). m + 1) count) early.1
            (subst (λ (b : ℕ). AllByRecursion (λ e. b ≤ beat_of e) es) (sym (last_push before o)) rising.0) rising.1 within.1 stops,
      )
  orders_writable n before (Finish beat v ∷ es) count early later rising within stops =
      let o : Order = record { beat = beat; what = kinds.Finish v } in
      let none : starts_in before + 0 ≡ n = omega (arith, count) in (
        record { early = early.0; in_time = later.0; orders = (let low = stops.0 in omega (arith, low, count)) },
        orders_writable n (before ++ o ∷ []) es (starts_push before o ∙ none) early.1
            (subst (λ (b : ℕ). AllByRecursion (λ e. b ≤ beat_of e) es) (sym (last_push before o)) rising.0) rising.1 within.1 stops.1,
      )

  pub events_writable : (es : List ScEvent) → AreEvents beats files es → AreOrders p beats c.files [] (orders_from c 0 es)
  events_writable es are =
      orders_writable 0 [] es refl (recursion_from_All (λ (e : ScEvent). beat_of e < beats) es are.early) (from_zero es)
      (beats_rise es are.in_order) (recursion_from_All (StartsWithin files) es are.within)
      (stops_behind 0 es (λ k beat v at. let low = are.started k beat v at in omega (arith, low)))
    where
      from_zero : (xs : List ScEvent) → AllByRecursion (λ e. 0 ≤ beat_of e) xs
      from_zero [] = tt
      from_zero (x ∷ xs) = (omega arith, from_zero xs)

-- writable orders start numbers of blocks within the limits
pub orders_within : (p : Params) (beats : ℕ) (files : List FileInfo) (before orders : List Order) → AreOrders p beats files before orders
    → AreOrdersWithin orders
orders_within p beats files before [] are = tt
orders_within p beats files before (o ∷ rest) are = (by_kind o.what are.0.orders, orders_within p beats files (before ++ o ∷ []) rest are.1)
  where
    by_kind : (k : OrderKind) → MayBeOrdered p files before k → IsOrderWithin k
    by_kind (kinds.Begin ask) may = may.2
    by_kind (kinds.Finish v) may = tt

-- ---- digests

outcomes_count : (c : Course) (l : Catalogue) (journals : List (List Entry)) (m : ℕ) (orders : List Order)
    → m + length (flat_map (λ o. order_outcomes c l journals o.what) orders) ≡ fold (λ n o. n + start_in o.what) m orders
outcomes_count c l journals m [] = omega arith
outcomes_count c l journals m (o ∷ rest) = by_kind o.what (λ j. outcomes_count c l journals j rest)
  where
    by_kind : (k : OrderKind)
        → ((j : ℕ) → j + length (flat_map (λ o. order_outcomes c l journals o.what) rest) ≡ fold (λ n o. n + start_in o.what) j rest)
        → m + length (order_outcomes c l journals k ++ flat_map (λ o. order_outcomes c l journals o.what) rest)
        ≡ fold (λ n o. n + start_in o.what) (m + start_in k) rest
    by_kind (kinds.Begin ask) others = let all = others (m + 1) in omega (arith, all)
    by_kind (kinds.Finish v) others = let all = others (m + 0) in omega (arith, all)

pub digests_count : (library : List (List ℕ)) (c : Course) (l : Catalogue) (orders : List Order) (journals : List (List Entry))
    → length (digests_of library (outcomes_of c l orders journals)) ≡ starts_in orders
unfolding digests_of outcomes_of
digests_count library c l orders journals =
    length-map (flat_map (λ (o : Order). order_outcomes c l journals o.what) orders) (digest_of library)
    ∙ omega (arith, outcomes_count c l journals 0 orders)
