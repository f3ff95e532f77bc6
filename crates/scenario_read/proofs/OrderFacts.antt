-- The orders of a scenario's events, and the catalogue of its files.
use Rattle.std.proofs.Common.{◌≡◌, ℕ, zero, suc, ◌+◌, ◌*◌, ◌≤◌, ◌<◌, nat_lt, true, false, List, [], ◌∷◌, ◌++◌, length, map, take, drop, get_or, drop-cons, add-one, append_assoc, Option, Some, None, option_map, refl, subst, sym, ap, ◌∙◌, arith, ⊎_elim}
use Rattle.std.specs.Prelude.{slice_get}
use Rattle.std.specs.List.{All}
use Rattle.std.specs.List.Sorted.{IsNonDecreasingBy}
use Rattle.std.proofs.lemmas.Bool.{cases_Bool, cases_eq, ltb-true, ltb-false}
use Rattle.std.proofs.lemmas.Option.{same_Some, slice_get-map, slice_get-get_or, slice_get_within, get_or_from_slice_get}
use Rattle.std.proofs.Math.Nat.{mul-le-mul}
use Rattle.std.proofs.lemmas.List.{at_drop_all, append-nil}
use Rattle.tiger_base.specs.declared.number.DiskNo.{DiskNo}
use Rattle.tiger_base.specs.declared.number.FileNo.{FileNo}
use Rattle.tiger_base.specs.declared.number.Instance.{Instance}
use Rattle.tiger_base.specs.declared.tenancy.Ask.{Ask}
use Rattle.stripe_layout.specs.declared.catalogue.FileInfo.{FileInfo}
use Rattle.stripe_layout.specs.declared.catalogue.Catalogue.{Catalogue}
use Rattle.stripe_layout.specs.Places.{block_count}
use Rattle.stripe_layout.specs.Layout.{IsCatalogue}
use Rattle.slot_plan.specs.Times.{disk_count}
use Rattle.node_kit.specs.declared.course.Order.{Order}
use Rattle.node_kit.specs.declared.course.OrderKind.TheVariants as kinds
use Rattle.controller_core.specs.Orders.{Starts, Stops, AreOrders}
use Rattle.scenario_read.specs.declared.scenario.FileLine.{FileLine}
use Rattle.scenario_read.specs.declared.scenario.ScEvent.{ScEvent}
use Rattle.scenario_read.specs.declared.scenario.ScEvent.TheVariants.{Begin, Finish}
use Rattle.scenario_read.specs.declared.scenario.Scenario.{Scenario}
use Rattle.scenario_read.specs.Events.{beat_of, starts_in}
use Rattle.scenario_read.specs.Sound.{StartsWithin, IsScenario}
use Rattle.scenario_read.specs.Orders.{HasDisks, IsCatalogueOf, infos_of, disk_in, first_disk, order_of, orders_from}
use Rattle.json_look.proofs.Inversions.{map-some}
use Rattle.scenario_read.proofs.EventFacts.{starts_in-take_cons, starts_in-one}

-- ---- the orders one by one

orders_from-cons : (c : Catalogue) (n : ℕ) (e : ScEvent) (es : List ScEvent) → orders_from c n (e ∷ es) ≡ order_of c n e ∷ orders_from c (n + starts_in (e ∷ [])) es
orders_from-cons c n (Begin beat file) es = refl
orders_from-cons c n (Finish beat v) es = ap (λ (k : ℕ). order_of c n (Finish beat v) ∷ orders_from c k es) (omega arith)

pub orders_from-length : (c : Catalogue) (n : ℕ) (es : List ScEvent) → length (orders_from c n es) ≡ length es
orders_from-length c n [] = refl
orders_from-length c n (Begin beat file ∷ es) = ap suc (orders_from-length c (n + 1) es)
orders_from-length c n (Finish beat v ∷ es) = ap suc (orders_from-length c n es)

-- the orders so far, with those of the events from an index on, are all orders
pub record GivesOrders (c : Catalogue) (events : List ScEvent) (so_far : List Order) (index starts : ℕ) : Type 0 where
  pub all : so_far ++ orders_from c starts (drop index events) ≡ orders_from c 0 events

pub GivesOrders-more : (c : Catalogue) (events : List ScEvent) (so_far : List Order) (index starts more : ℕ) (d : ScEvent) → index < length events
    → more ≡ starts + starts_in (get_or events index d ∷ []) → GivesOrders c events so_far index starts
    → GivesOrders c events (so_far ++ order_of c starts (get_or events index d) ∷ []) (index + 1) more
GivesOrders-more c events so_far index starts more d lt count g =
    let e = get_or events index d in
    let split : drop index events ≡ e ∷ drop (index + 1) events = rw (add-one, drop-cons events index d) refl in
    record {
      all =
          append_assoc so_far (order_of c starts e ∷ []) (orders_from c more (drop (index + 1) events))
          ∙ ap (λ (k : ℕ). so_far ++ order_of c starts e ∷ orders_from c k (drop (index + 1) events)) count
          ∙ sym (ap (λ (os : List Order). so_far ++ os) (ap (λ (xs : List ScEvent). orders_from c starts xs) split ∙ orders_from-cons c starts e (drop (index + 1) events)))
          ∙ g.all;
    }

pub GivesOrders-all : (c : Catalogue) (events : List ScEvent) (so_far : List Order) (index starts : ℕ) → length events ≤ index → GivesOrders c events so_far index starts → so_far ≡ orders_from c 0 events
GivesOrders-all c events so_far index starts le g =
    sym (append-nil so_far) ∙ sym (at_drop_all (λ (xs : List ScEvent). so_far ++ orders_from c starts xs) events index le) ∙ g.all

-- the order at a place is that of the event there
order-at : (c : Catalogue) (n : ℕ) (es : List ScEvent) (k : ℕ) → slice_get (orders_from c n es) k ≡ option_map (order_of c (n + starts_in (take k es))) (slice_get es k)
order-at c n [] k = refl
order-at c n (e ∷ es) zero = ap (λ (os : List Order). slice_get os 0) (orders_from-cons c n e es) ∙ ap (λ (m : ℕ). Some (order_of c m e)) (omega arith)
order-at c n (e ∷ es) (suc k) =
    ap (λ (os : List Order). slice_get os (suc k)) (orders_from-cons c n e es)
    ∙ order-at c (n + starts_in (e ∷ [])) es k
    ∙ ap (λ (m : ℕ). option_map (order_of c m) (slice_get es k)) (omega (arith, starts_in-take_cons e es k, starts_in-one e))

beat-at : (c : Catalogue) (n : ℕ) (es : List ScEvent) (i : ℕ) (o : Order) (e : ScEvent) → i < length es → (get_or (orders_from c n es) i o).beat ≡ beat_of (get_or es i e)
beat-at c n [] i o e lt = absurd (omega arith)
beat-at c n (Begin beat file ∷ es) zero o e lt = refl
beat-at c n (Finish beat v ∷ es) zero o e lt = refl
beat-at c n (Begin beat file ∷ es) (suc i) o e lt = beat-at c (n + 1) es i o e (omega arith)
beat-at c n (Finish beat v ∷ es) (suc i) o e lt = beat-at c n es i o e (omega arith)

in_time : (c : Catalogue) (es : List ScEvent) → IsNonDecreasingBy beat_of es → IsNonDecreasingBy (λ (o : Order). o.beat) (orders_from c 0 es)
in_time c es order i j o le lt =
    let count = orders_from-length c 0 es in
    let e : ScEvent = Finish 0 (record { 0 = 0 }) in
    let first = beat-at c 0 es i o e (omega arith) in
    let second = beat-at c 0 es j o e (omega arith) in
    let rises = order i j e le (omega arith) in
    omega arith

-- ---- starts and stops

abbrev ask_of : Catalogue → ℕ → FileNo → Ask
ask_of c n file = record { instance = record { 0 = n }; file = file; count = block_count c file.0; disk = first_disk c file.0 }

-- the event at a place is a start, and this is what is asked by it
pub record IsStartAt (c : Catalogue) (es : List ScEvent) (k : ℕ) (ask : Ask) : Type 0 where
  pub beat : ℕ
  pub file : FileNo
  pub there : slice_get es k ≡ Some (Begin beat file)
  pub same : ask_of c (starts_in (take k es)) file ≡ ask

begin-same : (a b : Ask) → kinds.Begin a ≡ kinds.Begin b → a ≡ b
begin-same a b e = cc

finish-same : (a b : Instance) → kinds.Finish a ≡ kinds.Finish b → a ≡ b
finish-same a b e = cc

begin-finish : {A : Type 0} (a : Ask) (b : Instance) → kinds.Begin a ≡ kinds.Finish b → A
begin-finish a b e = absurd (cc)

start-by : (c : Catalogue) (es : List ScEvent) (k : ℕ) (e : ScEvent) (beat : ℕ) (ask : Ask) → slice_get es k ≡ Some e → order_of c (0 + starts_in (take k es)) e ≡ record { beat = beat; what = kinds.Begin ask } → IsStartAt c es k ask
start-by c es k (Begin b f) beat ask at e = record {
  beat = b;
  file = f;
  there = at;
  same = ap (λ (n : ℕ). ask_of c n f) (omega arith) ∙ begin-same (ask_of c (0 + starts_in (take k es)) f) ask (ap (λ (o : Order). o.what) e);
}
start-by c es k (Finish b v) beat ask at e = begin-finish ask v (sym (ap (λ (o : Order). o.what) e))

start-at : (c : Catalogue) (es : List ScEvent) (k : ℕ) (ask : Ask) → Starts (orders_from c 0 es) k ask → IsStartAt c es k ask
start-at c es k ask s =
    let m = map-some (order_of c (0 + starts_in (take k es))) (slice_get es k) (record { beat = s.0; what = kinds.Begin ask }) (sym (order-at c 0 es k) ∙ s.1) in
    start-by c es k m.0 s.0 ask m.1 m.2

stop-by : (c : Catalogue) (n : ℕ) (es : List ScEvent) (k : ℕ) (e : ScEvent) (beat : ℕ) (v : Instance) → slice_get es k ≡ Some e → order_of c n e ≡ record { beat = beat; what = kinds.Finish v }
    → (b : ℕ) × (slice_get es k ≡ Some (Finish b v))
stop-by c n es k (Begin b f) beat v at e = begin-finish (ask_of c n f) v (ap (λ (o : Order). o.what) e)
stop-by c n es k (Finish b w) beat v at e = (b, at ∙ ap (λ (x : Instance). Some (Finish b x)) (finish-same w v (ap (λ (o : Order). o.what) e)))

stop-at : (c : Catalogue) (es : List ScEvent) (k : ℕ) (v : Instance) → Stops (orders_from c 0 es) k v → (b : ℕ) × (slice_get es k ≡ Some (Finish b v))
stop-at c es k v s =
    let m = map-some (order_of c (0 + starts_in (take k es))) (slice_get es k) (record { beat = s.0; what = kinds.Finish v }) (sym (order-at c 0 es k) ∙ s.1) in
    stop-by c (0 + starts_in (take k es)) es k m.0 s.0 v m.1 m.2

-- a start is counted behind it
start-counts : (es : List ScEvent) (j k beat : ℕ) (file : FileNo) → j < k → slice_get es j ≡ Some (Begin beat file) → starts_in (take j es) < starts_in (take k es)
start-counts [] j k beat file lt at = absurd (cc)
start-counts (e ∷ es) j zero beat file lt at = absurd (omega arith)
start-counts (Begin b f ∷ es) zero (suc k) beat file lt at = omega (arith, starts_in-take_cons (Begin b f) es k)
start-counts (Finish b v ∷ es) zero (suc k) beat file lt at = absurd (let f = same_Some (Finish b v) (Begin beat file) at in cc)
start-counts (e ∷ es) (suc j) (suc k) beat file lt at = let rest = start-counts es j k beat file (omega arith) at in omega (arith, rest, starts_in-take_cons e es j, starts_in-take_cons e es k)

-- the start of this number among the first events
pub record IsNth (es : List ScEvent) (k n : ℕ) : Type 0 where
  pub place : ℕ
  pub beat : ℕ
  pub file : FileNo
  pub before : place < k
  pub there : slice_get es place ≡ Some (Begin beat file)
  pub number : starts_in (take place es) ≡ n

nth-start : (es : List ScEvent) (k n : ℕ) → n < starts_in (take k es) → IsNth es k n
nth-start [] zero n lt = absurd (omega arith)
nth-start [] (suc k) n lt = absurd (omega arith)
nth-start (e ∷ es) zero n lt = absurd (omega arith)
nth-start (Begin b f ∷ es) (suc k) zero lt = record { place = 0; beat = b; file = f; before = omega arith; there = refl; number = refl }
nth-start (Begin b f ∷ es) (suc k) (suc n) lt =
    let r = nth-start es k n (omega (arith, starts_in-take_cons (Begin b f) es k)) in
    record { place = suc r.place; beat = r.beat; file = r.file; before = omega (arith, r.before); there = r.there; number = omega (arith, r.number, starts_in-take_cons (Begin b f) es r.place) }
nth-start (Finish b v ∷ es) (suc k) n lt =
    let r = nth-start es k n (omega (arith, starts_in-take_cons (Finish b v) es k)) in
    record { place = suc r.place; beat = r.beat; file = r.file; before = omega (arith, r.before); there = r.there; number = omega (arith, r.number, starts_in-take_cons (Finish b v) es r.place) }

once : (c : Catalogue) (es : List ScEvent) (j k : ℕ) (a b : Ask) → IsStartAt c es j a → IsStartAt c es k b → a.instance.0 ≡ b.instance.0 → j ≡ k
once c es j k a b s t same =
    let left : starts_in (take j es) ≡ a.instance.0 = ap (λ (x : Ask). x.instance.0) s.same in
    let right : starts_in (take k es) ≡ b.instance.0 = ap (λ (x : Ask). x.instance.0) t.same in
    ⊎_elim
    (λ (e : j ≡ k). e)
    (λ (ne : j ≡ k → ⊥). ⊎_elim
    (λ (lt : nat_lt j k ≡ true). let counts = start-counts es j k s.beat s.file (ltb-true j k lt) s.there in absurd (omega arith))
    (λ (ge : nat_lt j k ≡ false). let le : k ≤ j = ltb-false j k ge in let counts = start-counts es k j t.beat t.file (omega arith) t.there in absurd (omega arith))
    (cases_Bool (nat_lt j k)))
    (cases_eq j k)

-- the start of an instance stands among the orders
started-at : (c : Catalogue) (es : List ScEvent) (k : ℕ) (v : Instance) → IsNth es k v.0
    → (j : ℕ) × (ask : Ask) × (j < k) × Starts (orders_from c 0 es) j ask × (ask.instance.0 ≡ v.0)
started-at c es k v r = (
  r.place,
  ask_of c (0 + starts_in (take r.place es)) r.file,
  r.before,
  (r.beat, order-at c 0 es r.place ∙ ap (λ (o : Option ScEvent). option_map (order_of c (0 + starts_in (take r.place es))) o) r.there),
  omega (arith, r.number),
)

-- ---- the disks

disk_in-is : (o : Option FileInfo) (d : DiskNo) → option_map (λ (info : FileInfo). info.disk) o ≡ Some d → disk_in o ≡ d
disk_in-is (Some info) d e = same_Some info.disk d e
disk_in-is None d e = absurd (cc)

first_disk-is : (s : Scenario) (c : Catalogue) (file : ℕ) (line : FileLine) → HasDisks s c → slice_get s.files file ≡ Some line → first_disk c file ≡ line.disk
unfolding first_disk
first_disk-is s c file line has at =
    disk_in-is (slice_get c.files file) line.disk
    (sym (slice_get-map (λ (info : FileInfo). info.disk) c.files file)
    ∙ ap (λ (ds : List DiskNo). slice_get ds file) has
    ∙ slice_get-map (λ (l : FileLine). l.disk) s.files file
    ∙ ap (λ (o : Option FileLine). option_map (λ (l : FileLine). l.disk) o) at)

on_disk : (s : Scenario) (c : Catalogue) (file : ℕ) → IsScenario s → HasDisks s c → file < length s.files → (first_disk c file).0 < disk_count s.course.plan.params
on_disk s c file is has lt =
    let none : FileLine = record { name = []; disk = record { 0 = 0 } } in
    let line = get_or s.files file none in
    let same = first_disk-is s c file line has (slice_get-get_or s.files file none lt) in
    subst (λ (d : DiskNo). d.0 < disk_count s.course.plan.params) (sym same) ((is.files file none lt).on_disk)

start_within : (files : ℕ) (es : List ScEvent) (k beat : ℕ) (file : FileNo) → All (StartsWithin files) es → slice_get es k ≡ Some (Begin beat file) → file.0 < files
start_within files es k beat file all at =
    let e : ScEvent = Begin beat file in
    subst (StartsWithin files) (get_or_from_slice_get es k e e at) (all k e (slice_get_within es k e at))

pub orders-given : (s : Scenario) (c : Catalogue) → IsScenario s → HasDisks s c → AreOrders s.course.plan.params (orders_from c 0 s.events)
orders-given s c is has = record {
  in_time = in_time c s.events is.events.in_order;
  on_disks = λ k ask starts.
      let start = start-at c s.events k ask starts in
      subst (λ (a : Ask). a.disk.0 < disk_count s.course.plan.params) start.same
      (on_disk s c start.file.0 is has (start_within (length s.files) s.events k start.beat start.file is.events.within start.there));
  once = λ j k a b first second same. once c s.events j k a b (start-at c s.events j a first) (start-at c s.events k b second) same;
  after_start = λ k v stops.
      let stop = stop-at c s.events k v stops in
      started-at c s.events k v (nth-start s.events k v.0 (is.events.started k stop.0 v.0 stop.1));
}

-- ---- the catalogue

-- the infos so far, with those of the files from an index on, are all infos
pub record GivesInfos (lines : List FileLine) (library : List (List ℕ)) (so_far : List FileInfo) (index : ℕ) : Type 0 where
  pub all : so_far ++ infos_of (drop index lines) (drop index library) ≡ infos_of lines library

pub GivesInfos-more : (lines : List FileLine) (library : List (List ℕ)) (so_far : List FileInfo) (index len : ℕ) (line : FileLine) (bytes : List ℕ) → index < length lines → line ≡ get_or lines index line
    → slice_get library index ≡ Some bytes → len ≡ length bytes → GivesInfos lines library so_far index → GivesInfos lines library (so_far ++ record { len = len; disk = line.disk } ∷ []) (index + 1)
GivesInfos-more lines library so_far index len line bytes lt is at same g =
    let inside = slice_get_within library index bytes at in
    let split : drop index lines ≡ line ∷ drop (index + 1) lines = rw (add-one, drop-cons lines index line) (ap (λ (x : FileLine). x ∷ drop (suc index) lines) (sym is)) in
    let split_too : drop index library ≡ bytes ∷ drop (index + 1) library =
    rw (add-one, drop-cons library index bytes) (ap (λ (x : List ℕ). x ∷ drop (suc index) library) (get_or_from_slice_get library index bytes bytes at)) in
    record {
      all =
          append_assoc so_far (record { len = len; disk = line.disk } ∷ []) (infos_of (drop (index + 1) lines) (drop (index + 1) library))
          ∙ ap (λ (k : ℕ). so_far ++ record { len = k; disk = line.disk } ∷ infos_of (drop (index + 1) lines) (drop (index + 1) library)) same
          ∙ sym (ap (λ (ls : List FileLine). so_far ++ infos_of ls (bytes ∷ drop (index + 1) library)) split)
          ∙ sym (ap (λ (bs : List (List ℕ)). so_far ++ infos_of (drop index lines) bs) split_too)
          ∙ g.all;
    }

pub GivesInfos-all : (lines : List FileLine) (library : List (List ℕ)) (so_far : List FileInfo) (index : ℕ) → length lines ≤ index → GivesInfos lines library so_far index → so_far ≡ infos_of lines library
GivesInfos-all lines library so_far index le g =
    sym (append-nil so_far) ∙ sym (at_drop_all (λ (ls : List FileLine). so_far ++ infos_of ls (drop index library)) lines index le) ∙ g.all

pub infos-lengths : (lines : List FileLine) (library : List (List ℕ)) → length library ≡ length lines → map (λ bytes. length bytes) library ≡ map (λ (i : FileInfo). i.len) (infos_of lines library)
infos-lengths [] [] e = refl
infos-lengths [] (b ∷ bs) e = absurd (omega arith)
infos-lengths (l ∷ ls) [] e = absurd (omega arith)
infos-lengths (l ∷ ls) (b ∷ bs) e = ap (λ (ns : List ℕ). length b ∷ ns) (infos-lengths ls bs (omega arith))

pub infos-disks : (lines : List FileLine) (library : List (List ℕ)) → length library ≡ length lines → map (λ (i : FileInfo). i.disk) (infos_of lines library) ≡ map (λ (l : FileLine). l.disk) lines
infos-disks [] [] e = refl
infos-disks [] (b ∷ bs) e = absurd (omega arith)
infos-disks (l ∷ ls) [] e = absurd (omega arith)
infos-disks (l ∷ ls) (b ∷ bs) e = ap (λ (ds : List DiskNo). l.disk ∷ ds) (infos-disks ls bs (omega arith))

pub infos-count : (lines : List FileLine) (library : List (List ℕ)) → length (infos_of lines library) ≤ length lines
infos-count [] library = omega arith
infos-count (l ∷ ls) [] = omega arith
infos-count (l ∷ ls) (b ∷ bs) = let rest = infos-count ls bs in omega arith

filled_at : (l : FileLine) (ls : List FileLine) (b : List ℕ) (bs : List (List ℕ)) → All (λ bytes. 1 ≤ length bytes) (b ∷ bs) → All (λ (i : FileInfo). 1 ≤ i.len) (infos_of ls bs)
    → (k : ℕ) (d : FileInfo) → k < length (infos_of (l ∷ ls) (b ∷ bs)) → 1 ≤ (get_or (infos_of (l ∷ ls) (b ∷ bs)) k d).len
filled_at l ls b bs all rest zero d lt = all 0 [] (omega arith)
filled_at l ls b bs all rest (suc k) d lt = rest k d (omega arith)

pub infos-filled : (lines : List FileLine) (library : List (List ℕ)) → All (λ bytes. 1 ≤ length bytes) library → All (λ (i : FileInfo). 1 ≤ i.len) (infos_of lines library)
infos-filled [] library all = λ k d lt. absurd (omega arith)
infos-filled (l ∷ ls) [] all = λ k d lt. absurd (omega arith)
infos-filled (l ∷ ls) (b ∷ bs) all = λ k d lt. filled_at l ls b bs all (infos-filled ls bs (λ j e below. all (suc j) e (omega arith))) k d lt

pub catalogue-sound : (s : Scenario) (library : List (List ℕ)) (files : List FileInfo) → files ≡ infos_of s.files library → IsScenario s → All (λ bytes. 1 ≤ length bytes) library
    → IsCatalogue files s.course.plan.params.block (disk_count s.course.plan.params)
catalogue-sound s library files e is filled =
    let ranges = s.course.plan.sound.ranges in
    let few = infos-count s.files library in
    let p = s.course.plan.params in
    let high : p.cubs * p.disks ≤ 64 * 8 = mul-le-mul ranges.cubs.1 ranges.disks.1 in
    let some : 1 ≤ p.cubs = omega (arith, ranges.cubs.0) in
    let low : 1 * 1 ≤ p.cubs * p.disks = mul-le-mul some ranges.disks.0 in
    record {
      count = rw e (omega (arith, few, is.few_files));
      lengths = rw e (infos-filled s.files library filled);
      block_low = ranges.block.0;
      block_high = ranges.block.1;
      disks_low = low;
      disks_high = high;
    }

pub catalogue-of : (s : Scenario) (library : List (List ℕ)) (c : Catalogue) → c.files ≡ infos_of s.files library → length library ≡ length s.files
    → c.block ≡ s.course.plan.params.block → c.disks ≡ disk_count s.course.plan.params → IsCatalogueOf s library c
catalogue-of s library c e count block disks = record {
  lengths = infos-lengths s.files library count ∙ ap (λ (is : List FileInfo). map (λ (i : FileInfo). i.len) is) (sym e);
  first_disks = ap (λ (is : List FileInfo). map (λ (i : FileInfo). i.disk) is) e ∙ infos-disks s.files library count;
  block = block;
  disks = disks;
}
