-- What the walks need of a kept run follows from its being writable.
use Rattle.std.proofs.Common.{◌≡◌, ℕ, zero, suc, ◌+◌, ◌*◌, ◌≤◌, List, [], ◌∷◌, ◌++◌, length, sym, arith, le_trans, le_of_eq}
use Rattle.std.specs.List.{AllByRecursion}
use Rattle.std.specs.List.Sorted.{IsNonDecreasingBy}
use Rattle.std.proofs.lemmas.List.Sums.{fold-append}
use Rattle.slot_plan.specs.declared.params.Params.{Params}
use Rattle.stripe_layout.specs.declared.catalogue.FileInfo.{FileInfo}
use Rattle.node_kit.specs.declared.course.Kept.{Kept}
use Rattle.node_kit.specs.declared.course.Order.{Order}
use Rattle.node_kit.specs.declared.journal.Entry.{Entry}
use Rattle.node_kit.specs.declared.journal.What.{What}
use Rattle.node_kit.specs.declared.journal.What.TheVariants as what
use Rattle.node_kit.proofs.Ways.{links_sound}
use Rattle.run_facts.specs.Accounts.{Rising}
use Rattle.run_facts.proofs.Rows.{all-weaker}
use Rattle.audit_frame.proofs.Deciding.{each_at}
use Rattle.audit_orders.specs.Verdicts.{HasAllJournals}
use Rattle.audit_read.specs.Writable.{IsWritable, IsWhat, IsEntry, IsJournal, AreOrders, last_beat}
use Rattle.audit_schedule.specs.Fair.{IsEarlyPut}
use Rattle.audit_schedule.specs.Verdicts.{AreEarlyJournals}

-- ---- the number of journals

few : (n cubs disks : ℕ) → n ≡ cubs + disks + 2 → cubs ≤ 64 → disks ≤ 512 → n ≤ 1000
few n cubs disks is c d = omega (arith, is, c, d)

pub few_journals : (k : Kept) → IsWritable k → length k.journals ≤ 1000
few_journals k w =
    let p = k.course.plan.params in
    let links = links_sound p k.course.plan.sound in
    few (length k.journals) p.cubs (p.cubs * p.disks) w.nodes links.cubs_high links.disks_high

one_more : (n cubs disks : ℕ) → n ≡ cubs + disks + 2 → n ≡ cubs + disks + 1 + 1
one_more n cubs disks is = omega (arith, is)

pub all_journals : (k : Kept) → IsWritable k → HasAllJournals k
all_journals k w = let p = k.course.plan.params in one_more (length k.journals) p.cubs (p.cubs * p.disks) w.nodes

-- ---- the orders

last_more : (before : List Order) (o : Order) → last_beat (before ++ o ∷ []) ≡ o.beat
last_more before o = fold-append (λ (n : ℕ) (q : Order). q.beat) 0 before (o ∷ [])

all_from : (p : Params) (beats least : ℕ) (files : List FileInfo) (before orders : List Order) → least ≤ last_beat before
    → AreOrders p beats files before orders → AllByRecursion (λ (o : Order). least ≤ o.beat) orders
all_from p beats least files before [] low h = tt
all_from p beats least files before (o ∷ rest) low h =
    let here : least ≤ o.beat = le_trans low h.0.in_time in
    (here, all_from p beats least files (before ++ o ∷ []) rest (le_trans here (le_of_eq (sym (last_more before o)))) h.1)

orders_rise : (p : Params) (beats : ℕ) (files : List FileInfo) (before orders : List Order) → AreOrders p beats files before orders
    → Rising (λ (o : Order). o.beat) orders
orders_rise p beats files before [] h = tt
orders_rise p beats files before (o ∷ rest) h = (
  all_from p beats o.beat files (before ++ o ∷ []) rest (le_of_eq (sym (last_more before o))) h.1,
  orders_rise p beats files (before ++ o ∷ []) rest h.1,
)

none_fall : {X : Type 0} (key : X → ℕ) (xs : List X) → Rising key xs → IsNonDecreasingBy key xs
none_fall key [] h i j d le low = absurd (omega (arith, low))
none_fall key (x ∷ xs) h zero zero d le low = omega arith
none_fall {X} key (x ∷ xs) h zero (suc j) d le low = each_at (λ (y : X). key x ≤ key y) xs j d h.0 (omega (arith, low))
none_fall key (x ∷ xs) h (suc i) zero d le low = absurd (omega (arith, le))
none_fall key (x ∷ xs) h (suc i) (suc j) d le low = none_fall key xs h.1 i j d (omega (arith, le)) (omega (arith, low))

pub in_time : (k : Kept) → IsWritable k → IsNonDecreasingBy (λ (o : Order). o.beat) k.orders
in_time k w = none_fall (λ (o : Order). o.beat) k.orders
    (orders_rise k.course.plan.params k.course.beats k.catalogue.files [] k.orders w.orders)

-- ---- the visits of Puts

early_put : (p : Params) (w : What) → IsWhat p w → IsEarlyPut w
early_put p (what.Put t) h = (le_trans h.1 h.2, h.2)
early_put p other h = tt

pub early_journals : (k : Kept) → IsWritable k → AreEarlyJournals k.journals
early_journals k w =
    let p = k.course.plan.params in
    let beats = k.course.beats in
    all-weaker (IsJournal p beats) (λ (j : List Entry). AllByRecursion (λ e. IsEarlyPut e.what) j) k.journals
    (λ j h. all-weaker (IsEntry p beats) (λ (e : Entry). IsEarlyPut e.what) j (λ e is. early_put p e.what is.1) h) w.journals
