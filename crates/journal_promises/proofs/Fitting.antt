-- The numbers of all lines fit their types, if those of a kept value do: those of deaths and of nodes are small.
use Rattle.std.proofs.Common.{◌≡◌, ℕ, zero, suc, ◌+◌, ◌*◌, ◌<◌, ◌≤◌, List, [], ◌∷◌, ◌++◌, length, map, Bool, cond, Option, Some, None, ap, subst, arith}
use Rattle.std.specs.Prelude.{IfSome}
use Rattle.std.specs.List.{All, AllByRecursion}
use Rattle.std.proofs.lemmas.Bool.{lt-ltb}
use Rattle.std.proofs.lemmas.List.Elements.{All-from_recursion}
use Rattle.std.proofs.Math.Nat.{mul-le-mul}
use Rattle.tiger_base.specs.Limits.{most_beats}
use Rattle.slot_plan.specs.declared.params.Params.{Params}
use Rattle.slot_plan.specs.Conditions.{IsPlan}
use Rattle.node_kit.specs.declared.course.Course.{Course}
use Rattle.node_kit.specs.declared.course.Digest32.{Digest32}
use Rattle.node_kit.specs.declared.course.Kept.{Kept}
use Rattle.node_kit.specs.declared.course.Order.{Order}
use Rattle.node_kit.specs.declared.course.ReadFault.{ReadFault}
use Rattle.node_kit.specs.declared.journal.Entry.{Entry}
use Rattle.node_kit.specs.Courses.{IsCourse, ReturnsLater}
use Rattle.node_kit.specs.Life.{back_of, death_of}
use Rattle.stripe_layout.specs.declared.catalogue.FileInfo.{FileInfo}
use Rattle.run_facts.proofs.Rows.{all-append, all-map}
use Rattle.audit_text.specs.declared.item.Item.{Item}
use Rattle.audit_text.specs.declared.item.Item.TheVariants as item
use Rattle.audit_text.specs.Fields.{params_fields}
use Rattle.audit_text.specs.Fits.{IsLong, LeftFits, BackFits, ItemFits}
use Rattle.audit_text.specs.Texts.{parts_of, row_at, death_items, entry_items, node_items, head_items, body_items, items_in}
use Rattle.audit_read.specs.Writable.{IsDeath, ReturnsIn, node_count}
use Rattle.journal_promises.specs.Numbers.{AreEntriesFit, HasNumbers}

-- ---- deaths

-- a death leaves few messages
abbrev pub IsFewLeft : Option ℕ → Type 0
IsFewLeft o = IfSome o (λ left. left ≤ 1000)

left_fits : (o : Option ℕ) → IsFewLeft o → LeftFits o
left_fits None few = tt
left_fits (Some left) few = omega (arith, few)

lefts_fit : (row : List (Option ℕ)) (n : ℕ) → AllByRecursion IsFewLeft row → LeftFits (row_at row n)
lefts_fit [] n few = tt
lefts_fit (o ∷ row) zero few = left_fits o few.0
lefts_fit (o ∷ row) (suc n) few = lefts_fit row n few.1

-- a return comes behind a death, and is in the run
later_fits : (death : Option ℕ) (beats : ℕ) (back : Option ℕ) → beats ≤ most_beats → ReturnsLater death back → ReturnsIn beats back
    → BackFits back
later_fits death beats None most later early = tt
later_fits None beats (Some back) most later early = absurd later
later_fits (Some death) beats (Some back) most later early = (omega (arith, later), omega (arith, early, most))

returns_at : (beats : ℕ) (row : List (Option ℕ)) (n : ℕ) → AllByRecursion (ReturnsIn beats) row → ReturnsIn beats (row_at row n)
returns_at beats [] n all = tt
returns_at beats (o ∷ row) zero all = all.0
returns_at beats (o ∷ row) (suc n) all = returns_at beats row n all.1

module _ (c : Course) (course : IsCourse c) (few : AllByRecursion IsFewLeft c.cuts) (returns : AllByRecursion (ReturnsIn c.beats) c.backs) where
  back_fits : (n : ℕ) → n < c.plan.params.cubs → BackFits (row_at c.backs n)
  back_fits n low =
      let here : back_of c n ≡ row_at c.backs n = ap (λ (b : Bool). cond b (row_at c.backs n) None) (lt-ltb n c.plan.params.cubs low) in
      later_fits (death_of c n) c.beats (row_at c.backs n) course.beats
      (subst (λ (o : Option ℕ). ReturnsLater (death_of c n) o) here (course.returns_later n)) (returns_at c.beats c.backs n returns)

  deaths_fit : (cub : ℕ) (deaths : List (Option ℕ)) → cub + length deaths ≤ c.plan.params.cubs → AllByRecursion (IsDeath c.beats) deaths
      → AllByRecursion ItemFits (death_items c.cuts c.backs cub deaths)
  deaths_fit cub [] low are = tt
  deaths_fit cub (None ∷ rest) low are = deaths_fit (cub + 1) rest (omega (arith, low)) are.1
  deaths_fit cub (Some beat ∷ rest) low are =
      let cubs = c.plan.sound.ranges.cubs.1 in
      let most = course.beats in
      let early = are.0 in (
        (omega (arith, low, cubs), omega (arith, early, most), lefts_fit c.cuts cub few, back_fits cub (omega (arith, low))),
        deaths_fit (cub + 1) rest (omega (arith, low)) are.1,
      )

-- ---- journals

few_nodes : (p : Params) → IsPlan p → node_count p ≤ 578
few_nodes p plan =
    let cubs = plan.ranges.cubs.1 in
    let product : p.cubs * p.disks ≤ 64 * 8 = mul-le-mul cubs plan.ranges.disks.1 in
    omega (arith, cubs, product)

nodes_fit : (n : ℕ) (journals : List (List Entry)) → n + length journals ≤ 578 → AllByRecursion AreEntriesFit journals
    → AllByRecursion ItemFits (node_items n journals)
nodes_fit n [] few fit = tt
nodes_fit n (j ∷ js) few fit = (
  omega (arith, few),
  all-append ItemFits (entry_items j) (node_items (n + 1) js) (all-map ItemFits (λ (e : Entry). item.Entry e) j fit.0)
      (nodes_fit (n + 1) js (omega (arith, few)) fit.1),
)

-- ---- all lines

pub all_numbers : (k : Kept) → IsCourse k.course → length k.journals ≡ node_count k.course.plan.params
    → AllByRecursion (IsDeath k.course.beats) k.course.deaths → AllByRecursion IsFewLeft k.course.cuts
    → AllByRecursion (ReturnsIn k.course.beats) k.course.backs → HasNumbers k → All ItemFits (items_in (parts_of k))
unfolding items_in
all_numbers k course nodes deaths few returns numbers =
    let q = parts_of k in
    let dying : List Item = death_items q.cuts q.backs 0 q.deaths in
    let faults : List Item = map (λ f. item.Fault f) q.faults in
    let files : List Item = map (λ f. item.File f) q.files in
    let orders : List Item = map (λ o. item.Order o) q.orders in
    let digests : List Item = map (λ d. item.Digest d) q.digests in
    let most = course.beats in
    let cubs = course.deaths in
    let all_nodes = few_nodes k.course.plan.params k.course.plan.sound in
    let head : AllByRecursion ItemFits (head_items q) =
    (tt, (All-from_recursion IsLong (params_fields q.params) numbers.plan, (omega (arith, most), (numbers.delay, (All-from_recursion IsLong q.offsets numbers.offsets, tt))))) in
    let given : AllByRecursion ItemFits (dying ++ faults ++ files ++ orders) =
    all-append ItemFits (dying ++ faults ++ files) orders
    (all-append ItemFits (dying ++ faults) files
    (all-append ItemFits dying faults (deaths_fit k.course course few returns 0 q.deaths (omega (arith, cubs)) deaths)
    (all-map ItemFits (λ (f : ReadFault). item.Fault f) q.faults numbers.faults))
    (all-map ItemFits (λ (f : FileInfo). item.File f) q.files numbers.files))
    (all-map ItemFits (λ (o : Order). item.Order o) q.orders numbers.orders) in
    let body : AllByRecursion ItemFits (body_items q) =
    all-append ItemFits (dying ++ faults ++ files ++ orders ++ node_items 0 q.journals) digests
    (all-append ItemFits (dying ++ faults ++ files ++ orders) (node_items 0 q.journals) given
    (nodes_fit 0 q.journals (omega (arith, nodes, all_nodes)) numbers.journals))
    (all-map ItemFits (λ (d : Digest32). item.Digest d) q.digests numbers.digests) in
    All-from_recursion ItemFits (head_items q ++ body_items q ++ item.End ∷ [])
    (all-append ItemFits (head_items q ++ body_items q) (item.End ∷ []) (all-append ItemFits (head_items q) (body_items q) head body) (tt, tt))
