-- The files of a scenario have blocks, and so each start among its orders has some.
use Rattle.std.proofs.Common.{◌≡◌, ℕ, zero, suc, ◌+◌, ◌*◌, ◌<◌, ◌≤◌, nat_le, ◌&&◌, List, [], ◌∷◌, length, Bool, true, false, Option, Some, option_map, refl, sym, ap, subst, ◌∙◌, arith, ⊎_elim}
use Rattle.std.specs.Prelude.{slice_get}
use Rattle.std.specs.Int.{div_ceil}
use Rattle.std.specs.List.{All}
use Rattle.std.proofs.lemmas.Bool.{cases_lt, le-leb}
use Rattle.std.proofs.lemmas.List.{length-map}
use Rattle.std.proofs.lemmas.Grind.{div_ceil_times}
use Rattle.std.proofs.lemmas.Option.{none-some, slice_get-map, slice_get_within, get_or_from_slice_get}
use Rattle.std.proofs.Math.Nat.{mul-le-mul, mul-le-mul_right, add-mul}
use Rattle.tiger_base.specs.declared.tenancy.Ask.{Ask}
use Rattle.tiger_base.specs.Limits.{most_blocks, most_file}
use Rattle.stripe_layout.specs.declared.catalogue.FileInfo.{FileInfo}
use Rattle.stripe_layout.specs.declared.catalogue.Catalogue.{Catalogue}
use Rattle.stripe_layout.specs.Places.{block_count}
use Rattle.stripe_layout.proofs.Blocks.{block_count-there, one_block}
use Rattle.node_kit.specs.declared.course.Order.{Order}
use Rattle.node_kit.specs.declared.course.OrderKind.TheVariants as kinds
use Rattle.scenario_read.specs.declared.scenario.FileLine.{FileLine}
use Rattle.scenario_read.specs.declared.scenario.ScEvent.{ScEvent}
use Rattle.scenario_read.specs.declared.scenario.ScEvent.TheVariants.{Begin, Finish}
use Rattle.scenario_read.specs.declared.scenario.Scenario.{Scenario}
use Rattle.scenario_read.specs.Sound.{StartsWithin, IsScenario}
use Rattle.scenario_read.specs.Orders.{IsCatalogueOf, first_disk, orders_from, start_order}
use Rattle.json_look.proofs.Inversions.{map-some}
use Rattle.scenario_read.proofs.OrderFacts.{orders-given}
use Rattle.proof_ring.specs.Runs.{AreShort}
use Rattle.proof_ring.proofs.Opened.{get_some}
use Rattle.proof_controller.specs.Orders.{AreCounted}

-- what holds of all elements of a list holds of the one at a place
pub all_at : {X : Type 0} (P : X → Type 0) (xs : List X) (k : ℕ) (x : X) → All P xs → slice_get xs k ≡ Some x → P x
all_at P xs k x all at = subst P (get_or_from_slice_get xs k x x at) (all k x (slice_get_within xs k x at))

-- a file has no more blocks than bytes
pub few_blocks : (len size : ℕ) → 1 ≤ size → div_ceil len size ≤ len
few_blocks len size sized =
    let bounds = div_ceil_times len size sized in ⊎_elim
    (λ (many : len < div_ceil len size).
    let up : (len + 1) * size ≤ div_ceil len size * size = mul-le-mul_right size (omega (arith, many)) in
    let least : len * 1 ≤ len * size = mul-le-mul (omega arith) sized in
    let sum = add-mul len 1 size in
    let high = bounds.1 in
    absurd (omega (arith, up, least, sum, high)))
    (λ (few : div_ceil len size ≤ len). few)
    (cases_lt len (div_ceil len size))

pub both_true : (a b : Bool) → a ≡ true → b ≡ true → (a && b) ≡ true
both_true true true e f = refl
both_true true false e f = f
both_true false b e f = e

-- each file of the scenario has blocks
pub count_fits : (s : Scenario) (library : List (List ℕ)) (c : Catalogue) (file : ℕ) → AreShort library → IsCatalogueOf s library c → file < length s.files
    → (1 ≤ block_count c file) × (block_count c file ≤ most_blocks)
count_fits s library c file short is low =
    let disks = is.first_disks in
    let same : length c.files ≡ length s.files =
    sym (length-map c.files (λ (info : FileInfo). info.disk)) ∙ ap length disks ∙ length-map s.files (λ (line : FileLine). line.disk) in
    let info = get_some c.files file (omega (arith, same, low)) in
    let there : option_map (λ (bytes : List ℕ). length bytes) (slice_get library file) ≡ Some info.0.len =
    sym (slice_get-map (λ (bytes : List ℕ). length bytes) library file)
    ∙ ap (λ (ns : List ℕ). slice_get ns file) is.lengths
    ∙ slice_get-map (λ (x : FileInfo). x.len) c.files file
    ∙ ap (λ (o : Option FileInfo). option_map (λ (x : FileInfo). x.len) o) info.1 in
    let m = map-some (λ (bytes : List ℕ). length bytes) (slice_get library file) info.0.len there in
    let most : length m.0 ≤ most_file = all_at (λ (bytes : List ℕ). length bytes ≤ most_file) library file m.0 short m.1 in
    let len = m.2 in
    let count = block_count-there c file info.0 info.1 in
    let some = one_block c file info.0 info.1 in
    let few = few_blocks info.0.len c.block c.sound.block_low in
    (omega (arith, count, some), omega (arith, count, few, most, len))

-- equal orders are of one kind
pub same_kind : (a b : Order) → Some a ≡ Some b → a.what ≡ b.what
same_kind a b e = let z : a ≡ b = cc in ap (λ (x : Order). x.what) z

-- what a start among the orders asks for has blocks
pub fit_ask : (c : Catalogue) (files n : ℕ) (es : List ScEvent) → ((file : ℕ) → file < files → (1 ≤ block_count c file) × (block_count c file ≤ most_blocks))
    → ((j : ℕ) (e : ScEvent) → slice_get es j ≡ Some e → StartsWithin files e)
    → (k beat : ℕ) (ask : Ask) → slice_get (orders_from c n es) k ≡ Some (record { beat = beat; what = kinds.Begin ask })
    → (1 ≤ ask.count) × (ask.count ≤ most_blocks)
fit_ask c files n [] fit given k at ask e = absurd (none-some (record { beat = at; what = kinds.Begin ask }) e)
fit_ask c files n (Begin beat file ∷ es) fit given zero at ask e =
    let w = same_kind (start_order c n beat file) (record { beat = at; what = kinds.Begin ask }) e in
    let same : record { instance = record { 0 = n }; file = file; count = block_count c file.0; disk = first_disk c file.0 } ≡ ask = cc in
    subst (λ (x : Ask). (1 ≤ x.count) × (x.count ≤ most_blocks)) same (fit file.0 (given 0 (Begin beat file) refl))
fit_ask c files n (Begin beat file ∷ es) fit given (suc k) at ask e = fit_ask c files (n + 1) es fit (λ j x q. given (suc j) x q) k at ask e
fit_ask c files n (Finish beat v ∷ es) fit given zero at ask e =
    let w : kinds.Finish v ≡ kinds.Begin ask = same_kind (record { beat = beat; what = kinds.Finish v }) (record { beat = at; what = kinds.Begin ask }) e in absurd (cc)
fit_ask c files n (Finish beat v ∷ es) fit given (suc k) at ask e = fit_ask c files n es fit (λ j x q. given (suc j) x q) k at ask e

pub counted_orders : (s : Scenario) (library : List (List ℕ)) (c : Catalogue) → IsScenario s → AreShort library → IsCatalogueOf s library c
    → AreCounted s.course.plan.params (orders_from c 0 s.events)
counted_orders s library c scenario short is = record {
  given = orders-given s c scenario is.first_disks;
  counted = λ k ask starts.
      let fits = fit_ask c (length s.files) 0 s.events (λ file low. count_fits s library c file short is low)
      (λ j e q. all_at (StartsWithin (length s.files)) s.events j e scenario.events.within q) k starts.0 ask starts.1 in
      both_true (nat_le 1 ask.count) (nat_le ask.count most_blocks) (le-leb _ _ fits.0) (le-leb _ _ fits.1);
}
