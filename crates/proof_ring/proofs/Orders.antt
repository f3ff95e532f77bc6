-- The orders of a scenario are for whole files of its catalogue, from the first block's disk on.
use Rattle.std.proofs.Common.{◌≡◌, ℕ, zero, suc, ◌+◌, ◌<◌, List, [], ◌∷◌, length, Some, refl, sym, ap, subst, ◌∙◌, arith}
use Rattle.std.specs.Prelude.{slice_get}
use Rattle.std.proofs.lemmas.List.{length-map}
use Rattle.std.proofs.lemmas.Option.{none-some}
use Rattle.tiger_base.specs.declared.tenancy.Ask.{Ask}
use Rattle.stripe_layout.specs.declared.catalogue.Catalogue.{Catalogue}
use Rattle.stripe_layout.specs.declared.catalogue.FileInfo.{FileInfo}
use Rattle.stripe_layout.specs.Places.{block_count}
use Rattle.node_kit.specs.declared.course.OrderKind.TheVariants as kinds
use Rattle.scenario_read.specs.declared.scenario.FileLine.{FileLine}
use Rattle.scenario_read.specs.declared.scenario.ScEvent.{ScEvent}
use Rattle.scenario_read.specs.declared.scenario.ScEvent.TheVariants.{Begin, Finish}
use Rattle.scenario_read.specs.declared.scenario.Scenario.{Scenario}
use Rattle.scenario_read.specs.Sound.{StartsWithin, IsScenario}
use Rattle.scenario_read.specs.Orders.{IsCatalogueOf, orders_from, start_order, first_disk, disk_in}
use Rattle.proof_ring.proofs.Opened.{get_some}
use Rattle.proof_ring.proofs.Counted.{all_at, same_kind}
use Rattle.proof_service.specs.Files.{IsOfFile}
use Rattle.proof_facts.specs.Rings.{AreOfCatalogue}

-- The first disk of a file that is there.
pub disk_there : (c : Catalogue) (file : ℕ) (info : FileInfo) → slice_get c.files file ≡ Some info → first_disk c file ≡ info.disk
unfolding first_disk
disk_there c file info e = ap disk_in e

-- A start of a file that is there is for that file.
pub of_file : (c : Catalogue) (files n : ℕ) (es : List ScEvent) → ((file : ℕ) → file < files → (info : FileInfo) × (slice_get c.files file ≡ Some info))
    → ((j : ℕ) (e : ScEvent) → slice_get es j ≡ Some e → StartsWithin files e)
    → (k beat : ℕ) (ask : Ask) → slice_get (orders_from c n es) k ≡ Some (record { beat = beat; what = kinds.Begin ask }) → IsOfFile c ask
of_file c files n [] there given k at ask e = absurd (none-some (record { beat = at; what = kinds.Begin ask }) e)
of_file c files n (Begin beat file ∷ es) there given zero at ask e =
    let w = same_kind (start_order c n beat file) (record { beat = at; what = kinds.Begin ask }) e in
    let same : record { instance = record { 0 = n }; file = file; count = block_count c file.0; disk = first_disk c file.0 } ≡ ask = cc in
    let info = there file.0 (given 0 (Begin beat file) refl) in
    subst (λ (x : Ask). IsOfFile c x) same (record { info = info.0; there = info.1; count = refl; disk = disk_there c file.0 info.0 info.1 })
of_file c files n (Begin beat file ∷ es) there given (suc k) at ask e = of_file c files (n + 1) es there (λ j x q. given (suc j) x q) k at ask e
of_file c files n (Finish beat v ∷ es) there given zero at ask e =
    let w : kinds.Finish v ≡ kinds.Begin ask = same_kind (record { beat = beat; what = kinds.Finish v }) (record { beat = at; what = kinds.Begin ask }) e in absurd (cc)
of_file c files n (Finish beat v ∷ es) there given (suc k) at ask e = of_file c files n es there (λ j x q. given (suc j) x q) k at ask e

module _ (s : Scenario) (library : List (List ℕ)) (c : Catalogue) (scenario : IsScenario s) (is : IsCatalogueOf s library c) where
  -- The catalogue has each file of the scenario.
  pub has_file : (file : ℕ) → file < length s.files → (info : FileInfo) × (slice_get c.files file ≡ Some info)
  has_file file low =
      let disks = is.first_disks in
      let same : length c.files ≡ length s.files =
      sym (length-map c.files (λ (info : FileInfo). info.disk)) ∙ ap length disks ∙ length-map s.files (λ (line : FileLine). line.disk) in
      get_some c.files file (omega (arith, same, low))

  pub of_catalogue : AreOfCatalogue s.course.plan.params c (orders_from c 0 s.events)
  of_catalogue = record {
    disks = is.disks;
    files = λ k ask starts.
        of_file c (length s.files) 0 s.events has_file (λ j e q. all_at (StartsWithin (length s.files)) s.events j e scenario.events.within q)
        k starts.0 ask starts.1;
  }
