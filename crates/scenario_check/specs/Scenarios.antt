-- A scenario with the catalogue of its files.
use Rattle.std.specs.Prelude.{ℕ, List}
use Rattle.stripe_layout.specs.declared.catalogue.Catalogue.{Catalogue}
use Rattle.scenario_read.specs.declared.scenario.Scenario.{Scenario}
use Rattle.scenario_read.specs.Orders.{IsCatalogueOf}

-- this holds of the catalogue of a scenario's files
pub record OfCatalogue (s : Scenario) (library : List (List ℕ)) (P : Catalogue → Type 0) : Type 0 where
  pub catalogue : Catalogue
  pub is : IsCatalogueOf s library catalogue
  pub holds : P catalogue
