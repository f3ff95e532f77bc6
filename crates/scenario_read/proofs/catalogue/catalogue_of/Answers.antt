use Rattle.std.proofs.Common.{List, refl, ap, ◌∙◌}
use Rattle.scenario_read.specs.declared.scenario.FileLine.{FileLine}
use Rattle.scenario_read.specs.Orders.{infos_of}
use Rattle.scenario_read.proofs.OrderFacts.{catalogue-sound, catalogue-of}
use Rattle.scenario_read.proofs.catalogue.catalogue_of.Goals as goal

pub invariant_of-result : goal.invariant_of-result
invariant_of-result c = record {
  sound = catalogue-sound c.args.scenario.now c.args.library.now c.new.result
      (c.new.ensures ∙ c.in_ok-infos.ensures ∙ ap (λ (ls : List FileLine). infos_of ls c.args.library.now) c.as_slice.ensures) c.requires.scenario c.requires.filled;
}

pub returns : goal.returns
returns c =
    catalogue-of c.args.scenario.now c.args.library.now _
    (c.new.ensures ∙ c.in_ok-infos.ensures ∙ ap (λ (ls : List FileLine). infos_of ls c.args.library.now) c.as_slice.ensures) c.requires.files refl refl
