-- What holds of all that is split off a line whose turn it is holds of all that is split off lines.
use Rattle.std.proofs.Common.{◌≡◌, ℕ, List, [], true, false, cond, Option}
use Rattle.std.specs.List.{AllByRecursion}
use Rattle.std.proofs.lemmas.Bool.{cond_both}
use Rattle.tiger_base.specs.declared.number.Stamp.{Stamp}
use Rattle.slot_plan.specs.declared.params.Params.{Params}
use Rattle.partial_view.specs.declared.line.Line.{Line}
use Rattle.cub_rules.specs.Comebacks.{is_handed_back}
use Rattle.cub_rules.specs.Ticks.{must_split, split_off}
use Rattle.lists.proofs.Each.{all_if}

pub all_off : {X : Type 0} (P : X → Type 0) (p : Params) (stamp : Stamp) (back : Option ℕ) (x : Line) (these : List X)
    → (is_handed_back p back x.rec ≡ false → must_split p stamp x ≡ true → AllByRecursion P these)
    → AllByRecursion P (split_off p stamp back x these)
all_off P p stamp back x these each =
    all_if P (must_split p stamp x) (cond (is_handed_back p back x.rec) [] these)
    (λ e. cond_both (is_handed_back p back x.rec) [] these (AllByRecursion P) (λ _. tt) (λ f. each f e))
