-- A deed that is done in parts: what was put out so far, and the deed that is still to be done.
use Rattle.std.proofs.Common.{◌≡◌, ℕ, ◌+◌, ◌-◌, ◌<◌, ◌*◌, suc, List, ◌∷◌, ◌++◌, map, refl, sym, ap, ◌∙◌, append_assoc, append-nil, arith}
use Rattle.std.specs.List.{range_with_len}
use Rattle.tiger_base.specs.declared.message.Msg.{Msg}
use Rattle.slot_plan.specs.declared.params.Params.{Params}
use Rattle.node_kit.specs.declared.outbox.Out.{Out}
use Rattle.node_kit.specs.Steps.{Deed}
use Rattle.node_kit.specs.Deeds.{Did, nothing, then_do}

-- the outputs now and those of the rest are the outputs before and those of the whole, and the rest ends where the whole does
pub record ComesTo {S : Type 0} (whole : Deed Msg S) (before : List (Out Msg)) (rest : Deed Msg S) (now : List (Out Msg)) : Type 0 where
  pub outs : before ++ whole.outs ≡ now ++ rest.outs
  pub state : whole.state ≡ rest.state

pub comes_on : {S : Type 0} (whole : Deed Msg S) (before : List (Out Msg)) (rest : Deed Msg S) (now : List (Out Msg)) (f g : S → Deed Msg S) (s t : S) (then : List (Out Msg))
    → ComesTo whole before rest now → rest ≡ then_do f g s → Did (f s) now then t → ComesTo whole before (g t) then
comes_on whole before rest now f g s t then comes is did = record {
  outs = comes.outs ∙ (ap (λ (d : Deed Msg _). now ++ d.outs) is ∙ (sym (append_assoc now (f s).outs (g (f s).state).outs) ∙ (ap (λ (xs : List (Out Msg)). xs ++ (g (f s).state).outs) (sym did.0) ∙ ap (λ x. then ++ (g x).outs) (sym did.1))));
  state = comes.state ∙ (ap (λ (d : Deed Msg _). d.state) is ∙ ap (λ x. (g x).state) (sym did.1));
}

pub comes_done : {S : Type 0} (whole : Deed Msg S) (before : List (Out Msg)) (rest : Deed Msg S) (now : List (Out Msg)) (s : S)
    → ComesTo whole before rest now → rest ≡ nothing s → Did whole before now s
comes_done whole before rest now s comes is = (
  sym (comes.outs ∙ (ap (λ (d : Deed Msg _). now ++ d.outs) is ∙ append-nil now)),
  sym (comes.state ∙ ap (λ (d : Deed Msg _). d.state) is),
)

-- the disks of a cub from a row on
abbrev pub disks_from : Params → ℕ → ℕ → List ℕ
disks_from p cub row = map (λ r. cub + r * p.cubs) (range_with_len row (p.disks - row))

pub disks_next : (p : Params) (cub row : ℕ) → row < p.disks → disks_from p cub row ≡ (cub + row * p.cubs) ∷ disks_from p cub (row + 1)
disks_next p cub row more =
    let e : p.disks - row ≡ suc (p.disks - (row + 1)) = omega arith in
    rw e refl
