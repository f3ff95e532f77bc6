use Rattle.std.proofs.Common.{◌≡◌, ℕ, zero, suc, ◌<◌, List, [], ◌∷◌, Some, slice_get, refl, sym, subst, inl, arith}
use Rattle.slot_plan.specs.Samples.{small}
use Rattle.node_kit.specs.declared.journal.Entry.{Entry}
use Rattle.node_kit.specs.Links.{controller_of, links_of}
use Rattle.run_model.specs.Samples.{all}
use Rattle.audit_orders.specs.Commanding.{IsForeignStop, IsGoneAt}
use Rattle.audit_orders.specs.Samples.{stops_at}
use Rattle.audit_orders.proofs.Earliest.{none_earlier}
use Rattle.audit_orders.proofs.rows.foreign.Goals as goal

abbrev controller : ℕ
controller = controller_of (links_of small)

cub_three : (journals : List (List Entry)) → slice_get journals 3 ≡ Some ((stops_at 3).entry ∷ []) → IsForeignStop controller journals 3 0
cub_three journals here = record {
  other = λ same.
      let sixteen : controller ≡ 16 = refl in
      omega (arith, same, sixteen);
  journal = (stops_at 3).entry ∷ [];
  here = here;
  gone = ((stops_at 3).entry, refl, refl);
}

-- an empty journal stops nobody
empty : (journal : List Entry) (j : ℕ) → Some [] ≡ Some journal → IsGoneAt journal j → ⊥
empty journal j is h =
    let none : [] ≡ journal = cc in
    let at = subst (λ (q : List Entry). slice_get q j ≡ Some h.0) (sym none) h.1 in
    absurd (cc at)

pub returns-clause-first : goal.returns-clause-first
returns-clause-first c = record {
  here = cub_three (all (stops_at 3 ∷ [])) refl;
  none_before = none_earlier (IsForeignStop controller (all (stops_at 3 ∷ []))) 3 0 lower (λ j low h. omega (arith, low));
} where
  lower : (m j : ℕ) → m < 3 → IsForeignStop controller (all (stops_at 3 ∷ [])) m j → ⊥
  lower zero j low h = empty h.journal j h.here h.gone
  lower (suc zero) j low h = empty h.journal j h.here h.gone
  lower (suc (suc zero)) j low h = empty h.journal j h.here h.gone
  lower (suc (suc (suc m))) j low h = omega (arith, low)

pub returns-clause-not_the_second : goal.returns-clause-not_the_second
returns-clause-not_the_second c h = h.none_before 3 0 (inl (omega arith)) (cub_three (all (stops_at 3 ∷ stops_at 4 ∷ [])) refl)
