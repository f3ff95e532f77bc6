-- The disks of a kept run have their own read faults of the run's.
use Rattle.std.proofs.Common.{◌≡◌, ℕ, ◌==◌, List, [], ◌∷◌, filter, Bool, true, false, refl, ⊎_elim}
use Rattle.std.specs.List.{list_any}
use Rattle.std.proofs.lemmas.Bool.{cases_Bool}
use Rattle.slot_plan.specs.declared.params.Params.{Params}
use Rattle.stripe_layout.specs.declared.catalogue.Catalogue.{Catalogue}
use Rattle.node_kit.specs.declared.course.ReadFault.{ReadFault}
use Rattle.disk_core.specs.Rules.{is_faulty, strikes}
use Rattle.proof_ring.specs.Runs.{disk_of_run}
use Rattle.proof_parcels.specs.Parcels.{HaveFaults}

-- What some of those that pass a test do, some of all do.
pub any_kept : {X : Type 0} (test does : X → Bool) (xs : List X) → list_any does (filter test xs) ≡ true → list_any does xs ≡ true
any_kept test does [] e = e
any_kept test does (x ∷ xs) e = ⊎_elim
    (λ (d : does x ≡ true). rw d refl)
    (λ (d : does x ≡ false). ⊎_elim
    (λ (t : test x ≡ true). let z = rw (t, d) at e in rw d (any_kept test does xs z))
    (λ (t : test x ≡ false). let z = rw t at e in rw d (any_kept test does xs z))
    (cases_Bool (test x)))
    (cases_Bool (does x))

pub have_faults : (p : Params) (faults : List ReadFault) (catalogue : Catalogue) (library : List (List ℕ)) → HaveFaults p faults (disk_of_run p faults catalogue library)
unfolding is_faulty
have_faults p faults catalogue library d b small struck = any_kept (λ (fault : ReadFault). fault.disk.0 == d) (strikes d b) faults struck
