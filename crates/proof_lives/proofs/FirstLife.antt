-- Along a life a cub lets in and serves what its opening says: everything, if its life began in beat 0.
use Rattle.std.proofs.Common.{◌≡◌, ℕ, zero, suc, ◌<◌, ◌≤◌, false, Some, None, refl, ◌∙◌, arith, ⊎_elim, inl, inr}
use Rattle.std.specs.Prelude.{◌⊎◌, ◌==◌}
use Rattle.std.proofs.lemmas.Bool.{cases_lt}
use Rattle.std.proofs.lemmas.Bool.Decides.{nat_tests}
use Rattle.tiger_base.specs.declared.number.Stamp.{Stamp}
use Rattle.tiger_base.specs.declared.message.Msg.{Msg}
use Rattle.slot_plan.specs.declared.params.Params.{Params}
use Rattle.node_kit.specs.Steps.{Input, stamp_of}
use Rattle.cub_rules.specs.Comebacks.{comeback_at}
use Rattle.cub_rules.specs.declared.store.Store.{Store}
use Rattle.cub_rules.specs.Ticks.{releasing}
use Rattle.cub_changes.proofs.Coming.{keep_comeback, releasing_same, believing_same}
use Rattle.cub_changes.proofs.Ticks.{before_inserting}
use Rattle.proof_lives.specs.Lives.{store_at, beat_at, reading_at, comeback_by}

-- What is otherwise since a return stays as it is at the opening.
pub comeback_at_opening : (p : Params) (c : ℕ) (inputs : ℕ → Input Msg) (i : ℕ)
    → (store_at p c inputs i).comeback ≡ comeback_by p (stamp_of (inputs 0))
comeback_at_opening p c inputs zero = refl
comeback_at_opening p c inputs (suc i) = (keep_comeback p c (inputs i) (store_at p c inputs i)).same ∙ comeback_at_opening p c inputs i

-- A life that began in beat 0 is a first one.
pub first_life : (p : Params) (c : ℕ) (inputs : ℕ → Input Msg) (i : ℕ) → beat_at inputs 0 ≡ 0 → (store_at p c inputs i).comeback ≡ None
first_life p c inputs i e = comeback_at_opening p c inputs i ∙ (rw e refl)

-- A beat is not 0, as its test says.
pub some_beat : (n : ℕ) → 0 < n → (n == 0) ≡ false
some_beat n l = grind (arith, nat_tests, l)

-- One that began later is one of a cub that came back, at the reading of its first input.
pub later_life : (p : Params) (c : ℕ) (inputs : ℕ → Input Msg) (i : ℕ) → 0 < beat_at inputs 0
    → (store_at p c inputs i).comeback ≡ Some (comeback_at p (reading_at inputs 0))
later_life p c inputs i l = comeback_at_opening p c inputs i ∙ (rw (some_beat (beat_at inputs 0) l) refl)

-- A life is one or the other.
pub first_or_later : (inputs : ℕ → Input Msg) → (beat_at inputs 0 ≡ 0) ⊎ (0 < beat_at inputs 0)
first_or_later inputs = ⊎_elim (λ l. inr l) (λ (g : beat_at inputs 0 ≤ 0). inl (omega arith)) (cases_lt 0 (beat_at inputs 0))

-- and so it is when its insertion begins
pub inserting_first : (p : Params) (c : ℕ) (stamp : Stamp) (h : Store) → h.comeback ≡ None
    → (before_inserting p c stamp h).comeback ≡ None
inserting_first p c stamp h first =
    believing_same p c stamp (releasing p stamp h).state ∙ (releasing_same p c stamp h ∙ first)
