-- Along a cub's life: of which answer each stored part came, and how long it stays.
use Rattle.std.proofs.Common.{ℕ, ◌≤◌, ⊎_elim, inl, inr}
use Rattle.std.specs.Prelude.{◌⊎◌}
use Rattle.tiger_base.specs.declared.message.Msg.{Msg}
use Rattle.slot_plan.specs.declared.params.Params.{Params}
use Rattle.node_kit.specs.Steps.{Input}
use Rattle.cub_rules.specs.declared.store.StoredPart.{StoredPart}
use Rattle.proof_lives.specs.Lives.{store_at}
use Rattle.lists.specs.Elements.{In}
use Rattle.proof_lives.proofs.Trails.{came_since, held_until}
use Rattle.proof_parts.specs.Parts.{CameByAnswer, MayCost, MayBeLost}
use Rattle.proof_parts.proofs.Storing.{IsAnswered, part_back, part_stays}

module _ (p : Params) (c : ℕ) (inputs : ℕ → Input Msg) where
  abbrev IsStored : StoredPart → ℕ → Type 0
  IsStored x i = In x (store_at p c inputs i).parts

  -- each part came by an answer, and is there since
  pub came_by_answer : (i : ℕ) (x : StoredPart) → IsStored x i → CameByAnswer p c inputs i x
  came_by_answer i x k =
      let s = came_since (IsStored x) (λ n. IsAnswered p x (inputs n) (store_at p c inputs n)) (λ h. h) i
      (λ n _ h. part_back p c (inputs n) (store_at p c inputs n) x h) k in
      record {
        at = s.at;
        before = s.before;
        stamp = s.came.stamp;
        link = s.came.link;
        is = s.came.is;
        formed = s.came.formed;
        wanted = s.came.wanted;
        stays = s.since;
      }

  -- a part stays until an input may cost it
  pub stays_until : (j i : ℕ) (x : StoredPart) → j ≤ i → IsStored x j → IsStored x i ⊎ MayBeLost p inputs x j i
  stays_until j i x le k = ⊎_elim
      (λ s. inl s)
      (λ u. inr (record { at = u.at; since = u.from; before = u.before; costs = u.may }))
      (held_until (IsStored x) (λ n. MayCost p (inputs n) x) i j le
      (λ n _ _ h. part_stays p c (inputs n) (store_at p c inputs n) x h) k)
