-- What a cub whose disks may die makes of an input, as a cub with what it keeps and with what it adds.
use Rattle.std.proofs.Common.{◌≡◌, ℕ, suc, List, ◌++◌, Option, ap, ◌∙◌}
use Rattle.tiger_base.specs.declared.message.Msg.{Msg}
use Rattle.slot_plan.specs.declared.params.Params.{Params}
use Rattle.mirror_schedule.specs.Pieces.{Pieces}
use Rattle.node_kit.specs.declared.outbox.Out.{Out}
use Rattle.node_kit.specs.Steps.{Deed, Input}
use Rattle.cub_rules.specs.declared.store.Store.{Store}
use Rattle.cub_rules.specs.State.{CubState}
use Rattle.cub_rules.specs.Cubs.{cub_step}
use Rattle.disk_death.specs.Spares.{SpareState, adding, spare_step}
use Rattle.proof_lives.specs.Lives.{deed_of, outs_at, store_at}
use Rattle.proof_lives.proofs.Wrapped.{GoesOn, cub_outs, cub_state, cub_with, last_at, last_behind}
use Rattle.proof_spare.specs.Added.{adding_at, remembered_at}

-- Such a cub with what it keeps, remembers and knows.
abbrev pub spare_with : Params → ℕ → List (Option ℕ) → Store → Option ℕ → Pieces → SpareState
spare_with p c deaths h last ps = record { inner = cub_with p c h last; deaths = deaths; remembered = ps }

module _ (p : Params) (c : ℕ) (deaths : List (Option ℕ)) where
  -- What it makes of an input with these outputs and this state of its cub.
  abbrev with_cub : Input Msg → Pieces → List (Out Msg) → CubState → Deed Msg SpareState
  with_cub k ps os cub = record {
    outs = os ++ (adding p c deaths k cub.store.view.lines ps).outs;
    state = record { inner = cub; deaths = deaths; remembered = (adding p c deaths k cub.store.view.lines ps).state };
  }

  pub spare_goes : (h : Store) (last : Option ℕ) (ps : Pieces) (k : Input Msg) → GoesOn last k
      → spare_step (spare_with p c deaths h last ps) k ≡ with_cub k ps (deed_of p c k h).outs (cub_with p c (deed_of p c k h).state (last_behind k last))
  spare_goes h last ps k on =
      ap (λ (os : List (Out Msg)). with_cub k ps os (cub_step (cub_with p c h last) k).state) (cub_outs p c h last k on)
      ∙ ap (λ (s : CubState). with_cub k ps (deed_of p c k h).outs s) (cub_state p c h last k on)

  -- It before the input of a number of its life.
  abbrev pub spare_at : (ℕ → Input Msg) → ℕ → SpareState
  spare_at inputs i = spare_with p c deaths (store_at p c inputs i) (last_at inputs i) (remembered_at p c deaths inputs i)

  pub next_spare : (inputs : ℕ → Input Msg) (i : ℕ) → GoesOn (last_at inputs i) (inputs i)
      → (spare_step (spare_at inputs i) (inputs i)).state ≡ spare_at inputs (suc i)
  next_spare inputs i on =
      ap (λ (d : Deed Msg SpareState). d.state) (spare_goes (store_at p c inputs i) (last_at inputs i) (remembered_at p c deaths inputs i) (inputs i) on)

  pub spare_puts : (inputs : ℕ → Input Msg) (i : ℕ) → GoesOn (last_at inputs i) (inputs i)
      → (spare_step (spare_at inputs i) (inputs i)).outs
      ≡ outs_at p c inputs i ++ (adding_at p c deaths inputs i (remembered_at p c deaths inputs i)).outs
  spare_puts inputs i on =
      ap (λ (d : Deed Msg SpareState). d.outs) (spare_goes (store_at p c inputs i) (last_at inputs i) (remembered_at p c deaths inputs i) (inputs i) on)
