-- What cubs whose disks may die add, in a history, to what a cub's rules make of what befell them.
use Rattle.std.specs.Prelude.{ℕ, zero, suc, List, [], Option}
use Rattle.tiger_base.specs.declared.message.Msg.{Msg}
use Rattle.slot_plan.specs.declared.params.Params.{Params}
use Rattle.mirror_schedule.specs.Pieces.{Pieces}
use Rattle.node_kit.specs.Steps.{Deed, Input}
use Rattle.disk_death.specs.Spares.{adding}
use Rattle.run_facts.specs.Histories.{History}
use Rattle.proof_lives.specs.Lives.{store_at}
use Rattle.proof_lives.specs.Histories.{lives_of}
use Rattle.proof_facts.specs.Beside.{Additions}

-- What cub c, whose disks die so, adds at the input of a number of its life, and what it remembers behind it, if it remembers
-- this before it.
abbrev pub adding_at : Params → ℕ → List (Option ℕ) → (ℕ → Input Msg) → ℕ → Pieces → Deed Msg Pieces
adding_at p c deaths inputs i ps = adding p c deaths (inputs i) (store_at p c inputs (suc i)).view.lines ps

-- What it remembers before that input.
abbrev pub remembered_at : Params → ℕ → List (Option ℕ) → (ℕ → Input Msg) → ℕ → Pieces
remembered_at p c deaths inputs zero = record { params = p; items = [] }
remembered_at p c deaths inputs (suc i) = (adding_at p c deaths inputs i (remembered_at p c deaths inputs i)).state

-- What the cubs of a history add, if their disks die so.
abbrev pub added_in : {S : Type 0} → Params → (ℕ → List (Option ℕ)) → History Msg S → Additions
added_in p deaths h c i =
    (adding_at p c (deaths c) ((lives_of h).input c) i (remembered_at p c (deaths c) ((lives_of h).input c) i)).outs
