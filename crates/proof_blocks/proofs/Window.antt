-- What a tick takes is due beyond the window, so that the tick neither asks for it nor sends it.
use Rattle.std.proofs.Common.{◌≡◌, ℕ, ◌+◌, ◌<◌, ◌≤◌, ⊎_elim, arith}
use Rattle.tiger_base.specs.declared.number.Stamp.{Stamp}
use Rattle.tiger_base.specs.declared.tenancy.Rec.{Rec}
use Rattle.tiger_base.specs.declared.message.Msg.{Msg}
use Rattle.slot_plan.specs.declared.params.Params.{Params}
use Rattle.slot_plan.specs.Conditions.{IsPlan}
use Rattle.slot_plan.specs.Times.{due}
use Rattle.slot_plan.proofs.Times.{due_mono}
use Rattle.node_kit.specs.Steps.{Input}
use Rattle.node_kit.specs.Steps.Input.{Tick}
use Rattle.cub_rules.specs.declared.store.Store.{Store}
use Rattle.proof_lives.specs.Lives.{store_at, outs_at}
use Rattle.lists.specs.Elements.{In}
use Rattle.proof_lives.proofs.Moves.{taken_out}
use Rattle.proof_lives.proofs.States.{took_inserted, at_tick_same}
use Rattle.proof_lives.proofs.TakingOver.{inserting_puts}
use Rattle.proof_lives.proofs.Ticking.{before_inserting}

pub taken_above : (p : Params) → IsPlan p → (c : ℕ) → c < p.cubs → (inputs : ℕ → Input Msg) (i : ℕ) (stamp : Stamp)
    (r : Rec)
    → inputs i ≡ Tick stamp → In (taken_out r) (outs_at p c inputs i)
    → stamp.reading + p.window_b < due p r.tenancy.slot.0 r.visit
taken_above p plan c small inputs i stamp r is taken =
    let h : Store = store_at p c inputs i in
    let puts = inserting_puts p c stamp plan small (before_inserting p c stamp h) in
    let k = took_inserted p c plan small stamp h r (at_tick_same p c inputs i stamp (taken_out r) is taken) in
    let of_put = puts.told r k in
    let above = (puts.put r.tenancy of_put.0).above in
    let from : r.tenancy.first ≤ r.visit =
    ⊎_elim (λ e. let n = e.0 in omega arith) (λ e. let n = e.0 in omega arith) of_put.1 in
    let later = due_mono p r.tenancy.slot.0 r.tenancy.first r.visit from in
    omega arith
