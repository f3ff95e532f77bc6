-- What each message makes of a view's lines: a viewer state adds, a deschedule takes away, and all others leave them.
use Rattle.std.proofs.Common.{◌≡◌, ℕ, List, refl, sym, ap, subst, ◌∙◌, ⊎_elim}
use Rattle.std.specs.List.{AllByRecursion}
use Rattle.tiger_base.specs.declared.number.Instance.{Instance}
use Rattle.tiger_base.specs.declared.number.LinkNo.{LinkNo}
use Rattle.tiger_base.specs.declared.number.Stamp.{Stamp}
use Rattle.tiger_base.specs.declared.tenancy.Rec.{Rec}
use Rattle.tiger_base.specs.declared.tenancy.State.{State}
use Rattle.tiger_base.specs.declared.tenancy.Tenancy.{Tenancy}
use Rattle.tiger_base.specs.declared.message.Msg.{Msg}
use Rattle.tiger_base.specs.declared.message.Msg.TheVariants as msg
use Rattle.slot_plan.specs.declared.params.Params.{Params}
use Rattle.node_kit.specs.declared.journal.What.TheVariants as what
use Rattle.node_kit.specs.declared.outbox.Out.{Out}
use Rattle.node_kit.specs.declared.outbox.Out.TheVariants as out
use Rattle.node_kit.specs.Steps.{Deed}
use Rattle.cub_rules.specs.declared.store.Store.{Store}
use Rattle.cub_rules.specs.Messages.{taking}
use Rattle.cub_changes.specs.Changes.{Change}
use Rattle.cub_changes.specs.Changes.Change.{DropLines, SendFirst, SendPlaced, ServeBlocks, DropBackups}
use Rattle.cub_changes.specs.Causes.{Stage, Cause, IsDeschedule, MayTake, MayTellPlace}
use Rattle.cub_changes.specs.Causes.Stage.{OnMessage}
use Rattle.cub_changes.proofs.Closed.{OfEach}
use Rattle.cub_changes.proofs.Fits.{IsOfMessage, fits}
use Rattle.lists.proofs.Each.{all_wider, all_in}
use Rattle.cub_changes.proofs.Messages.{taking_by}
use Rattle.cub_changes.proofs.Outputs.{Puts, puts_closed, Tells, outs_of}
use Rattle.lists.specs.Elements.{In}
use Rattle.proof_lives.proofs.Moves.{Moves, MayGo, MovesOn, moves_closed, moves_of, taken_out}

-- ---- of which change an output comes
pub record OfChange (p : Params) (c : ℕ) (stamp : Stamp) (g : Stage) (from : Store) (o : Out Msg) : Type 0 where
  pub change : Change
  pub before : Store
  pub cause : Cause p c stamp g from change before
  pub tells : Tells p c stamp change before o

pub each_comes : (p : Params) (c : ℕ) (stamp : Stamp) (g : Stage) (from : Store) → OfEach (Puts p c stamp (OfChange p c stamp g from)) p c stamp g from
each_comes p c stamp g from x h cause =
    outs_of p c stamp x h (OfChange p c stamp g from) (λ o t. record { change = x; before = h; cause = cause; tells = t })

-- why a record may leave at a message: it is of an instance that is descheduled
abbrev pub MayLeave : Msg → Rec → Type 0
MayLeave (msg.Deschedule v tag) r = r.tenancy.instance.0 ≡ v.0
MayLeave other r = ⊥

-- outputs that put nothing, and send no state
abbrev pub IsNoPut : Out Msg → Type 0
IsNoPut (out.Act (what.Put t)) = ⊥
IsNoPut (out.Send link (msg.ViewerState s)) = ⊥
IsNoPut other = Unit {0}

abbrev pub AreNoPuts : List (Out Msg) → Type 0
AreNoPuts outs = AllByRecursion IsNoPut outs

-- ---- what a message makes of the lines: only a viewer state tells of records, and none puts
pub record Hears (p : Params) (c : ℕ) (m : Msg) (h : Store) (d : Deed Msg Store) : Type 0 where
  pub moves : Moves p c (MayLeave m) h.view.lines d
  pub no_puts : AreNoPuts d.outs
  pub only_states : (r : Rec) → In (taken_out r) d.outs → (s : State) × (m ≡ msg.ViewerState s)

module _ (p : Params) (c : ℕ) (stamp : Stamp) (link : LinkNo) where
  drops : (m : Msg) (v : Instance) → IsDeschedule (OnMessage link m) v → (r : Rec) → r.tenancy.instance.0 ≡ v.0 → MayLeave m r
  drops (msg.Deschedule w tag) v stop r e = e ∙ ap (λ (x : Instance). x.0) stop
  drops other v stop r e = absurd stop

  leaves : (m : Msg) (from : Store) (x : Change) (h : Store) → Cause p c stamp (OnMessage link m) from x h → (r : Rec) → MayGo p stamp x r → MayLeave m r
  leaves m from (DropLines v) h cause r go = drops m v cause r go
  leaves m from ServeBlocks h cause r go = absurd cause
  leaves m from DropBackups h cause r go = absurd cause
  leaves m from other h cause r go = absurd go

  no_put : (x : Change) (h : Store) → IsOfMessage x → (o : Out Msg) → Tells p c stamp x h o → IsNoPut o
  no_put x h f (out.Act (what.Put t)) tells = subst IsOfMessage tells f
  no_put x h f (out.Act other) tells = tt
  no_put x h f (out.Send way (msg.ViewerState s)) tells = ⊎_elim (λ k. subst IsOfMessage k.1 f) (λ k. subst IsOfMessage k.1 f) tells
  no_put x h f (out.Send way other) tells = tt

  of_state : (m : Msg) (h : Store) (r : Rec) → MayTake p c stamp (OnMessage link m) h r → (s : State) × (m ≡ msg.ViewerState s)
  of_state (msg.ViewerState s) h r may = (s, refl)
  of_state other h r may = absurd may

  all_come : (m : Msg) (h : Store) → AllByRecursion (OfChange p c stamp (OnMessage link m) h) (taking p c stamp link m h).outs
  all_come m h =
      let Q : Out Msg → Type 0 = OfChange p c stamp (OnMessage link m) h in
      taking_by (Puts p c stamp Q) (puts_closed p c stamp Q) p c stamp link m h (each_comes p c stamp (OnMessage link m) h)

  pub message_out : (m : Msg) (h : Store) (o : Out Msg) → In o (taking p c stamp link m h).outs → OfChange p c stamp (OnMessage link m) h o
  message_out m h o i = all_in (OfChange p c stamp (OnMessage link m) h) o (taking p c stamp link m h).outs (all_come m h) i

  -- what lets a record be taken
  pub message_took : (m : Msg) (h : Store) (r : Rec) → In (taken_out r) (taking p c stamp link m h).outs → MayTake p c stamp (OnMessage link m) h r
  message_took m h r i =
      let k = message_out m h (taken_out r) i in
      (subst (λ (x : Change). Cause p c stamp (OnMessage link m) h x k.before) k.tells k.cause).0

  -- what lets a place be told
  pub message_placed : (m : Msg) (h : Store) (way : LinkNo) (t : Tenancy) → In (out.Send way (msg.Placed t)) (taking p c stamp link m h).outs
      → MayTellPlace p c stamp (OnMessage link m) h t
  message_placed m h way t i =
      let k = message_out m h (out.Send way (msg.Placed t)) i in
      let because : (x : Change) → x ≡ k.change → Cause p c stamp (OnMessage link m) h x k.before = λ x e.
      subst (λ (y : Change). Cause p c stamp (OnMessage link m) h y k.before) (sym e) k.cause in
      ⊎_elim
      (λ e. absurd ((because (SendFirst t) (sym e)).0))
      (λ e. because (SendPlaced t) (sym e))
      k.tells

  pub taking_hears : (m : Msg) (h : Store) → Hears p c m h (taking p c stamp link m h)
  taking_hears m h = record {
    moves = taking_by (MovesOn p c (MayLeave m)) (moves_closed p c (MayLeave m)) p c stamp link m h
        (λ x q cause. moves_of p c stamp (MayLeave m) (OnMessage link m) h x q cause (leaves m h x q cause));
    no_puts = all_wider (OfChange p c stamp (OnMessage link m) h) IsNoPut
        (λ o k. no_put k.change k.before (fits p c stamp h (OnMessage link m) k.change k.before k.cause) o k.tells)
        (taking p c stamp link m h).outs (all_come m h);
    only_states = λ r i. of_state m h r (message_took m h r i);
  }
