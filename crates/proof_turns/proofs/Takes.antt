-- What a cub puts out when it takes a message may come of the take.
use Rattle.std.proofs.Common.{◌≡◌, ℕ, true, refl, ap, subst, ⊎_elim}
use Rattle.std.specs.Prelude.{None, false}
use Rattle.std.proofs.lemmas.Bool.{eq-eqb}
use Rattle.tiger_base.specs.declared.number.Instance.{Instance}
use Rattle.tiger_base.specs.declared.number.LinkNo.{LinkNo}
use Rattle.tiger_base.specs.declared.number.Stamp.{Stamp}
use Rattle.tiger_base.specs.declared.tenancy.Ask.{Ask}
use Rattle.tiger_base.specs.declared.tenancy.Rec.{Rec}
use Rattle.tiger_base.specs.declared.tenancy.Tag.{Tag}
use Rattle.tiger_base.specs.declared.tenancy.Tenancy.{Tenancy}
use Rattle.tiger_base.specs.declared.tenancy.Want.{Want}
use Rattle.tiger_base.specs.declared.message.Msg.{Msg}
use Rattle.tiger_base.specs.declared.message.Msg.TheVariants as msg
use Rattle.tiger_base.specs.Notes.{noted}
use Rattle.slot_plan.specs.declared.params.Params.{Params}
use Rattle.slot_plan.specs.Keys.{Key}
use Rattle.node_kit.specs.declared.outbox.Out.{Out}
use Rattle.node_kit.specs.Steps.{what_of}
use Rattle.cub_rules.specs.declared.store.Store.{Store}
use Rattle.mirror_schedule.specs.Splits.{Split}
use Rattle.partial_view.specs.declared.line.Line.{Line}
use Rattle.cub_changes.specs.Changes.{Change}
use Rattle.cub_changes.specs.Changes.Change.{PassOn, DropLines, DropStart, KillSplits, TakeRecord, Queue, FailRead, Believe, PutStart, SendFirst, SendPlaced, SplitVisits, Forward, AskBlocks, AskPieces, ServeBlocks, DropBackups, ServePieces, Beat}
use Rattle.cub_changes.specs.Causes.{Cause, IsDeschedule, MayDrop, MayPass, MayTake, MayTellPlace, MayQueue, IsAnswer}
use Rattle.cub_changes.specs.Causes.Stage.{OnMessage}
use Rattle.cub_changes.specs.Outputs.{Output, output, ComesOf}
use Rattle.cub_changes.specs.Outputs.Output.{Took, Dropped, Unqueued, Queued, Put, Believed, ReadFailed, DescheduleSent, KillSent, StateSent, MirrorStateSent, PlacedSent, AskSent, BlockSent, PieceSent, HeartbeatSent}
use Rattle.cub_changes.proofs.Fits.{IsOfMessage, fits}
use Rattle.cub_changes.proofs.Messages.{taking_by}
use Rattle.cub_changes.proofs.Outputs.{forms_of, Puts, puts_closed}
use Rattle.proof_turns.specs.Turns.{is_of_take}
use Rattle.proof_turns.specs.Laws.{TakesWriteTheirOwn}

-- an output may come of the take of a message
abbrev IsOwn : Msg → Out Msg → Type 0
IsOwn m o = is_of_take (noted m) (what_of noted o) ≡ true

module _ (p : Params) (c : ℕ) (stamp : Stamp) (link : LinkNo) where
  -- what causes a change at a message says which message that is
  took : (m : Msg) (from : Store) (r : Rec) → MayTake p c stamp (OnMessage link m) from r
      → IsOwn m (output p c stamp (Took r))
  took (msg.ViewerState s) from r may = refl
  took other from r may = absurd may

  unqueued : (m : Msg) (h : Store) (v : Instance) → MayDrop p c (OnMessage link m) v h
      → IsOwn m (output p c stamp (Unqueued v))
  unqueued (msg.ViewerState s) h v may = refl
  unqueued (msg.Deschedule w tag) h v may = refl
  unqueued other h v may = absurd may

  queued : (m : Msg) (h : Store) (a : Ask) → MayQueue (OnMessage link m) a false h
      → IsOwn m (output p c stamp (Queued a))
  queued (msg.Start redundant b) h a may = refl
  queued other h a may = absurd may

  failed : (m : Msg) (h : Store) (want : Want) → IsAnswer (OnMessage link m) want None h
      → IsOwn m (output p c stamp (ReadFailed want))
  failed (msg.ReadDone w part) h want may = refl
  failed other h want may = absurd may

  passed : (m : Msg) (from : Store) (v : Instance) (k : Key) (steps : ℕ) (tag : Tag)
      → MayPass p c stamp (OnMessage link m) from v k → IsOwn m (output p c stamp (DescheduleSent steps v tag))
  passed (msg.ViewerState s) from v k steps tag may = refl
  passed (msg.Deschedule w t) from v k steps tag may = refl
  passed other from v k steps tag may = absurd may

  placed : (m : Msg) (from : Store) (t : Tenancy) → MayTellPlace p c stamp (OnMessage link m) from t
      → IsOwn m (output p c stamp (PlacedSent t))
  placed (msg.ViewerState s) from t may = refl
  placed other from t may = absurd may

  dropped : (m : Msg) (y : Line) → IsDeschedule (OnMessage link m) y.rec.tenancy.instance
      → IsOwn m (output p c stamp (Dropped y))
  dropped (msg.Deschedule w tag) y may = eq-eqb y.rec.tenancy.instance.0 w.0 (ap (λ (v : Instance). v.0) may)
  dropped other y may = absurd may

  killed : (m : Msg) (v : Instance) (steps : ℕ) (y : Split) → IsDeschedule (OnMessage link m) v
      → IsOwn m (output p c stamp (KillSent steps y))
  killed (msg.Deschedule w tag) v steps y may = refl
  killed other v steps y may = absurd may

  module _ (m : Msg) (from : Store) (x : Change) (h : Store) (cause : Cause p c stamp (OnMessage link m) from x h) where
    -- a change with this cause
    abbrev Made : Change → Type 0
    Made y = Cause p c stamp (OnMessage link m) from y h

    made : (y : Change) → x ≡ y → Made y
    made y e = subst Made e cause

    never : (y : Change) → IsOfMessage x → x ≡ y → IsOfMessage y
    never y may e = subst IsOfMessage e may

    of_message : IsOfMessage x
    of_message = fits p c stamp from (OnMessage link m) x h cause

    form_own : (o : Output) → ComesOf p c stamp x h o → IsOwn m (output p c stamp o)
    form_own (Took r) comes = took m from r (made (TakeRecord r) comes).0
    form_own (Dropped y) comes = ⊎_elim
        (λ d. dropped m y (made (DropLines y.rec.tenancy.instance) d.0))
        (λ d. ⊎_elim
        (λ q. absurd (never ServeBlocks of_message q.0))
        (λ q. absurd (never DropBackups of_message q.0))
        d)
        comes
    form_own (Unqueued v) comes = unqueued m h v (made (DropStart v) comes)
    form_own (Queued a) comes = ⊎_elim
        (λ q. queued m h a (made (Queue a) q).0)
        (λ q. absurd (never Believe of_message q.0))
        comes
    form_own (Put t) comes = absurd (never (PutStart t) of_message comes)
    form_own Believed comes = absurd (never Believe of_message comes)
    form_own (ReadFailed want) comes = failed m h want (made (FailRead want) comes)
    form_own (DescheduleSent steps v tag) comes = passed m from v comes.0 steps tag (made (PassOn v comes.0) comes.1)
    form_own (KillSent steps y) comes = killed m y.0 steps y (made (KillSplits y.0) comes.0)
    form_own (StateSent steps s) comes = ⊎_elim
        (λ f. absurd (never Forward of_message f.1))
        (λ f. absurd (never (SendFirst f.0) of_message f.1))
        comes
    form_own (MirrorStateSent y) comes = absurd (never SplitVisits of_message comes.1)
    form_own (PlacedSent t) comes = ⊎_elim
        (λ q. absurd (never (SendFirst t) of_message q))
        (λ q. placed m from t (made (SendPlaced t) q))
        comes
    form_own (AskSent disk want) comes = ⊎_elim
        (λ f. absurd (never AskBlocks of_message f.1))
        (λ f. absurd (never AskPieces of_message f.1))
        comes
    form_own (BlockSent want part) comes = absurd (never ServeBlocks of_message comes.1)
    form_own (PieceSent want part) comes = absurd (never ServePieces of_message comes.1)
    form_own HeartbeatSent comes = absurd (never Beat of_message comes)

pub takes_own : TakesWriteTheirOwn
takes_own s stamp link m =
    let Q : Out Msg → Type 0 = IsOwn m in
    taking_by (Puts s.params s.cub stamp Q) (puts_closed s.params s.cub stamp Q) s.params s.cub stamp link m s.store
    (λ x h cause.
    forms_of s.params s.cub stamp Q x h (form_own s.params s.cub stamp link m s.store x h cause))
