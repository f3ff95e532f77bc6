-- A cub sends heartbeats only in its first life.
use Rattle.std.proofs.Common.{◌≡◌, ℕ, Option, None, refl, sym, subst, ◌∙◌, ⊎_elim}
use Rattle.tiger_base.specs.declared.number.LinkNo.{LinkNo}
use Rattle.tiger_base.specs.declared.number.Stamp.{Stamp}
use Rattle.tiger_base.specs.declared.message.Msg.{Msg}
use Rattle.tiger_base.specs.declared.message.Msg.TheVariants as msg
use Rattle.slot_plan.specs.declared.params.Params.{Params}
use Rattle.node_kit.specs.declared.outbox.Out.{Out}
use Rattle.node_kit.specs.declared.outbox.Out.TheVariants as out
use Rattle.node_kit.specs.Steps.{Deed, Input}
use Rattle.node_kit.specs.Steps.Input.{Take, Tick}
use Rattle.cub_rules.specs.declared.comeback.Comeback.{Comeback}
use Rattle.cub_rules.specs.declared.store.Store.{Store}
use Rattle.cub_rules.specs.Cubs.{deed_of}
use Rattle.cub_changes.specs.Causes.{Stage, Cause}
use Rattle.cub_changes.specs.Causes.Stage.{OnMessage}
use Rattle.cub_changes.specs.Changes.{Change, did}
use Rattle.cub_changes.specs.Changes.Change.{Release, Beat}
use Rattle.cub_changes.specs.Outputs.{Output, output, ComesOf}
use Rattle.cub_changes.specs.Outputs.Output.{HeartbeatSent}
use Rattle.cub_changes.proofs.Closed.{IsClosed, OfEach}
use Rattle.cub_changes.proofs.Messages.{taking_by}
use Rattle.cub_changes.proofs.Outputs.{forms_of}
use Rattle.cub_changes.proofs.Ticks.{ticking_since}
use Rattle.lists.specs.Elements.{In}
use Rattle.lists.proofs.Each.{all_in}
use Rattle.lists.proofs.Elements.{in_cases}

abbrev IsHeartbeat : Out Msg → Type 0
IsHeartbeat (out.Send link msg.Heartbeat) = Unit {0}
IsHeartbeat other = ⊥

-- a deed leaves this comeback, and has a heartbeat only if there is none
record Leaves (back : Option Comeback) (d : Deed Msg Store) : Type 0 where
  same : d.state.comeback ≡ back
  first : (o : Out Msg) → In o d.outs → IsHeartbeat o → back ≡ None

abbrev Keeps : Option Comeback → Store → Deed Msg Store → Type 0
Keeps back h d = h.comeback ≡ back → Leaves back d

keeps_closed : (back : Option Comeback) → IsClosed (Keeps back)
keeps_closed back = record {
  none = λ h e. record { same = e; first = λ o i k. absurd i };
  both = λ h d e one two is.
      let a = one is in
      let b = two a.same in
      record {
        same = b.same;
        first = λ o i k. ⊎_elim (λ q. a.first o q k) (λ q. b.first o q k) (in_cases o d.outs e.outs i);
      };
}

same_change : (p : Params) (c : ℕ) (stamp : Stamp) (x : Change) (h : Store) → (did p c stamp x h).state.comeback ≡ h.comeback
same_change p c stamp Release h = refl
same_change p c stamp other h = refl

form_beats : (p : Params) (c : ℕ) (stamp : Stamp) (f : Output) → IsHeartbeat (output p c stamp f) → f ≡ HeartbeatSent
form_beats p c stamp HeartbeatSent k = refl
form_beats p c stamp other k = absurd k

each : (back : Option Comeback) (p : Params) (c : ℕ) (stamp : Stamp) (g : Stage) (from : Store)
    → OfEach (Keeps back) p c stamp g from
each back p c stamp g from x h cause is = record {
  same = same_change p c stamp x h ∙ is;
  first = λ o i.
      all_in (λ (q : Out Msg). IsHeartbeat q → back ≡ None) o (did p c stamp x h).outs
      (forms_of p c stamp (λ (q : Out Msg). IsHeartbeat q → back ≡ None) x h
      (λ f comes k.
      let beat : x ≡ Beat =
      subst (λ (q : Output). ComesOf p c stamp x h q) (form_beats p c stamp f k) comes in
      let why = subst (λ (y : Change). Cause p c stamp g from y h) beat cause in
      sym is ∙ why.2)) i;
}

leaves_none : (p : Params) (c : ℕ) (i : Input Msg) (h : Store) → Leaves h.comeback (deed_of p c i h)
leaves_none p c (Take stamp link m) h =
    taking_by (Keeps h.comeback) (keeps_closed h.comeback) p c stamp link m h
    (each h.comeback p c stamp (OnMessage link m) h) refl
leaves_none p c (Tick stamp) h =
    ticking_since (Keeps h.comeback) (keeps_closed h.comeback) p c stamp h
    (λ g d t so. each h.comeback p c stamp g d.state) refl

-- Who sends a heartbeat has come back from nowhere.
pub beats_first : (p : Params) (c : ℕ) (i : Input Msg) (h : Store) (link : LinkNo)
    → In (out.Send link msg.Heartbeat) (deed_of p c i h).outs → h.comeback ≡ None
beats_first p c i h link k = (leaves_none p c i h).first (out.Send link msg.Heartbeat) k tt
