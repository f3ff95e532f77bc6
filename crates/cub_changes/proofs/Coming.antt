-- A cub that came back stays one that did, and puts nobody.
use Rattle.std.proofs.Common.{◌≡◌, ℕ, ◌==◌, ◌%◌, true, Option, None, refl, sym, subst, ◌∙◌, ⊎_elim, Some, ap, inl, inr}
use Rattle.tiger_base.specs.declared.number.Stamp.{Stamp}
use Rattle.tiger_base.specs.declared.tenancy.Tenancy.{Tenancy}
use Rattle.tiger_base.specs.declared.message.Msg.{Msg}
use Rattle.tiger_base.specs.declared.message.Msg.TheVariants as msg
use Rattle.slot_plan.specs.declared.params.Params.{Params}
use Rattle.node_kit.specs.declared.journal.What.TheVariants as what
use Rattle.node_kit.specs.declared.outbox.Out.TheVariants as out
use Rattle.node_kit.specs.Steps.{Deed}
use Rattle.node_kit.specs.Steps.Input.{Take, Tick}
use Rattle.cub_rules.specs.declared.comeback.Comeback.{Comeback}
use Rattle.cub_rules.specs.declared.store.Store.{Store}
use Rattle.cub_rules.specs.Ticks.{releasing, believing, inserting, splitting, forwarding, reading, serving, ticking}
use Rattle.cub_changes.specs.Changes.{Change, did}
use Rattle.cub_changes.specs.Changes.Change.{HearBack, Release, PutStart}
use Rattle.cub_changes.specs.Causes.{Stage, IsOfPredecessor, IsToldBack, Cause}
use Rattle.cub_changes.specs.Causes.Stage.{OnMessage, OnRelease, OnDeadman, OnInsertion, OnService}
use Rattle.lists.specs.Elements.{In}
use Rattle.lists.proofs.Elements.{in_cases, in_right}
use Rattle.node_kit.specs.declared.outbox.Out.{Out}
use Rattle.node_kit.specs.Ways.{way_ahead}
use Rattle.cub_changes.proofs.Chains.{beats, tick_served, service_out}
use Rattle.cub_changes.proofs.Order.{from_reading}
use Rattle.cub_changes.specs.Laws.{CubsKeepComeback}
use Rattle.cub_changes.proofs.Closed.{IsClosed, OfEach}
use Rattle.cub_changes.proofs.Messages.{taking_by}
use Rattle.cub_changes.proofs.Outputs.{tells_of}
use Rattle.cub_changes.proofs.Puts.{inserting_by}
use Rattle.cub_changes.proofs.Ticks.{releasing_by, believing_by, splitting_by, forwarding_by, reading_by, ticking_since, IsOfTick, before_inserting, before_splitting, before_forwarding, ticking_by}
use Rattle.std.specs.Prelude.{◌⊎◌}
use Rattle.tiger_base.specs.declared.number.LinkNo.{LinkNo}
use Rattle.cub_rules.specs.Messages.{taking}

-- a deed leaves this comeback, and has a Put only if there is none
record Leaves (back : Option Comeback) (d : Deed Msg Store) : Type 0 where
  same : d.state.comeback ≡ back
  first_life : (t : Tenancy) → In (out.Act (what.Put t)) d.outs → back ≡ None

abbrev Keeps : Option Comeback → Store → Deed Msg Store → Type 0
Keeps back h d = h.comeback ≡ back → Leaves back d

keeps_closed : (back : Option Comeback) → IsClosed (Keeps back)
keeps_closed back = record {
  none = λ h e. record { same = e; first_life = λ t i. absurd i };
  both = λ h d e one two is.
      let first = one is in
      let second = two first.same in
      record {
        same = second.same;
        first_life = λ t i. ⊎_elim (λ k. first.first_life t k) (λ k. second.first_life t k)
            (in_cases (out.Act (what.Put t)) d.outs e.outs i);
      };
}

-- ---- no change makes or ends a comeback, so no step of a tick does

abbrev IsSame : Store → Deed Msg Store → Type 0
IsSame h d = d.state.comeback ≡ h.comeback

same_closed : IsClosed IsSame
same_closed = record { none = λ h. refl; both = λ h d e one two. two ∙ one }

same_change : (p : Params) (c : ℕ) (stamp : Stamp) (x : Change) (h : Store) → (did p c stamp x h).state.comeback ≡ h.comeback
same_change p c stamp Release h = refl
same_change p c stamp other h = refl

module _ (p : Params) (c : ℕ) (stamp : Stamp) (h : Store) where
  same_in : (g : Stage) → OfEach IsSame p c stamp g h
  same_in g x q cause = same_change p c stamp x q

  pub releasing_same : (releasing p stamp h).state.comeback ≡ h.comeback
  releasing_same = releasing_by IsSame same_closed p c stamp h (same_in OnRelease)

  pub believing_same : (believing p c stamp h).state.comeback ≡ h.comeback
  believing_same = believing_by IsSame same_closed p c stamp h (same_in OnDeadman)

  pub inserting_same : (inserting p c stamp h).state.comeback ≡ h.comeback
  inserting_same = inserting_by IsSame same_closed p c stamp h (same_in OnInsertion)

  pub splitting_same : (splitting p c stamp h).state.comeback ≡ h.comeback
  splitting_same = splitting_by IsSame same_closed p c stamp h (same_in OnService)

  pub forwarding_same : (forwarding p c stamp h).state.comeback ≡ h.comeback
  forwarding_same = forwarding_by IsSame same_closed p c stamp h (same_in OnService)

  pub reading_same : (reading p stamp h).state.comeback ≡ h.comeback
  reading_same = reading_by IsSame same_closed p c stamp h (same_in OnService)

  -- so one that did not come back puts out a heartbeat in each beat of the number
  pub beat_out : h.comeback ≡ None → (stamp.beat % p.heart == 0) ≡ true
      → In (out.Send (way_ahead p c 1) msg.Heartbeat) (ticking p c stamp h).outs
  beat_out first e =
      let o : Out Msg = out.Send (way_ahead p c 1) msg.Heartbeat in
      let h3 : Store = before_splitting p c stamp h in
      let h4 : Store = before_forwarding p c stamp h in
      let h5 : Store = from_reading p c stamp h in
      let h6 : Store = (reading p stamp h5).state in
      let h7 : Store = (serving p c stamp h6).state in
      let none : h7.comeback ≡ None = keep_all ∙ first in
      service_out p c stamp h o
      (in_right o (splitting p c stamp h3).outs _ (in_right o (forwarding p c stamp h4).outs _ (in_right o (reading p stamp h5).outs _
      (in_right o (serving p c stamp h6).outs _
      (subst (λ (d : Deed Msg Store). In o d.outs) (sym (beats p c stamp h7 none e)) (inl refl))))))
    where
      keep_all : (serving p c stamp (reading p stamp (from_reading p c stamp h)).state).state.comeback ≡ h.comeback
      keep_all =
          ap (λ (s : Store). s.comeback) (sym (tick_served p c stamp h))
          ∙ ticking_by IsSame same_closed p c stamp h (λ g from t x q cause. same_change p c stamp x q)

-- ---- what the predecessor handed back changes at its message alone

abbrev pub KeepsHandback : Store → Deed Msg Store → Type 0
KeepsHandback h d = d.state.handback ≡ h.handback

handback_closed : IsClosed KeepsHandback
handback_closed = record { none = λ h. refl; both = λ h d e one two. two ∙ one }

handback_change : (p : Params) (c : ℕ) (stamp : Stamp) (x : Change) (h : Store)
    → ((did p c stamp x h).state.handback ≡ h.handback) ⊎ ((at : ℕ) × (x ≡ HearBack at))
handback_change p c stamp (HearBack at) h = inr (at, refl)
handback_change p c stamp other h = inl refl

none_heard : (p : Params) (c : ℕ) (g : Stage) (at : ℕ) → IsOfTick g → IsToldBack p c g at → ⊥
none_heard p c (OnMessage link m) at t k = t
none_heard p c other at t k = k

module _ (p : Params) (c : ℕ) (stamp : Stamp) where
  handback_in : (g : Stage) (from : Store) → IsOfTick g → OfEach KeepsHandback p c stamp g from
  handback_in g from t x h cause = ⊎_elim
      (λ e. e)
      (λ e. absurd (none_heard p c g e.0 t (subst (λ y. Cause p c stamp g from y h) e.1 cause)))
      (handback_change p c stamp x h)

  -- so a tick keeps it up to where it splits
  pub splitting_handback : (h : Store) → (before_splitting p c stamp h).handback ≡ h.handback
  splitting_handback h =
      let h1 : Store = (releasing p stamp h).state in
      let h2 : Store = before_inserting p c stamp h in
      inserting_by KeepsHandback handback_closed p c stamp h2 (handback_in OnInsertion h2 tt)
      ∙ (believing_by KeepsHandback handback_closed p c stamp h1 (handback_in OnDeadman h1 tt)
      ∙ releasing_by KeepsHandback handback_closed p c stamp h (handback_in OnRelease h tt))

  -- a message keeps it, or tells of it
  abbrev pub HearsBack : LinkNo → Msg → Store → Deed Msg Store → Type 0
  HearsBack link m h d = (d.state.handback ≡ h.handback)
      ⊎ ((from : ℕ) × (m ≡ msg.Back from) × IsOfPredecessor p c link × (d.state.handback ≡ Some from))

  hears_closed : (link : LinkNo) (m : Msg) → IsClosed (HearsBack link m)
  hears_closed link m = record {
    none = λ h. inl refl;
    both = λ h d e one two. ⊎_elim
        (λ q. ⊎_elim (λ k. inl (q ∙ k)) (λ k. inr (k.0, k.1, k.2, q ∙ k.3)) one)
        (λ q. inr q)
        two;
  }

  of_message : (link : LinkNo) (m : Msg) (from : ℕ) → IsToldBack p c (OnMessage link m) from → (m ≡ msg.Back from) × IsOfPredecessor p c link
  of_message link (msg.Back at) from k = (ap msg.Back k.0, k.1)
  of_message link other from k = absurd k

  pub taking_hears_back : (link : LinkNo) (m : Msg) (h : Store) → HearsBack link m h (taking p c stamp link m h)
  taking_hears_back link m h =
      taking_by (HearsBack link m) (hears_closed link m) p c stamp link m h
      (λ x q cause. ⊎_elim
      (λ e. inl e)
      (λ e.
      let heard = of_message link m e.0 (subst (λ y. Cause p c stamp (OnMessage link m) h y q) e.1 cause) in
      inr (e.0, heard.0, heard.1, ap (λ (y : Change). (did p c stamp y q).state.handback) e.1))
      (handback_change p c stamp x q))

  pub ticking_handback : (h : Store) → (ticking p c stamp h).state.handback ≡ h.handback
  ticking_handback h = ticking_by KeepsHandback handback_closed p c stamp h (λ g from t. handback_in g from t)

-- ---- and a Put fills only what insertion began with in a first life

each : (back : Option Comeback) (p : Params) (c : ℕ) (stamp : Stamp) (g : Stage) (from : Store) → from.comeback ≡ back
    → OfEach (Keeps back) p c stamp g from
each back p c stamp g from began x h cause is = record {
  same = same_change p c stamp x h ∙ is;
  first_life = λ t i.
      let put : x ≡ PutStart t = tells_of p c stamp x h (out.Act (what.Put t)) i in
      let fills = (subst (λ y. Cause p c stamp g from y h) put cause).1 in
      sym began ∙ fills.first_life;
}

pub keep_comeback : CubsKeepComeback
keep_comeback p c (Take stamp link m) h =
    let back : Option Comeback = h.comeback in
    let leaves = taking_by (Keeps back) (keeps_closed back) p c stamp link m h (each back p c stamp (OnMessage link m) h refl) refl in
    record { same = leaves.same; first_life = leaves.first_life }
keep_comeback p c (Tick stamp) h =
    let back : Option Comeback = h.comeback in
    let leaves =
    ticking_since (Keeps back) (keeps_closed back) p c stamp h (λ g d t so. each back p c stamp g d.state (so refl).same) refl
    in
    record { same = leaves.same; first_life = leaves.first_life }
