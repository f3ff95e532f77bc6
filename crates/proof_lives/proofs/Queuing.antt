-- The starts that a cub keeps, and when it last heard its predecessor: which messages and steps change that.
use Rattle.std.proofs.Common.{◌≡◌, ℕ, ◌++◌, Option, refl, sym, ap, subst, true, ◌∙◌, ⊎_elim, inl, inr, append-nil}
use Rattle.std.specs.Prelude.{◌⊎◌}
use Rattle.tiger_base.specs.declared.number.Instance.{Instance}
use Rattle.tiger_base.specs.declared.number.LinkNo.{LinkNo}
use Rattle.tiger_base.specs.declared.number.Stamp.{Stamp}
use Rattle.tiger_base.specs.declared.tenancy.Rec.{Rec}
use Rattle.tiger_base.specs.declared.tenancy.Tag.{Tag}
use Rattle.tiger_base.specs.declared.message.Msg.{Msg}
use Rattle.tiger_base.specs.declared.message.Msg.TheVariants as msg
use Rattle.slot_plan.specs.declared.params.Params.{Params}
use Rattle.insert_queue.specs.Queues.{Queues, without_start, IsOnce}
use Rattle.insert_queue.proofs.Once.{IsOnce-more, IsOnce-end, IsOnce-without}
use Rattle.deadman.specs.Silence.{Silence}
use Rattle.node_kit.specs.Steps.{Deed}
use Rattle.node_kit.specs.Ways.{way_ahead, predecessor}
use Rattle.cub_rules.specs.declared.store.Store.{Store}
use Rattle.cub_rules.specs.Records.{took}
use Rattle.cub_rules.specs.Messages.{position, holding, taking}
use Rattle.cub_rules.specs.Ticks.{inserting, ticking}
use Rattle.cub_changes.specs.Changes.{Change, did}
use Rattle.cub_changes.specs.Changes.Change.{DropStart, Queue, QueueApart, HearBeat, Believe, PutStart}
use Rattle.cub_changes.specs.Causes.{Stage, IsHeartbeat}
use Rattle.cub_changes.specs.Causes.Stage.{OnMessage, OnService}
use Rattle.cub_changes.proofs.Closed.{IsClosed, OfEach}
use Rattle.cub_changes.proofs.Beliefs.{Minds, minds_closed, minds_each}
use Rattle.cub_changes.proofs.Fits.{IsOfService, fits}
use Rattle.cub_changes.proofs.Messages.{passing_each, taking_by, took_of}
use Rattle.cub_changes.proofs.Ticks.{before_inserting, before_splitting, service_by, ticking_by}
use Rattle.cub_changes.proofs.Chains.{tick_late, stopped}
use Rattle.node_kit.specs.Form.{is_in_form}
use Rattle.tiger_base.specs.Notes.{noted}

-- ---- single rules

-- a deed changes neither
abbrev pub Steady : Store → Deed Msg Store → Type 0
Steady h d = (d.state.starts ≡ h.starts) × (d.state.watch ≡ h.watch)

pub took_steady : (r : Rec) (h : Store) → Steady h (took r h)
took_steady r h = took_of (Steady h) r h (λ _. (refl, refl)) (λ _. (refl, refl))

steady_closed : IsClosed Steady
steady_closed = record { none = λ h. (refl, refl); both = λ h d e one two. (two.0 ∙ one.0, two.1 ∙ one.1) }

-- a deschedule drops the starts of its instance
pub stop_starts : (p : Params) (c : ℕ) (stamp : Stamp) (link : LinkNo) (v : Instance) (tag : Option Tag) (h : Store)
    → is_in_form p (noted (msg.Deschedule v tag)) ≡ true
    → (taking p c stamp link (msg.Deschedule v tag) h).state.starts ≡ without_start h.starts v
stop_starts p c stamp link v tag h form =
    let g : Store = (holding p stamp v h).state in
    ap (λ (s : Store). s.starts) (stopped p c stamp link v tag h form)
    ∙ ap (λ (q : Queues). without_start q v)
    (passing_each Steady steady_closed p c stamp v (position p c v tag g.view.lines) g (λ k is must. (refl, refl))).0

-- ---- each instance stands in the lists once
abbrev pub AreOnce : Queues → Type 0
AreOnce q = IsOnce (q.waiting ++ q.redundant)

abbrev pub StaysOnce : Store → Deed Msg Store → Type 0
StaysOnce h d = AreOnce h.starts → AreOnce d.state.starts

pub once_closed : IsClosed StaysOnce
once_closed = record { none = λ h o. o; both = λ h d e one two o. two (one o) }

pub once_each : (p : Params) (c : ℕ) (stamp : Stamp) (g : Stage) (from : Store) → OfEach StaysOnce p c stamp g from
once_each p c stamp g from (Queue a) h cause = λ o. IsOnce-more h.starts.waiting h.starts.redundant a o cause.1
once_each p c stamp g from (QueueApart a) h cause = λ o. IsOnce-end h.starts.waiting h.starts.redundant a o cause.1
once_each p c stamp g from (DropStart v) h cause = λ o. IsOnce-without h.starts.waiting h.starts.redundant v o
once_each p c stamp g from (PutStart t) h cause = λ o. IsOnce-without h.starts.waiting h.starts.redundant t.instance o
once_each p c stamp g from Believe h cause = λ o. subst IsOnce (sym (append-nil (h.starts.waiting ++ h.starts.redundant))) o
once_each p c stamp g from other h cause = λ o. o

-- ---- what a message makes of the starts that wait, and of the watch

-- a heartbeat of the predecessor is heard
abbrev pub IsHeard : Params → ℕ → Stamp → LinkNo → Msg → Silence → Silence → Type 0
IsHeard p c stamp link m old new = (m ≡ msg.Heartbeat) × (link.0 ≡ (way_ahead p (predecessor p c) 1).0) × (new ≡ record old { heard = stamp.reading })

module _ (p : Params) (c : ℕ) (stamp : Stamp) (link : LinkNo) (m : Msg) where
  abbrev Watches : Store → Deed Msg Store → Type 0
  Watches h d = (d.state.watch ≡ h.watch) ⊎ IsHeard p c stamp link m h.watch d.state.watch

  again : Silence → Silence
  again w = record w { heard = stamp.reading }

  watches_closed : IsClosed Watches
  unfolding again
  watches_closed = record {
    none = λ h. inl refl;
    both = λ h d e one two. ⊎_elim
        (λ f. ⊎_elim (λ k. inl (f ∙ k)) (λ k. inr (k.0, k.1, f ∙ k.2)) one)
        (λ f. inr (f.0, f.1, f.2 ∙ ⊎_elim (λ k. ap again k) (λ k. ap again k.2) one))
        two;
  }

  pub is_beat : (n : Msg) → IsHeartbeat p c (OnMessage link n) → (n ≡ msg.Heartbeat) × (link.0 ≡ (way_ahead p (predecessor p c) 1).0)
  is_beat msg.Heartbeat k = (refl, k)
  is_beat other k = absurd k

  watch_each : (from : Store) → OfEach Watches p c stamp (OnMessage link m) from
  watch_each from HearBeat h cause = let b = is_beat m cause in inr (b.0, b.1, refl)
  watch_each from other h cause = inl refl

  pub taking_watch : (h : Store) → Watches h (taking p c stamp link m h)
  taking_watch h = taking_by Watches watches_closed p c stamp link m h (watch_each h)

-- ---- the tick
pub ticking_watch : (p : Params) (c : ℕ) (stamp : Stamp) (h : Store) → (ticking p c stamp h).state.watch ≡ h.watch
ticking_watch p c stamp h = (ticking_by (Minds p c stamp) (minds_closed p c stamp) p c stamp h (λ g from t. minds_each p c stamp g from t)).watch

-- behind insertion no start comes or goes
same_starts : (p : Params) (c : ℕ) (stamp : Stamp) (x : Change) → IsOfService x → (h : Store) → (did p c stamp x h).state.starts ≡ h.starts
same_starts p c stamp (DropStart v) f h = absurd f
same_starts p c stamp (Queue a) f h = absurd f
same_starts p c stamp (QueueApart a) f h = absurd f
same_starts p c stamp (PutStart t) f h = absurd f
same_starts p c stamp Believe f h = absurd f
same_starts p c stamp other f h = refl

pub ticking_starts : (p : Params) (c : ℕ) (stamp : Stamp) (h : Store) → (ticking p c stamp h).state.starts ≡ (inserting p c stamp (before_inserting p c stamp h)).state.starts
ticking_starts p c stamp h =
    ap (λ (s : Store). s.starts) (tick_late p c stamp h)
    ∙ service_by (λ (s : Store) (d : Deed Msg Store). d.state.starts ≡ s.starts) (record { none = λ s. refl; both = λ s d e one two. two ∙ one }) p c stamp (before_splitting p c stamp h)
    (λ from x q cause. same_starts p c stamp x (fits p c stamp from OnService x q cause) q)
