-- What a cub's outputs tell besides their records: whom it believes dead, at which visit it puts, and in which order.
use Rattle.std.proofs.Common.{◌≡◌, ℕ, ◌+◌, ◌<◌, ◌≤◌, List, ◌++◌, refl, sym, subst, ap, ◌∙◌}
use Rattle.std.specs.List.{AllByRecursion}
use Rattle.tiger_base.specs.declared.number.CubNo.{CubNo}
use Rattle.tiger_base.specs.declared.number.Instance.{Instance}
use Rattle.tiger_base.specs.declared.number.Stamp.{Stamp}
use Rattle.tiger_base.specs.declared.tenancy.Tenancy.{Tenancy}
use Rattle.tiger_base.specs.declared.message.Msg.{Msg}
use Rattle.slot_plan.specs.declared.params.Params.{Params}
use Rattle.slot_plan.specs.Conditions.{IsPlan}
use Rattle.slot_plan.specs.Times.{due}
use Rattle.slot_plan.proofs.Times.{window_parts}
use Rattle.slot_plan.proofs.Windows.{least_visit_found}
use Rattle.node_kit.specs.declared.journal.What.TheVariants as what
use Rattle.node_kit.specs.declared.outbox.Out.{Out}
use Rattle.node_kit.specs.declared.outbox.Out.TheVariants as out
use Rattle.node_kit.specs.Steps.{Deed, Input, stamp_of}
use Rattle.node_kit.specs.Steps.Input.{Take, Tick}
use Rattle.node_kit.specs.Ways.{predecessor}
use Rattle.partial_view.specs.Free.{is_free}
use Rattle.cub_rules.specs.declared.store.Store.{Store}
use Rattle.cub_rules.specs.Ticks.{free_on, releasing, believing, ticking}
use Rattle.cub_changes.specs.Changes.{Change, did}
use Rattle.cub_changes.specs.Causes.{Stage, IsDeadman, IsInsertion, Fills, Cause}
use Rattle.cub_changes.specs.Causes.Stage.{OnMessage, OnDeadman, OnInsertion, OnService}
use Rattle.cub_changes.specs.Outputs.{Output, output, ComesOf}
use Rattle.cub_changes.specs.Outputs.Output.{Put, Believed}
use Rattle.cub_changes.proofs.Chains.{release_is, tick_outs}
use Rattle.cub_changes.proofs.Closed.{OfEach}
use Rattle.cub_changes.proofs.Messages.{taking_by}
use Rattle.cub_changes.proofs.Outputs.{forms_of, Puts, puts_closed}
use Rattle.cub_changes.proofs.Ticks.{late_steps, late_by, believing_by, ticking_by}
use Rattle.proof_lives.specs.Lives.{deed_of, store_at, outs_at}
use Rattle.lists.specs.Elements.{In}
use Rattle.lists.proofs.Each.{all_in}

-- ---- beliefs and stops

-- By its rules a cub believes no other dead than its predecessor, and tells of no stop and of no return.
abbrev IsBelief : Params → ℕ → Out Msg → Type 0
IsBelief p c (out.Act (what.Believed d)) = d.0 ≡ predecessor p c
IsBelief p c (out.Act (what.Gone v)) = ⊥
IsBelief p c (out.Act what.Returned) = ⊥
IsBelief p c other = Unit {0}

module _ (p : Params) (c : ℕ) where
  belief : (stamp : Stamp) (x : Change) (h : Store) → Puts p c stamp (IsBelief p c) h (did p c stamp x h)
  belief stamp x h = forms_of p c stamp (IsBelief p c) x h form
    where
      form : (o : Output) → ComesOf p c stamp x h o → IsBelief p c (output p c stamp o)
      form Believed comes = refl
      form other comes = tt

  believes : (i : Input Msg) (h : Store) → AllByRecursion (IsBelief p c) (deed_of p c i h).outs
  believes (Take stamp link m) h =
      taking_by (Puts p c stamp (IsBelief p c)) (puts_closed p c stamp (IsBelief p c)) p c stamp link m h
      (λ x q cause. belief stamp x q)
  believes (Tick stamp) h =
      ticking_by (Puts p c stamp (IsBelief p c)) (puts_closed p c stamp (IsBelief p c)) p c stamp h
      (λ g from t x q cause. belief stamp x q)

pub believes_predecessor : (p : Params) (c : ℕ) (inputs : ℕ → Input Msg) (i : ℕ) (d : CubNo)
    → In (out.Act (what.Believed d)) (outs_at p c inputs i) → d.0 ≡ predecessor p c
believes_predecessor p c inputs i d k =
    all_in (IsBelief p c) (out.Act (what.Believed d)) _ (believes p c (inputs i) (store_at p c inputs i)) k

pub tells_no_stop : (p : Params) (c : ℕ) (inputs : ℕ → Input Msg) (i : ℕ) (v : Instance)
    → In (out.Act (what.Gone v)) (outs_at p c inputs i) → ⊥
tells_no_stop p c inputs i v k =
    all_in (IsBelief p c) (out.Act (what.Gone v)) _ (believes p c (inputs i) (store_at p c inputs i)) k

pub tells_no_return : (p : Params) (c : ℕ) (inputs : ℕ → Input Msg) (i : ℕ)
    → In (out.Act what.Returned) (outs_at p c inputs i) → ⊥
tells_no_return p c inputs i k =
    all_in (IsBelief p c) (out.Act what.Returned) _ (believes p c (inputs i) (store_at p c inputs i)) k

-- ---- Puts

-- if an output is a Put, this holds of its tenancy
abbrev pub OfPut : (Tenancy → Type 0) → Out Msg → Type 0
OfPut X (out.Act (what.Put t)) = X t
OfPut X other = Unit {0}

-- what holds of each tenancy that may be put in a stage holds of those that are
pub of_cause : (p : Params) (c : ℕ) (stamp : Stamp) (X : Tenancy → Type 0) (g : Stage) (from : Store)
    → ((t : Tenancy) (h : Store) → IsInsertion g → Fills p c stamp from t h → X t)
    → OfEach (Puts p c stamp (OfPut X)) p c stamp g from
of_cause p c stamp X g from gives x h cause = forms_of p c stamp (OfPut X) x h form
  where
    form : (o : Output) → ComesOf p c stamp x h o → OfPut X (output p c stamp o)
    form (Put t) comes = let put = subst (λ (y : Change). Cause p c stamp g from y h) comes cause in gives t h put.0 put.1
    form other comes = tt

-- At its input's reading the first visit of a Put is in the window of one of the slots.
pub record IsSeat (p : Params) (reading : ℕ) (t : Tenancy) : Type 0 where
  pub slot : t.slot.0 < p.slots
  pub above : reading + p.window_b < due p t.slot.0 t.first
  pub below : due p t.slot.0 t.first ≤ reading + p.window_a

module _ (p : Params) (c : ℕ) (plan : IsPlan p) where
  seat : (stamp : Stamp) (from : Store) (t : Tenancy) (h : Store) → Fills p c stamp from t h → IsSeat p stamp.reading t
  unfolding free_on
  seat stamp from t h o =
      let found = (least_visit_found p stamp.reading o.disk (is_free h.view.lines) o.key plan o.free).here in
      let window = window_parts p stamp.reading o.key.0.0 o.key.1 found.window in
      subst (IsSeat p stamp.reading) (sym o.is) (record { slot = found.in_plan; above = window.1; below = window.0 })

  seats : (i : Input Msg) (h : Store) → AllByRecursion (OfPut (IsSeat p (stamp_of i).reading)) (deed_of p c i h).outs
  seats (Take stamp link m) h =
      let Q : Out Msg → Type 0 = OfPut (IsSeat p stamp.reading) in
      taking_by (Puts p c stamp Q) (puts_closed p c stamp Q) p c stamp link m h
      (of_cause p c stamp (IsSeat p stamp.reading) (OnMessage link m) h (λ t q _ o. seat stamp h t q o))
  seats (Tick stamp) h =
      let Q : Out Msg → Type 0 = OfPut (IsSeat p stamp.reading) in
      ticking_by (Puts p c stamp Q) (puts_closed p c stamp Q) p c stamp h
      (λ g from _. of_cause p c stamp (IsSeat p stamp.reading) g from (λ t q _ o. seat stamp from t q o))

pub put_seat : (p : Params) (c : ℕ) → IsPlan p → (inputs : ℕ → Input Msg) (i : ℕ) (t : Tenancy)
    → In (out.Act (what.Put t)) (outs_at p c inputs i) → IsSeat p (stamp_of (inputs i)).reading t
put_seat p c plan inputs i t k =
    all_in (OfPut (IsSeat p (stamp_of (inputs i)).reading)) (out.Act (what.Put t)) _
    (seats p c plan (inputs i) (store_at p c inputs i)) k

-- ---- a tick believes before it puts

-- an output tells of no belief
abbrev pub IsNoBelief : Out Msg → Type 0
IsNoBelief (out.Act (what.Believed d)) = ⊥
IsNoBelief other = Unit {0}

-- The outputs of a tick are first some with no Put, and then some with no belief.
pub record BelievesFirst (outs : List (Out Msg)) : Type 0 where
  pub first : List (Out Msg)
  pub rest : List (Out Msg)
  pub is : outs ≡ first ++ rest
  pub puts_none : AllByRecursion (OfPut (λ t. ⊥)) first
  pub believes_none : AllByRecursion IsNoBelief rest

module _ (p : Params) (c : ℕ) (stamp : Stamp) where
  -- only a change of the deadman step tells of a belief
  no_belief : (g : Stage) (from : Store) → (IsDeadman g → ⊥) → OfEach (Puts p c stamp IsNoBelief) p c stamp g from
  no_belief g from apart x h cause = forms_of p c stamp IsNoBelief x h form
    where
      form : (o : Output) → ComesOf p c stamp x h o → IsNoBelief (output p c stamp o)
      form Believed comes = absurd (apart (subst (λ (y : Change). Cause p c stamp g from y h) comes cause).0)
      form other comes = tt

  pub believes_first : (h : Store) → BelievesFirst (ticking p c stamp h).outs
  believes_first h =
      let Q : Out Msg → Type 0 = OfPut (λ t. ⊥) in
      let h1 : Store = (releasing p stamp h).state in
      let h2 : Store = (believing p c stamp h1).state in
      record {
        first = (believing p c stamp h1).outs;
        rest = (late_steps p c stamp h2).outs;
        is = sym (tick_outs p c stamp h)
            ∙ ap (λ (d : Deed Msg Store). d.outs ++ ((believing p c stamp h1).outs ++ (late_steps p c stamp h2).outs)) (release_is p c stamp h);
        puts_none =
            believing_by (Puts p c stamp Q) (puts_closed p c stamp Q) p c stamp h1
            (of_cause p c stamp (λ t. ⊥) OnDeadman h1 (λ t q put _. put));
        believes_none =
            late_by (Puts p c stamp IsNoBelief) (puts_closed p c stamp IsNoBelief) p c stamp h2
            (λ from. no_belief OnInsertion from (λ k. k)) (λ from. no_belief OnService from (λ k. k));
      }
