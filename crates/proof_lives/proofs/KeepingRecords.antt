-- What a cub does at any input of its life keeps its journal and its view together.
use Rattle.std.proofs.Common.{◌≡◌, ℕ, ◌<◌, nat_le, List, [], ◌∷◌, ◌++◌, Bool, true, false, not, refl, sym, subst, ⊎_elim, inl}
use Rattle.std.specs.Prelude.{◌⊎◌, ◌&&◌}
use Rattle.std.specs.List.{AllByRecursion}
use Rattle.std.proofs.lemmas.Bool.{leb-false}
use Rattle.tiger_base.specs.declared.number.LinkNo.{LinkNo}
use Rattle.tiger_base.specs.declared.number.Stamp.{Stamp}
use Rattle.tiger_base.specs.declared.tenancy.Rec.{Rec}
use Rattle.tiger_base.specs.declared.tenancy.State.{State}
use Rattle.tiger_base.specs.declared.message.Msg.{Msg}
use Rattle.tiger_base.specs.declared.message.Msg.TheVariants as msg
use Rattle.tiger_base.specs.Kinds.{is_own}
use Rattle.slot_plan.specs.declared.params.Params.{Params}
use Rattle.slot_plan.specs.Conditions.{IsPlan}
use Rattle.slot_plan.specs.Times.{due}
use Rattle.slot_plan.specs.Keys.{due_of}
use Rattle.node_kit.specs.declared.journal.What.TheVariants as what
use Rattle.node_kit.specs.declared.outbox.Out.{Out}
use Rattle.node_kit.specs.declared.outbox.Out.TheVariants as out
use Rattle.node_kit.specs.Steps.{Input}
use Rattle.node_kit.specs.Steps.Input.{Take, Tick}
use Rattle.node_kit.specs.Ways.{way_ahead}
use Rattle.partial_view.specs.declared.line.Line.{Line}
use Rattle.partial_view.specs.Lines.{key_of}
use Rattle.cub_rules.specs.declared.store.Store.{Store}
use Rattle.cub_rules.specs.Messages.{taking}
use Rattle.cub_rules.specs.Ticks.{is_served, is_past, reading, ticking}
use Rattle.cub_changes.specs.Changes.{Change, did}
use Rattle.cub_changes.specs.Causes.{Cause}
use Rattle.cub_changes.specs.Causes.Stage.{OnMessage}
use Rattle.cub_changes.specs.Outputs.{Output, output, ComesOf}
use Rattle.cub_changes.specs.Outputs.Output.{StateSent}
use Rattle.cub_changes.proofs.Messages.{taking_by}
use Rattle.cub_changes.proofs.Outputs.{forms_of, Puts, puts_closed}
use Rattle.cub_changes.proofs.Ticks.{ticking_by}
use Rattle.run_model.specs.Parts.{IsAtOrBefore, IsForCub}
use Rattle.proof_lives.specs.Lives.{deed_of, store_at}
use Rattle.lists.specs.Elements.{In}
use Rattle.lists.proofs.Each.{all_in}
use Rattle.proof_lives.specs.Records.{CubsKeepTheirRecords}
use Rattle.proof_lives.proofs.Deeds.{Tells, tells_closed, each}
use Rattle.proof_lives.proofs.Takes.{OfTook, IsToldIn, taking_took}
use Rattle.proof_lives.proofs.Seats.{AreSeated, seated_at, seated_for, ticking_seats}
use Rattle.cub_changes.proofs.Chains.{ticking_left}

module _ (p : Params) (c : ℕ) where
  -- ---- what is told of the view

  taking_tells : (stamp : Stamp) (link : LinkNo) (m : Msg) (h : Store) → Tells h (taking p c stamp link m h)
  taking_tells stamp link m h =
      taking_by Tells tells_closed p c stamp link m h
      (λ x q cause. each p c stamp x q
      (λ r e. (subst (λ y. Cause p c stamp (OnMessage link m) h y q) e cause).1)
      (λ t e. absurd (subst (λ y. Cause p c stamp (OnMessage link m) h y q) e cause).0))

  deed_tells : IsPlan p → c < p.cubs → (i : Input Msg) (h : Store) → Tells h (deed_of p c i h)
  deed_tells plan here (Take stamp link m) h = taking_tells stamp link m h
  deed_tells plan here (Tick stamp) h = (ticking_seats p c stamp plan here h).tells

  -- ---- records that are taken

  -- the state that tells a record
  abbrev IsStateFor : Msg → Rec → Type 0
  IsStateFor m r = (s : State) × (m ≡ msg.ViewerState s) × (s.tenancy ≡ r.tenancy) × IsAtOrBefore s.visit r.visit

  told_in : (m : Msg) (r : Rec) → IsToldIn p c m r → IsForCub p c r.kind r.visit × IsStateFor m r
  told_in (msg.ViewerState s) r told = (told.0, (s, refl, told.1, told.2))
  told_in other r told = absurd told

  taking_for : (stamp : Stamp) (link : LinkNo) (m : Msg) (r : Rec) (h : Store)
      → In (out.Act (what.Took r)) (taking p c stamp link m h).outs → IsForCub p c r.kind r.visit × IsStateFor m r
  taking_for stamp link m r h i =
      told_in m r (all_in (OfTook (IsToldIn p c m)) (out.Act (what.Took r)) _ (taking_took p c stamp link m h) i)

  for_cub : IsPlan p → c < p.cubs → (i : Input Msg) (h : Store) (r : Rec) → In (out.Act (what.Took r)) (deed_of p c i h).outs
      → IsForCub p c r.kind r.visit
  for_cub plan here (Take stamp link m) h r k = (taking_for stamp link m r h k).0
  for_cub plan here (Tick stamp) h r k = seated_for p c [] _ r (ticking_seats p c stamp plan here h).seated k

  -- before the first output there is none
  put_before : (xs ys : List (Out Msg)) (r : Rec) → AreSeated p c [] (xs ++ out.Act (what.Took r) ∷ ys)
      → In (out.Act (what.Put r.tenancy)) xs × IsAtOrBefore r.tenancy.first r.visit
  put_before xs ys r s = let w = seated_at p c [] xs ys r s in (⊎_elim (λ i. absurd i) (λ i. i) w.0, w.1)

  -- ---- states that go out

  -- to the next cub, or to the one after it
  abbrev IsNearSent : Out Msg → Type 0
  IsNearSent (out.Send link (msg.ViewerState s)) = (k : ℕ) × ((k ≡ 1) ⊎ (k ≡ 2)) × (link ≡ way_ahead p c k)
  IsNearSent other = Unit {0}

  near_sent : (stamp : Stamp) (x : Change) (h : Store) → Puts p c stamp IsNearSent h (did p c stamp x h)
  near_sent stamp x h = forms_of p c stamp IsNearSent x h form
    where
      form : (o : Output) → ComesOf p c stamp x h o → IsNearSent (output p c stamp o)
      form (StateSent steps s) comes = (steps, ⊎_elim (λ l. l.4) (λ t. inl t.3) comes, refl)
      form other comes = tt

  states_near : (i : Input Msg) (h : Store) → AllByRecursion IsNearSent (deed_of p c i h).outs
  states_near (Take stamp link m) h =
      taking_by (Puts p c stamp IsNearSent) (puts_closed p c stamp IsNearSent) p c stamp link m h (λ x q cause. near_sent stamp x q)
  states_near (Tick stamp) h =
      ticking_by (Puts p c stamp IsNearSent) (puts_closed p c stamp IsNearSent) p c stamp h (λ g from t x q cause. near_sent stamp x q)

  -- ---- no record is due after a tick

  not_due : (stamp : Stamp) (x : Line) → is_served p stamp x ≡ false → is_past p stamp x ≡ false
      → stamp.reading < due p x.rec.tenancy.slot.0 x.rec.visit
  unfolding is_served is_past
  not_due stamp x served past =
      leb-false _ _ (neither (is_own x.rec.kind) (nat_le (due_of p (key_of x)) stamp.reading) served past)
    where
      neither : (own late : Bool) → own && late ≡ false → not own && late ≡ false → late ≡ false
      neither true late one two = one
      neither false late one two = two

  pub ticking_leaves : (stamp : Stamp) (h : Store) (x : Line) → In x (ticking p c stamp h).state.view.lines
      → stamp.reading < due p x.rec.tenancy.slot.0 x.rec.visit
  ticking_leaves stamp h x i = let left = ticking_left p c stamp h x i in not_due stamp x left.1 left.2

pub keeps_records : CubsKeepTheirRecords
keeps_records p c inputs i plan here =
    let h : Store = store_at p c inputs i in
    let tells = deed_tells p c plan here (inputs i) h in
    record {
      records = tells.records;
      states = tells.states;
      for_cub = λ r k. for_cub p c plan here (inputs i) h r k;
      told = λ r stamp link m e k.
          (taking_for p c stamp link m r h (subst (λ (q : Input Msg). In (out.Act (what.Took r)) (deed_of p c q h).outs) e k)).1;
      put = λ r stamp xs ys e parts.
          put_before p c xs ys r
          (subst (λ (os : List (Out Msg)). AreSeated p c [] os) parts
          (subst (λ (q : Input Msg). AreSeated p c [] (deed_of p c q h).outs) (sym e) (ticking_seats p c stamp plan here h).seated));
      later = λ x stamp e k. ticking_leaves p c stamp h x (subst (λ (q : Input Msg). In x (deed_of p c q h).state.view.lines) e k);
      ways = λ link s k. all_in (IsNearSent p c) (out.Send link (msg.ViewerState s)) _ (states_near p c (inputs i) h) k;
    }
