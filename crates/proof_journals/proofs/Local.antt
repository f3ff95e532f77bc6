-- What a cub takes and which viewer states it sends follow from what its journal had told.
use Rattle.std.proofs.Common.{◌≡◌, ℕ, ◌+◌, ◌<◌, ◌≤◌, List, ◌∷◌, ◌++◌, map, Option, Some, IsTrue, refl, sym, ap, subst, ◌∙◌, arith, ⊎_elim, inl}
use Rattle.std.specs.Prelude.{slice_get}
use Rattle.std.proofs.lemmas.Bool.{cases_lt}
use Rattle.tiger_base.specs.declared.number.LinkNo.{LinkNo}
use Rattle.tiger_base.specs.declared.number.Stamp.{Stamp}
use Rattle.tiger_base.specs.declared.tenancy.Rec.{Rec}
use Rattle.tiger_base.specs.declared.tenancy.State.{State}
use Rattle.tiger_base.specs.declared.message.Msg.{Msg}
use Rattle.tiger_base.specs.declared.message.Msg.TheVariants as msg
use Rattle.tiger_base.specs.declared.message.Note.TheVariants as note
use Rattle.tiger_base.specs.Notes.{noted}
use Rattle.slot_plan.specs.declared.params.Params.{Params}
use Rattle.slot_plan.specs.Times.{time_of, cub_of}
use Rattle.node_kit.specs.declared.course.Order.{Order}
use Rattle.node_kit.specs.declared.journal.Entry.{Entry}
use Rattle.node_kit.specs.declared.journal.What.TheVariants as what
use Rattle.node_kit.specs.declared.outbox.Out.{Out}
use Rattle.node_kit.specs.declared.outbox.Out.TheVariants as out
use Rattle.node_kit.specs.Links.{links_of, ends_of}
use Rattle.node_kit.specs.Steps.{Deed, Input, entry_of, stamp_of}
use Rattle.node_kit.specs.Steps.Input.{Take, Tick}
use Rattle.node_kit.specs.Ways.{way_ahead}
use Rattle.run_facts.specs.Events.{stamp_at}
use Rattle.run_facts.specs.Histories.{History, beat, outs, reading}
use Rattle.run_model.specs.Fronts.{AnyByRecursion}
use Rattle.run_model.specs.Parts.{Brings, IsForCub, IsOwnRecordFor, is_from_before}
use Rattle.run_model.specs.Views.{records_of}
use Rattle.disk_core.specs.State.{DiskState}
use Rattle.proof_lives.specs.Lives.{outs_at}
use Rattle.proof_lives.specs.TwoLifeRun.{WhichLife, event_in, life_in}
use Rattle.proof_lives.proofs.TwoLives.{input_in}
use Rattle.lists.specs.Elements.{In}
use Rattle.lists.proofs.Elements.{in_left, in_right, in_map}
use Rattle.proof_lives.proofs.Carrying.{came_to, takes_it, same_ends, way_ends}
use Rattle.proof_lives.proofs.Cuts.{was_put_out}
use Rattle.proof_facts.specs.Beside.{Additions}
use Rattle.proof_facts.specs.Lives.{lives_of}
use Rattle.proof_controller.specs.Controllers.{controller}
use Rattle.proof_lives.specs.Records.{AreFromRecords, recorded_by}
use Rattle.proof_lives.proofs.KeepingRecords.{keeps_records}
use Rattle.proof_lives.proofs.Told.{any_in}
use Rattle.proof_journals.proofs.Journals.{got_at, so_far, stamped}
use Rattle.proof_journals.proofs.Records.{from_before, state_record, records_after, input_recorded, recorded_by_more}
use Rattle.proof_journals.proofs.BothLives.{before_it}
use Rattle.proof_moments.specs.Ties.{StandsIn, Locals}
use Rattle.proof_facts.specs.Rings.{node_count}
use Rattle.proof_journals.specs.Journals.{JournalsAreLocal}
use Rattle.proof_journals.proofs.Others.{commands_no_state}
use Rattle.proof_journals.proofs.Events.{AreKept, cub_entry, cub_inside, did_in_life, event_of_life, other_node, written_in}
use Rattle.proof_journals.proofs.Cutting.{own_output, sent_output}
use Rattle.proof_journals.proofs.Views.{told_before, whole_below}
use Rattle.proof_journals.proofs.Lists.{moved}

module _ {S : Type 0} {step : S → Input Msg → Deed Msg S} {p : Params} {orders : List Order}
    {disk_at : ℕ → DiskState} {added : Additions} {h : History Msg S} {journals : List (List Entry)}
    (kept : AreKept step p orders disk_at added h journals) where
  for_cub : (n : ℕ) (e : Entry) (q : Rec) → n < p.cubs → StandsIn journals n e → e.what ≡ what.Took q
      → IsForCub p n q.kind q.visit
  for_cub n e q small s is =
      let d = cub_entry kept n e (what.Took q) s tt tt (λ v k. absurd (cc)) is in
      (keeps_records p n ((life_in h d.which).input n) d.input kept.plan small).for_cub q
      (was_put_out p (life_in h d.which) n d.input (out.Act (what.Took q)) d.did)

  -- ---- how a record came

  -- Who sends a viewer state is a cub.
  state_sender : (n i : ℕ) (link : LinkNo) (s : State) → n < node_count p → i < h.count n
      → In (out.Send link (msg.ViewerState s)) (outs noted step h n i) → n < p.cubs
  state_sender n i link s known low k = ⊎_elim
      (λ (small : n < p.cubs). small)
      (λ (high : p.cubs ≤ n). ⊎_elim
      (λ (e : n ≡ controller p).
      let there = subst (λ m. In (out.Send link (msg.ViewerState s)) (outs noted step h m i)) e k in
      let command = moved (out.Send link (msg.ViewerState s))
      (kept.ring.rules.controls i (subst (λ m. i < h.count m) e low)) there in
      absurd (commands_no_state p orders ((lives_of h).input (controller p)) i link s command))
      (λ o. absurd (o.no_state link s k))
      (other_node kept n i known high low))
      (cases_lt n p.cubs)

  -- A state that a cub took came from one of the two cubs before it.
  state_came : (w : WhichLife) (c i : ℕ) (stamp : Stamp) (link : LinkNo) (s : State) → c < p.cubs
      → i < (life_in h w).count c → (life_in h w).input c i ≡ Take stamp link (msg.ViewerState s)
      → IsTrue (is_from_before p c (ends_of (links_of p) link.0))
  state_came w c i stamp link s small low is =
      let known = cub_inside kept c small in
      let at : ℕ = event_in h w c i in
      let event = event_of_life kept w c i known low in
      let took = takes_it (h.event c at) stamp link (msg.ViewerState s) event.1 (sym (input_in h w c i) ∙ is) in
      let f = came_to step p (node_count p) h kept.ring.run c at stamp link (msg.ViewerState s) known event.0 took in
      let from = state_sender f.from f.at f.way s f.known f.done f.sent in
      let d = did_in_life kept f.from f.at (out.Send f.way (msg.ViewerState s)) from f.done tt f.sent in
      let ways = (keeps_records p f.from ((life_in h d.which).input f.from) d.input kept.plan from).ways f.way s
      (was_put_out p (life_in h d.which) f.from d.input (out.Send f.way (msg.ViewerState s)) d.did) in
      let k : ℕ = ways.0 in
      let near : (1 ≤ k) × (k ≤ 2) =
      ⊎_elim (λ (e : k ≡ 1). (omega arith, omega arith)) (λ (e : k ≡ 2). (omega arith, omega arith)) ways.1 in
      let link_is : (way_ahead p f.from k).0 ≡ link.0 = ap (λ (x : LinkNo). x.0) (sym ways.2) ∙ f.same in
      let ends =
      sym (way_ends p f.from k kept.plan from near.0 near.1)
      ∙ ap (λ n. ends_of (links_of p) n) link_is
      ∙ f.ends in
      subst (λ (o : Option (ℕ × ℕ)). IsTrue (is_from_before p c o)) (sym f.ends)
      (from_before p c f.from k from ways.1 (same_ends f.from (cub_of p (f.from + k)) f.from c ends).1)

  -- What stands before an output's entry in its event stands before it in the journal.
  abbrev ahead_of_it : WhichLife → ℕ → ℕ → List (Out Msg) → List Entry
  ahead_of_it w c i earlier = so_far step h c (event_in h w c i)
      ++ (got_at ((life_in h w).input c i) ++ map (entry_of noted (stamp_of ((life_in h w).input c i)))
      (before_it h p w c i ++ earlier))

  came_by : (w : WhichLife) (c i : ℕ) (r : Rec) (earlier later : List (Out Msg)) (q : Input Msg) → c < p.cubs
      → i < (life_in h w).count c → (life_in h w).input c i ≡ q
      → outs_at p c ((life_in h w).input c) i ≡ earlier ++ out.Act (what.Took r) ∷ later
      → AnyByRecursion (λ (e : Entry). Brings p c r.tenancy r.visit e.what) (ahead_of_it w c i earlier)
  came_by w c i r earlier later (Take stamp link m) small low is outs_are =
      let inputs : ℕ → Input Msg = (life_in h w).input c in
      let there : In (out.Act (what.Took r)) (outs_at p c inputs i) =
      moved (out.Act (what.Took r)) (sym outs_are) (in_right _ earlier (out.Act (what.Took r) ∷ later) (inl refl)) in
      let told = (keeps_records p c inputs i kept.plan small).told r stamp link m is there in
      let got : Entry = record { stamp = stamp; what = what.Got link (noted m) } in
      let first : In got (got_at (inputs i)) =
      subst (λ (x : Input Msg). In got (got_at x)) (sym is) (inl refl) in
      let brings : Brings p c r.tenancy r.visit (what.Got link (noted m)) =
      subst (λ (x : Msg). Brings p c r.tenancy r.visit (what.Got link (noted x))) (sym told.1)
      (told.2, told.3, state_came w c i stamp link told.0 small low (is ∙ ap (λ (x : Msg). Take stamp link x) told.1)) in
      any_in (λ (e : Entry). Brings p c r.tenancy r.visit e.what) got (ahead_of_it w c i earlier)
      (in_right got (so_far step h c (event_in h w c i)) _ (in_left got (got_at (inputs i)) _ first)) brings
  came_by w c i r earlier later (Tick stamp) small low is outs_are =
      let inputs : ℕ → Input Msg = (life_in h w).input c in
      let put = (keeps_records p c inputs i kept.plan small).put r stamp earlier later is outs_are in
      let now : Stamp = stamp_of (inputs i) in
      let e : Entry = record { stamp = now; what = what.Put r.tenancy } in
      let back : List (Out Msg) = before_it h p w c i in
      any_in (λ (x : Entry). Brings p c r.tenancy r.visit x.what) e (ahead_of_it w c i earlier)
      (in_right e (so_far step h c (event_in h w c i)) _ (in_right e (got_at (inputs i)) _
      (in_map (entry_of noted now) (out.Act (what.Put r.tenancy)) (back ++ earlier)
      (in_right (out.Act (what.Put r.tenancy)) back earlier put.0))))
      (refl, put.1)

  brings : (n : ℕ) (xs ys : List Entry) (e : Entry) (q : Rec) → n < p.cubs → slice_get journals n ≡ Some (xs ++ e ∷ ys)
      → e.what ≡ what.Took q
      → AnyByRecursion (λ (f : Entry). Brings p n q.tenancy q.visit f.what) xs
  brings n xs ys e q small at is =
      let o = own_output kept n small xs e ys (what.Took q) tt tt refl refl at is in
      subst (λ (es : List Entry). AnyByRecursion (λ (f : Entry). Brings p n q.tenancy q.visit f.what) es)
      (sym o.front_is)
      (came_by o.which n o.input q o.earlier o.later ((life_in h o.which).input n o.input) small o.done refl o.outs_are)

  -- ---- a state that goes out

  sent : (n : ℕ) (xs ys : List Entry) (e : Entry) (link : LinkNo) (s : State) → n < p.cubs
      → slice_get journals n ≡ Some (xs ++ e ∷ ys) → e.what ≡ what.Sent link (note.ViewerState s)
      → AnyByRecursion (IsOwnRecordFor s) (records_of xs)
  sent n xs ys e link s small at is =
      let o = sent_output kept n small xs e ys link s at is in
      let inputs : ℕ → Input Msg = (life_in h o.which).input n in
      let back : List (Out Msg) = before_it h p o.which n o.input in
      let old : List Rec = records_of (so_far step h n (event_in h o.which n o.input)) in
      let begun : List Rec = recorded_by back old in
      let told = told_before kept o.which n o.input small (let l = o.done in omega arith)
      (whole_below kept o.which n o.input o.done) in
      let from = (keeps_records p n inputs o.input kept.plan small).states begun told in
      let record_then = state_record o.earlier link s o.later begun
      (subst (λ (os : List (Out Msg)). AreFromRecords os begun) o.outs_are from) in
      subst (λ (rs : List Rec). AnyByRecursion (IsOwnRecordFor s) rs)
      (sym (ap records_of o.front_is ∙ records_after (so_far step h n (event_in h o.which n o.input)) _
      ∙ input_recorded (inputs o.input) (back ++ o.earlier) old
      ∙ recorded_by_more back o.earlier old)) record_then

  -- ---- readings

  read : (n : ℕ) (e : Entry) → n < p.cubs → StandsIn journals n e → time_of p e.stamp.beat ≤ e.stamp.reading
  read n e small s =
      let x = written_in kept n e s in
      let i : ℕ = x.1.at in
      let same : e.stamp ≡ stamp_at (h.event n i) = stamped step h n i e x.1.there in
      let low = (kept.ring.run.reads n i x.0 x.1.before).0 in
      let r : e.stamp.reading ≡ reading h n i = ap (λ (y : Stamp). y.reading) same in
      let t : time_of p e.stamp.beat ≡ time_of p (beat h n i) = ap (λ (y : Stamp). time_of p y.beat) same in
      omega arith

  pub locals : Locals p journals
  locals = record { for_cub = for_cub; brings = brings; read = read; sent = sent }

pub journals_are_local : (S : Type 0) → JournalsAreLocal S
journals_are_local S step p orders disk_at added h journals plan ring are =
    locals (record { plan = plan; ring = ring; are = are })
