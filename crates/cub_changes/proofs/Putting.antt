-- Each Put is of a start that waited.
use Rattle.std.proofs.Common.{◌≡◌, ℕ, true, false, not, refl, sym, ap, subst, ◌∙◌, ⊎_elim, inl, inr}
use Rattle.std.specs.Prelude.{◌⊎◌}
use Rattle.std.proofs.lemmas.Bool.{and_parts}
use Rattle.tiger_base.specs.declared.number.LinkNo.{LinkNo}
use Rattle.tiger_base.specs.declared.number.Stamp.{Stamp}
use Rattle.tiger_base.specs.declared.tenancy.Ask.{Ask}
use Rattle.tiger_base.specs.declared.tenancy.Tenancy.{Tenancy}
use Rattle.tiger_base.specs.declared.message.Msg.{Msg}
use Rattle.slot_plan.specs.declared.params.Params.{Params}
use Rattle.node_kit.specs.declared.journal.What.TheVariants as what
use Rattle.node_kit.specs.declared.outbox.Out.{Out}
use Rattle.node_kit.specs.declared.outbox.Out.TheVariants as out
use Rattle.node_kit.specs.Steps.{Deed}
use Rattle.node_kit.specs.Steps.Input.{Take, Tick}
use Rattle.deadman.specs.Silence.{is_silent}
use Rattle.cub_rules.specs.declared.store.Store.{Store}
use Rattle.cub_rules.specs.Messages.{taking}
use Rattle.cub_rules.specs.Ticks.{releasing, believing, inserting, ticking}
use Rattle.cub_changes.specs.Changes.{Change}
use Rattle.cub_changes.specs.Changes.Change.{PutStart}
use Rattle.cub_changes.specs.Causes.{Stage, WasPut, Cause}
use Rattle.lists.specs.Elements.{In}
use Rattle.cub_changes.specs.Causes.Stage.{OnMessage, OnRelease, OnDeadman, OnInsertion, OnService}
use Rattle.cub_changes.specs.Outputs.{Output, output, ComesOf}
use Rattle.cub_changes.specs.Outputs.Output.{Put}
use Rattle.cub_changes.specs.Laws.{IsPutOfStart, CubsPutStarts}
use Rattle.cub_changes.proofs.Chains.{deadman_of}
use Rattle.cub_changes.proofs.Closed.{OfEach}
use Rattle.lists.proofs.Each.{all_in}
use Rattle.lists.proofs.Elements.{in_cases}
use Rattle.cub_changes.proofs.Messages.{taking_by}
use Rattle.cub_changes.proofs.Puts.{inserting_by}
use Rattle.cub_changes.proofs.Ticks.{releasing_by, believing_by, service_by, tick_chain}
use Rattle.cub_changes.proofs.Outputs.{forms_of, Puts, puts_closed}
use Rattle.cub_changes.proofs.Beliefs.{not_true, belief_lasts}

module _ (p : Params) (c : ℕ) (stamp : Stamp) where
  put_form : (x : Change) (h : Store) (t : Tenancy) (o : Output) → ComesOf p c stamp x h o
      → out.Act (what.Put t) ≡ output p c stamp o → x ≡ PutStart t
  put_form x h t (Put u) comes e = let same : t ≡ u = cc in comes ∙ sym (ap PutStart same)
  put_form x h t other comes e = absurd (cc)

  -- if an output is a Put, this holds of its tenancy
  abbrev OfPut : (Tenancy → Type 0) → Out Msg → Type 0
  OfPut X o = (t : Tenancy) → out.Act (what.Put t) ≡ o → X t

  of_cause : (X : Tenancy → Type 0) (g : Stage) (from : Store)
      → ((t : Tenancy) (h : Store) → Cause p c stamp g from (PutStart t) h → X t)
      → OfEach (Puts p c stamp (OfPut X)) p c stamp g from
  of_cause X g from gives x h cause =
      forms_of p c stamp (OfPut X) x h
      (λ o comes t e. gives t h (subst (λ y. Cause p c stamp g from y h) (put_form x h t o comes e) cause))

  taking_puts : (link : LinkNo) (m : Msg) (h : Store) → Puts p c stamp (OfPut (λ t. ⊥)) h (taking p c stamp link m h)
  taking_puts link m h =
      taking_by (Puts p c stamp (OfPut (λ t. ⊥))) (puts_closed p c stamp (OfPut (λ t. ⊥))) p c stamp link m h
      (of_cause (λ t. ⊥) (OnMessage link m) h (λ t q k. k.0))

  -- what the cub keeps when insertion begins
  abbrev began : Store → Store
  began h = (believing p c stamp (releasing p stamp h).state).state

  ticking_puts : (h : Store) → Puts p c stamp (OfPut (WasPut p c stamp (began h))) h (ticking p c stamp h)
  ticking_puts h =
      let X : Tenancy → Type 0 = WasPut p c stamp (began h) in
      let P : Store → Deed Msg Store → Type 0 = Puts p c stamp (OfPut X) in
      let closed = puts_closed p c stamp (OfPut X) in
      let h1 : Store = (releasing p stamp h).state in
      tick_chain P closed p c stamp h
      (releasing_by P closed p c stamp h (of_cause X OnRelease h (λ t q k. absurd (k.0))))
      (believing_by P closed p c stamp h1 (of_cause X OnDeadman h1 (λ t q k. absurd (k.0))))
      (inserting_by P closed p c stamp (began h) (of_cause X OnInsertion (began h) (λ t q k. (q, k.1))))
      (service_by P closed p c stamp (inserting p c stamp (began h)).state (λ from. of_cause X OnService from (λ t q k. absurd (k.0))))

  -- a start that waits then waited before, or was redundant and the cub came to believe its predecessor dead
  abbrev WaitedBefore : Store → Store → Ask → Type 0
  WaitedBefore h new a = In a h.starts.waiting ⊎ (In a h.starts.redundant × (h.believes ≡ false) × (new.believes ≡ true))

  waited : (h : Store) (a : Ask) → In a (began h).starts.waiting → WaitedBefore h (began h) a
  waited h a i =
      deadman_of p c stamp (λ (d : Deed Msg Store). In a d.state.starts.waiting → WaitedBefore h d.state a) h
      (λ e k.
      let unbelieved = not_true h.believes (and_parts (not h.believes) (is_silent h.watch stamp.reading) e).0 in
      ⊎_elim (λ q. inl q) (λ q. inr (q, unbelieved, refl)) (in_cases a h.starts.waiting h.starts.redundant k))
      (λ e k. inl k)
      i

  -- a belief that the cub has then it has after the tick
  believes_on : (h : Store) → (began h).believes ≡ true → (ticking p c stamp h).state.believes ≡ true
  believes_on h b = belief_lasts p c stamp h ∙ b

  put_of_start : (h : Store) (t : Tenancy) → WasPut p c stamp (began h) t
      → IsPutOfStart p c (Tick stamp) h (ticking p c stamp h).state t
  put_of_start h t was =
      let f = was.1 in record {
        tick = tt;
        ask = f.ask;
        key = f.key;
        disk = f.disk;
        is = f.is;
        on = f.on;
        waits = ⊎_elim (λ w. inl w) (λ w. inr (w.0, w.1, believes_on h w.2)) (waited h f.ask f.waits);
        here = ⊎_elim (λ w. inl w) (λ w. inr (w.0, believes_on h w.1)) f.here;
      }

pub put_starts : CubsPutStarts
put_starts p c (Take stamp link m) h t i =
    let none = taking_puts p c stamp link m h in
    absurd
    (all_in (OfPut p c stamp (λ u. ⊥)) (out.Act (what.Put t)) (taking p c stamp link m h).outs
    none i t refl)
put_starts p c (Tick stamp) h t i =
    let Q : Out Msg → Type 0 = OfPut p c stamp (WasPut p c stamp (began p c stamp h)) in
    let puts = ticking_puts p c stamp h in
    put_of_start p c stamp h t
    (all_in Q (out.Act (what.Put t)) (ticking p c stamp h).outs puts i t refl)
