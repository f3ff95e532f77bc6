-- Which records a cub takes at a message: those that a viewer state tells it.
use Rattle.std.proofs.Common.{◌≡◌, ℕ, List, ◌+◌, nat_lt, [], ◌∷◌, cond, refl, sym, ap, subst, ◌∙◌, ⊎_elim, inl, inr, arith, Some}
use Rattle.std.specs.Prelude.{◌==◌}
use Rattle.std.specs.List.{AllByRecursion}
use Rattle.std.proofs.lemmas.Bool.{eqb-true, cond_both, ltb-true}
use Rattle.tiger_base.specs.declared.number.LinkNo.{LinkNo}
use Rattle.tiger_base.specs.declared.number.Stamp.{Stamp}
use Rattle.tiger_base.specs.declared.tenancy.Kind.TheVariants.{Own, Backup}
use Rattle.tiger_base.specs.declared.tenancy.Rec.{Rec}
use Rattle.tiger_base.specs.declared.tenancy.State.{State}
use Rattle.tiger_base.specs.declared.message.Msg.{Msg}
use Rattle.tiger_base.specs.declared.message.Msg.TheVariants as msg
use Rattle.slot_plan.specs.declared.params.Params.{Params}
use Rattle.slot_plan.specs.Times.{cub_of}
use Rattle.slot_plan.specs.Keys.{Key}
use Rattle.node_kit.specs.declared.journal.What.TheVariants as what
use Rattle.node_kit.specs.declared.outbox.Out.{Out}
use Rattle.node_kit.specs.declared.outbox.Out.TheVariants as out
use Rattle.cub_rules.specs.declared.store.Store.{Store}
use Rattle.cub_rules.specs.Messages.{records_told, taking, position_at}
use Rattle.cub_changes.specs.Causes.{Stage, Cause, MayTake}
use Rattle.lists.specs.Elements.{In}
use Rattle.cub_changes.specs.Causes.Stage.{OnMessage}
use Rattle.cub_changes.specs.Changes.{Change}
use Rattle.cub_changes.specs.Outputs.{Output, output, ComesOf}
use Rattle.cub_changes.specs.Outputs.Output.{Took}
use Rattle.cub_changes.proofs.Closed.{OfEach}
use Rattle.cub_changes.proofs.Messages.{taking_by}
use Rattle.cub_changes.proofs.Positions.{stands}
use Rattle.cub_changes.proofs.Outputs.{forms_of, Puts, puts_closed}
use Rattle.run_model.specs.Parts.{IsAtOrBefore, IsForCub}
use Rattle.proof_schedule.specs.Facts.{IsGiven}

-- if an output takes a record, this holds of it
abbrev pub OfTook : (Rec → Type 0) → Out Msg → Type 0
OfTook X (out.Act (what.Took r)) = X r
OfTook X other = Unit {0}

-- what holds of each record that may be taken in a stage holds of those that are
pub each_took : (p : Params) (c : ℕ) (stamp : Stamp) (X : Rec → Type 0) (g : Stage) (from : Store)
    → ((r : Rec) → MayTake p c stamp g from r → X r) → OfEach (Puts p c stamp (OfTook X)) p c stamp g from
each_took p c stamp X g from gives x h cause = forms_of p c stamp (OfTook X) x h form
  where
    form : (o : Output) → ComesOf p c stamp x h o → OfTook X (output p c stamp o)
    form (Took r) comes = gives r (subst (λ (y : Change). Cause p c stamp g from y h) comes cause).0
    form other comes = tt

-- a record is for the cub, and a state tells it: it is of the state's tenancy, at its visit or the next one
abbrev pub IsToldBy : Params → ℕ → State → Rec → Type 0
IsToldBy p c s r = IsForCub p c r.kind r.visit × (s.tenancy ≡ r.tenancy) × IsAtOrBefore s.visit r.visit

-- from its position a cub is told what is for it, at a visit that the state gives
pub told_at : (p : Params) (c : ℕ) (s : State) (r : Rec) (k : Key) → position_at p c s.tenancy.slot s.visit ≡ Some k → In r (records_told s k)
    → IsToldBy p c s r × IsGiven p c s.tenancy s.visit r.visit
told_at p c s r k is =
    let at = stands p c s.tenancy.slot s.visit k is in
    let own : ℕ → Rec = λ n. record { tenancy = s.tenancy; visit = n; kind = Own } in
    let backup : Rec = record { tenancy = s.tenancy; visit = s.visit; kind = Backup } in
    let more : List Rec = cond (nat_lt s.visit s.tenancy.last) (own (s.visit + 1) ∷ []) [] in
    let Of : Rec → Type 0 = λ q. IsToldBy p c s q × IsGiven p c s.tenancy s.visit q.visit in
    let told : List Rec → Type 0 = λ rs. In r rs → Of r in
    let same : (q : Rec) → r ≡ q → Of q → Of r = λ q e o. subst Of (sym e) o in
    cond_both (k.1 == s.visit) (own s.visit ∷ []) (backup ∷ more) told
    (λ e i.
    let here : cub_of p s.visit ≡ c = ap (cub_of p) (sym (eqb-true _ _ e)) ∙ at.here in
    ⊎_elim (λ q. same (own s.visit) q ((here, refl, inl refl), inl (refl, inl (sym here)))) (λ q. absurd q) i)
    (λ e i.
    let next : cub_of p (s.visit + 1) ≡ c = ap (cub_of p) (sym (at.other e)) ∙ at.here in
    ⊎_elim
    (λ q. same backup q ((next, refl, inl refl), inl (refl, inr (sym next))))
    (cond_both (nat_lt s.visit s.tenancy.last) (own (s.visit + 1) ∷ []) [] told
    (λ l j.
    let less = ltb-true _ _ l in
    ⊎_elim (λ q. same (own (s.visit + 1)) q ((next, refl, inr refl), inr (refl, omega arith, sym next))) (λ q. absurd q) j)
    (λ _ j. absurd j))
    i)

-- the message is a state that tells the record
abbrev pub IsToldIn : Params → ℕ → Msg → Rec → Type 0
IsToldIn p c (msg.ViewerState s) r = IsToldBy p c s r
IsToldIn p c other r = ⊥

of_message : (p : Params) (c : ℕ) (stamp : Stamp) (link : LinkNo) (m : Msg) (h : Store) (r : Rec)
    → MayTake p c stamp (OnMessage link m) h r → IsToldIn p c m r
of_message p c stamp link (msg.ViewerState s) h r may =
    (told_at p c s r may.0 may.1.1 may.2).0
of_message p c stamp link other h r may = absurd may

pub taking_took : (p : Params) (c : ℕ) (stamp : Stamp) (link : LinkNo) (m : Msg) (h : Store)
    → AllByRecursion (OfTook (IsToldIn p c m)) (taking p c stamp link m h).outs
taking_took p c stamp link m h =
    let X : Rec → Type 0 = IsToldIn p c m in
    taking_by (Puts p c stamp (OfTook X)) (puts_closed p c stamp (OfTook X)) p c stamp link m h
    (each_took p c stamp X (OnMessage link m) h (of_message p c stamp link m h))
