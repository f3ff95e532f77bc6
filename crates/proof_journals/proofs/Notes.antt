-- What the outputs of a cub are, by what its journal tells of them; and that none tells of a death.
use Rattle.std.proofs.Common.{◌≡◌, ℕ, List, map, true, false, sym, ap, subst, ◌∙◌, ⊎_elim}
use Rattle.std.specs.List.{AllByRecursion}
use Rattle.std.proofs.lemmas.Bool.{true≢false}
use Rattle.tiger_base.specs.declared.number.LinkNo.{LinkNo}
use Rattle.tiger_base.specs.declared.number.Stamp.{Stamp}
use Rattle.tiger_base.specs.declared.tenancy.State.{State}
use Rattle.tiger_base.specs.declared.message.Msg.{Msg}
use Rattle.tiger_base.specs.declared.message.Msg.TheVariants as msg
use Rattle.tiger_base.specs.declared.message.Note.TheVariants as note
use Rattle.tiger_base.specs.Notes.{noted}
use Rattle.slot_plan.specs.declared.params.Params.{Params}
use Rattle.node_kit.specs.declared.journal.What.TheVariants as what
use Rattle.node_kit.specs.declared.journal.Entry.{Entry}
use Rattle.node_kit.specs.declared.outbox.Out.{Out}
use Rattle.node_kit.specs.declared.outbox.Out.TheVariants as out
use Rattle.node_kit.specs.Steps.{Deed, Input, IsAllowed, IsOwnEntry, what_of, entry_of}
use Rattle.run_facts.specs.Events.{NodeEvent, Past, outs_of, is_death, stamp_at, entries_at}
use Rattle.run_facts.specs.Timed.{is_died}
use Rattle.lists.specs.Elements.{In}
use Rattle.lists.proofs.Elements.{from_map}
use Rattle.lists.proofs.Each.{all_in}
use Rattle.proof_lives.specs.Histories.{input_of}
use Rattle.proof_journals.proofs.Wrote.{got_no_death, died_is, one_of}

-- a viewer state that a journal says was sent went out
pub state_back : (m : Msg) (s : State) → noted m ≡ note.ViewerState s → m ≡ msg.ViewerState s
state_back (msg.ViewerState q) s e = let z : q ≡ s = cc in ap (λ (x : State). msg.ViewerState x) z
state_back other s e = absurd (cc)

pub state_sent : (p : Params) (c : ℕ) (o : Out Msg) (link : LinkNo) (s : State) → IsAllowed noted p c o → what_of noted o ≡ what.Sent link (note.ViewerState s) → o ≡ out.Send link (msg.ViewerState s)
state_sent p c (out.Send way m) link s fair e =
    let ways : way ≡ link = cc in
    let notes : noted m ≡ note.ViewerState s = cc in
    ap (λ (l : LinkNo). out.Send l m) ways ∙ ap (λ (x : Msg). out.Send link x) (state_back m s notes)
state_sent p c (out.Act w) link s fair e = absurd (subst IsOwnEntry e fair)

-- an event that is no death writes none
pub output_lives : (p : Params) (c : ℕ) (o : Out Msg) → IsAllowed noted p c o → is_died (what_of noted o) ≡ true → ⊥
output_lives p c (out.Send link m) fair d = absurd (cc)
output_lives p c (out.Act what.Died) fair d = fair
output_lives p c (out.Act other) fair d = absurd (cc)

pub outputs_live : (p : Params) (c : ℕ) (stamp : Stamp) (os : List (Out Msg)) (e : Entry) → AllByRecursion (IsAllowed noted p c) os → In e (map (entry_of noted stamp) os)
    → is_died e.what ≡ true → ⊥
outputs_live p c stamp os e fair i d =
    let r = from_map (entry_of noted stamp) e os i in
    output_lives p c r.0 (all_in (IsAllowed noted p c) r.0 os fair r.1) (ap (λ (x : Entry). is_died x.what) (sym r.2) ∙ d)

pub event_lives : {S : Type 0} (step : S → Input Msg → Deed Msg S) (p : Params) (c : ℕ) (ev : NodeEvent Msg) (before : Past S) (e : Entry)
    → is_death ev ≡ false → AllByRecursion (IsAllowed noted p c) (outs_of step ev before) → In e (entries_at noted step ev before) → is_died e.what ≡ true → ⊥
event_lives step p c ev before e lives fair i d = ⊎_elim
    (λ k. true≢false (sym d ∙ got_no_death (input_of ev) e k))
    (λ o. ⊎_elim
    (λ k. outputs_live p c (stamp_at ev) (outs_of step ev before) e fair k d)
    (λ k. true≢false (sym (died_is ev e k).1 ∙ lives))
    o)
    (one_of step p c ev before e fair i)
