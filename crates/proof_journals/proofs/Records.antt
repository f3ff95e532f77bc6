-- That the journal of a cub tells the records of its view, and that each state it sends follows from one of them.
use Rattle.std.proofs.Common.{◌≡◌, List, [], ◌∷◌, ◌++◌, map, false, refl, sym, ap, ◌∙◌, append_assoc, append-nil}
use Rattle.tiger_base.specs.declared.number.Stamp.{Stamp}
use Rattle.tiger_base.specs.declared.tenancy.Rec.{Rec}
use Rattle.tiger_base.specs.declared.message.Msg.{Msg}
use Rattle.tiger_base.specs.Notes.{noted}
use Rattle.node_kit.specs.declared.journal.Entry.{Entry}
use Rattle.node_kit.specs.declared.outbox.Out.{Out}
use Rattle.node_kit.specs.declared.outbox.Out.TheVariants as out
use Rattle.node_kit.specs.Steps.{Deed, Input, IsAllowed, entry_of, stamp_of}
use Rattle.std.specs.List.{AllByRecursion}
use Rattle.node_kit.specs.Steps.Input.{Take, Tick}
use Rattle.run_facts.specs.Events.{NodeEvent, Past, outs_of, stamp_at, is_death, entries_at}
use Rattle.run_facts.specs.Events.NodeEvent.{Does, Ends, Dies, Returns}
use Rattle.run_model.specs.Views.{records_of, recorded}
use Rattle.run_model.proofs.Moments.{records_more}
use Rattle.proof_lives.specs.Records.{recorded_by}
use Rattle.proof_lives.specs.Histories.{input_of}
use Rattle.proof_journals.proofs.Wrote.{got_at, got_in, sent_in, died_in, entries_are}
use Rattle.std.proofs.Common.{◌≡◌, ℕ, ◌+◌, ◌<◌, ◌%◌, List, ◌∷◌, ◌++◌, Some, IsTrue, subst, ⊎_elim}
use Rattle.std.specs.Prelude.{◌⊎◌, nat_lt}
use Rattle.std.proofs.lemmas.Bool.{true≢false, and_from, or_left, or_right, lt-ltb, eq-eqb}
use Rattle.tiger_base.specs.declared.number.LinkNo.{LinkNo}
use Rattle.tiger_base.specs.declared.tenancy.State.{State}
use Rattle.tiger_base.specs.declared.message.Msg.TheVariants as msg
use Rattle.slot_plan.specs.declared.params.Params.{Params}
use Rattle.slot_plan.specs.Times.{cub_of}
use Rattle.run_model.specs.Fronts.{AnyByRecursion}
use Rattle.run_model.specs.Views.{recorded}
use Rattle.run_model.specs.Parts.{is_from_before, IsOwnRecordFor}
use Rattle.proof_lives.specs.Records.{recorded_by, AreFromRecords}
use Rattle.proof_facts.specs.Beside.{IsAddition}
use Rattle.proof_journals.proofs.BothLives.{act_not_added}

-- what entries make of the records
abbrev pub recorded_in : List Entry → List Rec → List Rec
recorded_in [] rs = rs
recorded_in (e ∷ es) rs = recorded_in es (recorded rs e.what)

pub records_after : (es fs : List Entry) → records_of (es ++ fs) ≡ recorded_in fs (records_of es)
records_after es [] = ap records_of (append-nil es)
records_after es (f ∷ fs) =
    ap records_of (sym (append_assoc es (f ∷ []) fs))
    ∙ records_after (es ++ f ∷ []) fs
    ∙ ap (recorded_in fs) (records_more f es)

-- what a node puts out makes of them what it writes
pub outs_recorded : (stamp : Stamp) (os : List (Out Msg)) (rs : List Rec) → recorded_in (map (entry_of noted stamp) os) rs ≡ recorded_by os rs
outs_recorded stamp [] rs = refl
outs_recorded stamp (out.Act w ∷ os) rs = outs_recorded stamp os (recorded rs w)
outs_recorded stamp (out.Send link m ∷ os) rs = outs_recorded stamp os rs

recorded_on : (es fs : List Entry) (rs : List Rec) → recorded_in (es ++ fs) rs ≡ recorded_in fs (recorded_in es rs)
recorded_on [] fs rs = refl
recorded_on (e ∷ es) fs rs = recorded_on es fs (recorded rs e.what)

got_recorded : (i : Input Msg) (rs : List Rec) → recorded_in (got_at i) rs ≡ rs
got_recorded (Take stamp link m) rs = refl
got_recorded (Tick stamp) rs = refl

none_died : (ev : NodeEvent Msg) (rs : List Rec) → is_death ev ≡ false → recorded_in (died_in ev) rs ≡ rs
none_died (Does i) rs lives = refl
none_died (Ends i sends) rs lives = absurd (true≢false lives)
none_died (Dies stamp) rs lives = absurd (true≢false lives)
none_died (Returns stamp) rs lives = refl

pub recorded_by_more : (os ps : List (Out Msg)) (rs : List Rec)
    → recorded_by (os ++ ps) rs ≡ recorded_by ps (recorded_by os rs)
recorded_by_more [] ps rs = refl
recorded_by_more (out.Act w ∷ os) ps rs = recorded_by_more os ps (recorded rs w)
recorded_by_more (out.Send link m ∷ os) ps rs = recorded_by_more os ps rs

-- what is added makes nothing of them
pub additions_recorded : (p : Params) (c : ℕ) (os : List (Out Msg)) (rs : List Rec) → AllByRecursion (IsAddition p c) os
    → recorded_by os rs ≡ rs
additions_recorded p c [] rs few = refl
additions_recorded p c (out.Act w ∷ os) rs few = absurd (act_not_added p c w few.0)
additions_recorded p c (out.Send link m ∷ os) rs few = additions_recorded p c os rs few.1

pub event_recorded : {S : Type 0} (step : S → Input Msg → Deed Msg S) (p : Params) (n : ℕ) (ev : NodeEvent Msg) (before : Past S) (rs : List Rec)
    → AllByRecursion (IsAllowed noted p n) (outs_of step ev before) → is_death ev ≡ false
    → recorded_in (entries_at noted step ev before) rs ≡ recorded_by (outs_of step ev before) rs
event_recorded step p n ev before rs fair lives =
    let sent : List Entry = sent_in step ev before in
    ap (λ (es : List Entry). recorded_in es rs) (entries_are step p n ev before fair)
    ∙ recorded_on (got_in ev) (sent ++ died_in ev) rs
    ∙ ap (recorded_in (sent ++ died_in ev)) (got_recorded (input_of ev) rs)
    ∙ recorded_on sent (died_in ev) rs
    ∙ none_died ev (recorded_in sent rs) lives
    ∙ outs_recorded (stamp_at ev) (outs_of step ev before) rs

-- and so what stands before an output in its event
pub input_recorded : (i : Input Msg) (os : List (Out Msg)) (rs : List Rec) → recorded_in (got_at i ++ map (entry_of noted (stamp_of i)) os) rs ≡ recorded_by os rs
input_recorded (Take stamp link m) os rs = outs_recorded stamp os rs
input_recorded (Tick stamp) os rs = outs_recorded stamp os rs

-- the cub to which a state goes stands one or two behind its sender
pub from_before : (p : Params) (c from k : ℕ) → from < p.cubs → (k ≡ 1) ⊎ (k ≡ 2) → cub_of p (from + k) ≡ c → IsTrue (is_from_before p c (Some (from, c)))
unfolding cub_of
from_before p c from k small ahead to = and_from (nat_lt from p.cubs) _ (lt-ltb _ _ small) (⊎_elim
    (λ (e : k ≡ 1). or_left _ _ (eq-eqb _ _ (subst (λ n. (from + n) % p.cubs ≡ c) e to)))
    (λ (e : k ≡ 2). or_right _ _ (eq-eqb _ _ (subst (λ n. (from + n) % p.cubs ≡ c) e to)))
    ahead)

-- a state that goes out follows from a record that is told of then
pub state_record : (earlier : List (Out Msg)) (link : LinkNo) (s : State) (later : List (Out Msg)) (rs : List Rec) → AreFromRecords (earlier ++ out.Send link (msg.ViewerState s) ∷ later) rs
    → AnyByRecursion (IsOwnRecordFor s) (recorded_by earlier rs)
state_record [] link s later rs f = f.0
state_record (out.Act w ∷ os) link s later rs f = state_record os link s later (recorded rs w) f
state_record (out.Send way (msg.ViewerState q) ∷ os) link s later rs f = state_record os link s later rs f.1
state_record (out.Send way other ∷ os) link s later rs f = state_record os link s later rs f
