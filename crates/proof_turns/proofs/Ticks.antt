-- What a cub puts out first in a tick right behind a message may not come of the take of the message.
use Rattle.std.proofs.Common.{◌≡◌, ℕ, List, [], ◌∷◌, ◌++◌, map, filter, not, Bool, true, false, refl, sym, ap, subst, ◌∙◌, ⊎_elim, inl, inr, Option}
use Rattle.std.specs.Prelude.{◌⊎◌, ◌==◌, Option}
use Rattle.std.specs.List.{AllByRecursion}
use Rattle.std.proofs.lemmas.Bool.{cases_Bool, cond_both}
use Rattle.tiger_base.specs.declared.number.Instance.{Instance}
use Rattle.tiger_base.specs.declared.number.LinkNo.{LinkNo}
use Rattle.tiger_base.specs.declared.number.Stamp.{Stamp}
use Rattle.tiger_base.specs.declared.tenancy.Rec.{Rec}
use Rattle.tiger_base.specs.declared.tenancy.PieceState.{PieceState}
use Rattle.tiger_base.specs.declared.tenancy.State.{State}
use Rattle.tiger_base.specs.declared.tenancy.Tenancy.{Tenancy}
use Rattle.tiger_base.specs.declared.tenancy.Want.{Want}
use Rattle.tiger_base.specs.Span.{LibraryPart}
use Rattle.tiger_base.specs.declared.message.Msg.{Msg}
use Rattle.tiger_base.specs.declared.message.Msg.TheVariants as msg
use Rattle.tiger_base.specs.declared.message.Note.{Note}
use Rattle.tiger_base.specs.declared.message.Note.TheVariants as note
use Rattle.tiger_base.specs.Notes.{noted}
use Rattle.slot_plan.specs.declared.params.Params.{Params}
use Rattle.node_kit.specs.declared.outbox.Out.{Out}
use Rattle.node_kit.specs.Form.{IsInForm}
use Rattle.node_kit.specs.Steps.{Deed, what_of}
use Rattle.node_kit.specs.declared.journal.What.TheVariants as what
use Rattle.partial_view.specs.declared.line.Line.{Line}
use Rattle.partial_view.specs.declared.line.Flag.TheVariants as flag
use Rattle.partial_view.specs.Lines as lines
use Rattle.partial_view.specs.Lines.{marked}
use Rattle.partial_view.specs.Views.{without_instance}
use Rattle.cub_rules.specs.declared.store.Store.{Store}
use Rattle.cub_rules.specs.Messages.{holding, passing, taking}
use Rattle.cub_rules.specs.Ticks.{releasing, believing, putting_own, putting_for_dead, split_line, forward_line, ask_line, must_split, is_to_forward, must_read, is_served, is_past, ticking}
use Rattle.cub_changes.specs.Changes.{Change, did}
use Rattle.cub_changes.specs.Changes.Change.{PassOn, DropLines, DropStart, KillSplits, TakeRecord, Queue, FailRead, PutStart, SendFirst, SendPlaced, AddPiece, Believe, SplitVisits, Forward, AskBlocks, AskPieces, ServeBlocks, DropBackups, ServePieces, Beat}
use Rattle.cub_changes.specs.Causes.Stage.{OnDeadman, OnService}
use Rattle.cub_changes.specs.Outputs.{Output, output, ComesOf}
use Rattle.cub_changes.specs.Outputs.Output.{Took, Dropped, Unqueued, Queued, Put, Believed, ReadFailed, DescheduleSent, KillSent, StateSent, MirrorStateSent, PlacedSent, AskSent, BlockSent, PieceSent, HeartbeatSent}
use Rattle.cub_changes.proofs.Chains.{release_is, own_puts, dead_puts, stopped, ending_on}
pub use Rattle.cub_changes.proofs.Chains.{ending_back}
use Rattle.cub_changes.proofs.Closed.{IsClosed, OfEach}
use Rattle.cub_changes.proofs.Fits.{IsOfService, fits}
use Rattle.cub_changes.proofs.Outputs.{forms_of}
use Rattle.cub_changes.proofs.Puts.{puts_by}
use Rattle.cub_changes.proofs.Ticks.{believing_by, service_by, tick_chain, before_inserting, before_splitting}
use Rattle.lists.specs.Elements.{In}
use Rattle.lists.proofs.Each.{all_in, all_by}
use Rattle.lists.proofs.Elements.{from_filter, from_map}
use Rattle.proof_turns.specs.Turns.{is_of_take}
use Rattle.proof_turns.specs.Laws.{BeginsOtherwise, TicksBeginOtherwise}
use Rattle.cub_rules.specs.Cubs.{was_away, ending}

-- no line is of the instance that a message stops
abbrev AreApart : Note → List Line → Type 0
AreApart (note.Deschedule v tag) xs = AllByRecursion (λ x. lines.is_of v x ≡ false) xs
AreApart other xs = Unit {0}

-- lines of which each has the record of one of these are apart if these are
apart-of : (message : Note) (xs ys : List Line) → ((y : Line) → In y ys → (x : Line) × In x xs × (y.rec ≡ x.rec))
    → AreApart message xs → AreApart message ys
apart-of (note.Deschedule v tag) xs ys from h =
    all_by (λ (y : Line). lines.is_of v y ≡ false) ys (λ y i.
    let x = from y i in
    ap (λ (r : Rec). r.tenancy.instance.0 == v.0) x.2 ∙ all_in (λ (z : Line). lines.is_of v z ≡ false) x.0 xs h x.1)
apart-of other xs ys from h = tt

-- of some outputs the first is there, and may not come of the take
abbrev IsOther : Note → List (Out Msg) → Type 0
IsOther message [] = ⊥
IsOther message (o ∷ os) = is_of_take message (what_of noted o) ≡ false

other-append : (message : Note) (xs ys : List (Out Msg)) → IsOther message xs → IsOther message (xs ++ ys)
other-append message [] ys h = absurd h
other-append message (x ∷ xs) ys h = h

-- If no line is of what was stopped, a deed puts nothing out and leaves it so, or puts out first what is not of the take.
abbrev Begins : Note → Store → Deed Msg Store → Type 0
Begins message h d =
    AreApart message h.view.lines
    → ((d.outs ≡ []) × AreApart message d.state.view.lines) ⊎ IsOther message d.outs

begins-closed : (message : Note) → IsClosed (Begins message)
begins-closed message = record {
  none = λ h apart. inl (refl, apart);
  both = λ h d e one two apart. ⊎_elim
      (λ (q : (d.outs ≡ []) × AreApart message d.state.view.lines). ⊎_elim
      (λ (r : (e.outs ≡ []) × AreApart message e.state.view.lines).
      inl (ap (λ (os : List (Out Msg)). os ++ e.outs) q.0 ∙ r.0, r.1))
      (λ (r : IsOther message e.outs).
      inr (subst (λ (os : List (Out Msg)). IsOther message (os ++ e.outs)) (sym q.0) r))
      (two q.1))
      (λ (q : IsOther message d.outs). inr (other-append message d.outs e.outs q))
      (one apart);
}

-- outputs of which none is of the take
begins-by : (message : Note) (outs : List (Out Msg)) (h : Store)
    → AllByRecursion (λ (o : Out Msg). is_of_take message (what_of noted o) ≡ false) outs → AreApart message h.view.lines
    → ((outs ≡ []) × AreApart message h.view.lines) ⊎ IsOther message outs
begins-by message [] h all apart = inl (refl, apart)
begins-by message (o ∷ os) h all apart = inr all.0

-- what no take puts out
abbrev IsOfNone : Note → Out Msg → Type 0
IsOfNone message o = is_of_take message (what_of noted o) ≡ false

module _ (p : Params) (c : ℕ) (stamp : Stamp) where
  none-put : (message : Note) (t : Tenancy) → IsOfNone message (output p c stamp (Put t))
  none-put (note.Start redundant a) t = refl
  none-put other t = refl

  none-believed : (message : Note) → IsOfNone message (output p c stamp Believed)
  none-believed (note.Start redundant a) = refl
  none-believed other = refl

  none-state : (message : Note) (steps : ℕ) (s : State) → IsOfNone message (output p c stamp (StateSent steps s))
  none-state (note.Start redundant a) steps s = refl
  none-state other steps s = refl

  none-mirror : (message : Note) (y : PieceState) → IsOfNone message (output p c stamp (MirrorStateSent y))
  none-mirror (note.Start redundant a) y = refl
  none-mirror other y = refl

  none-ask : (message : Note) (disk : ℕ) (want : Want) → IsOfNone message (output p c stamp (AskSent disk want))
  none-ask (note.Start redundant a) disk want = refl
  none-ask other disk want = refl

  none-block : (message : Note) (want : Want) (part : LibraryPart) → IsOfNone message (output p c stamp (BlockSent want part))
  none-block (note.Start redundant a) want part = refl
  none-block other want part = refl

  none-piece : (message : Note) (want : Want) (part : LibraryPart) → IsOfNone message (output p c stamp (PieceSent want part))
  none-piece (note.Start redundant a) want part = refl
  none-piece other want part = refl

  none-beat : (message : Note) → IsOfNone message (output p c stamp HeartbeatSent)
  none-beat (note.Start redundant a) = refl
  none-beat other = refl

  -- a record that is dropped is one that the cub kept
  none-dropped : (message : Note) (xs : List Line) (y : Line) → AreApart message xs → In y xs
      → IsOfNone message (output p c stamp (Dropped y))
  none-dropped (note.Deschedule v tag) xs y apart i = all_in (λ (x : Line). lines.is_of v x ≡ false) y xs apart i
  none-dropped other xs y apart i = refl

  module _ (message : Note) (x : Change) (h : Store) (may : IsOfService x) where
    never : (y : Change) → x ≡ y → IsOfService y
    never y e = subst IsOfService e may

    form-none : AreApart message h.view.lines → (o : Output) → ComesOf p c stamp x h o → IsOfNone message (output p c stamp o)
    form-none apart (Took r) comes = absurd (never (TakeRecord r) comes)
    form-none apart (Dropped y) comes = ⊎_elim
        (λ d. absurd (never (DropLines y.rec.tenancy.instance) d.0))
        (λ d. ⊎_elim
        (λ q. none-dropped message h.view.lines y apart q.1.0)
        (λ q. none-dropped message h.view.lines y apart q.1.0)
        d)
        comes
    form-none apart (Unqueued v) comes = absurd (never (DropStart v) comes)
    form-none apart (Queued a) comes = ⊎_elim
        (λ q. absurd (never (Queue a) q))
        (λ q. absurd (never Believe q.0))
        comes
    form-none apart (Put t) comes = absurd (never (PutStart t) comes)
    form-none apart Believed comes = absurd (never Believe comes)
    form-none apart (ReadFailed want) comes = absurd (never (FailRead want) comes)
    form-none apart (DescheduleSent steps v tag) comes = absurd (never (PassOn v comes.0) comes.1)
    form-none apart (KillSent steps y) comes = absurd (never (KillSplits y.0) comes.0)
    form-none apart (StateSent steps s) comes = none-state message steps s
    form-none apart (MirrorStateSent y) comes = none-mirror message y
    form-none apart (PlacedSent t) comes = ⊎_elim
        (λ q. absurd (never (SendFirst t) q))
        (λ q. absurd (never (SendPlaced t) q))
        comes
    form-none apart (AskSent disk want) comes = none-ask message disk want
    form-none apart (BlockSent want part) comes = none-block message want part
    form-none apart (PieceSent want part) comes = none-piece message want part
    form-none apart HeartbeatSent comes = none-beat message

    outs-none : AreApart message h.view.lines → AllByRecursion (IsOfNone message) (did p c stamp x h).outs
    outs-none apart = forms_of p c stamp (IsOfNone message) x h (form-none apart)

  -- a line that is marked has its record
  split-same : (x : Line) → (split_line p stamp x).rec ≡ x.rec
  split-same x = cond_both (must_split p stamp x) (marked flag.Split x) x (λ (y : Line). y.rec ≡ x.rec) (λ _. refl) (λ _. refl)

  forward-same : (x : Line) → (forward_line p stamp x).rec ≡ x.rec
  forward-same x =
      cond_both (is_to_forward p stamp x) (marked flag.Forwarded x) x (λ (y : Line). y.rec ≡ x.rec) (λ _. refl) (λ _. refl)

  ask-same : (x : Line) → (ask_line p stamp x).rec ≡ x.rec
  ask-same x = cond_both (must_read p stamp x) (marked flag.Asked x) x (λ (y : Line). y.rec ≡ x.rec) (λ _. refl) (λ _. refl)

  apart-map : (message : Note) (f : Line → Line) (xs : List Line) → ((x : Line) → (f x).rec ≡ x.rec) → AreApart message xs
      → AreApart message (map f xs)
  apart-map message f xs same =
      apart-of message xs (map f xs) (λ y i.
      let x = from_map f y xs i in (x.0, x.1, ap (λ (z : Line). z.rec) x.2 ∙ same x.0))

  apart-filter : (message : Note) (test : Line → Bool) (xs : List Line) → AreApart message xs
      → AreApart message (filter test xs)
  apart-filter message test xs =
      apart-of message xs (filter test xs) (λ y i. let k = from_filter test y xs i in (y, k.0, refl))

  -- a change of the steps behind insertion
  begins-service : (message : Note) (x : Change) (h : Store) → IsOfService x → Begins message h (did p c stamp x h)
  begins-service message x h may apart =
      begins-by message (did p c stamp x h).outs (did p c stamp x h).state (outs-none message x h may apart) (leaves x may)
    where
      leaves : (x : Change) → IsOfService x → AreApart message (did p c stamp x h).state.view.lines
      leaves (AddPiece y) may = apart
      leaves SplitVisits may = apart-map message (split_line p stamp) h.view.lines split-same apart
      leaves Forward may = apart-map message (forward_line p stamp) h.view.lines forward-same apart
      leaves AskBlocks may = apart-map message (ask_line p stamp) h.view.lines ask-same apart
      leaves AskPieces may = apart
      leaves ServeBlocks may = apart-filter message (λ y. not (is_served p stamp y)) h.view.lines apart
      leaves DropBackups may = apart-filter message (λ y. not (is_past p stamp y)) h.view.lines apart
      leaves ServePieces may = apart
      leaves Beat may = apart
      leaves other may = absurd may

  begins-releasing : (message : Note) (h : Store) → Begins message h (releasing p stamp h)
  begins-releasing message h =
      subst (λ (d : Deed Msg Store). Begins message h d) (sym (release_is p c stamp h)) (λ apart. inl (refl, apart))

  begins-believing : (message : Note) (h : Store) → Begins message h (believing p c stamp h)
  begins-believing message h = believing_by (Begins message) (begins-closed message) p c stamp h each
    where
      each : OfEach (Begins message) p c stamp OnDeadman h
      each Believe g cause apart = inr (none-believed message)
      each other g cause apart = absurd (fits p c stamp h OnDeadman other g cause)

  begins-own : (message : Note) (t : Tenancy) (h : Store) → Begins message h (putting_own p c t h)
  begins-own message t h apart =
      inr (subst (λ (os : List (Out Msg)). IsOther message os) (own_puts p c t h) (none-put message t))

  begins-dead : (message : Note) (t : Tenancy) (h : Store) → Begins message h (putting_for_dead p c t h)
  begins-dead message t h apart =
      inr (subst (λ (os : List (Out Msg)). IsOther message os) (dead_puts p c t h) (none-put message t))

  begins-ticking : (message : Note) (h : Store) → Begins message h (ticking p c stamp h)
  begins-ticking message h =
      let P : Store → Deed Msg Store → Type 0 = Begins message in
      let closed = begins-closed message in
      tick_chain P closed p c stamp h (begins-releasing message h) (begins-believing message (releasing p stamp h).state)
      (puts_by P closed p c stamp (before_inserting p c stamp h) (λ t g o i. begins-own message t g)
      (λ t g o b i. begins-dead message t g))
      (service_by P closed p c stamp (before_splitting p c stamp h) (λ from x g cause.
      begins-service message x g (fits p c stamp from OnService x g cause)))

-- behind a deschedule no line is of its instance
not-true : (b : Bool) → not b ≡ true → b ≡ false
not-true true h = absurd (cc)
not-true false h = refl

all-dropped : (v : Instance) (xs : List Line) → AllByRecursion (λ (x : Line). lines.is_of v x ≡ false) (without_instance v xs)
unfolding without_instance
all-dropped v xs =
    all_by (λ (x : Line). lines.is_of v x ≡ false) (filter (λ x. not (lines.is_of v x)) xs) (λ x i.
    not-true (lines.is_of v x) (from_filter (λ y. not (lines.is_of v y)) x xs i).1)

apart-behind : (p : Params) (c : ℕ) (stamp : Stamp) (link : LinkNo) (m : Msg) (h : Store) → IsInForm p (noted m)
    → AreApart (noted m) (taking p c stamp link m h).state.view.lines
apart-behind p c stamp link (msg.Deschedule v tag) h form =
    subst (λ (s : Store). AllByRecursion (λ (x : Line). lines.is_of v x ≡ false) s.view.lines)
    (sym (stopped p c stamp link v tag h form)) (all-dropped v (passing p c stamp v tag (holding p stamp v h).state).state.view.lines)
apart-behind p c stamp link other h form = tt

begun : (message : Note) (outs : List (Out Msg)) (A : Type 0) → ((outs ≡ []) × A) ⊎ IsOther message outs
    → BeginsOtherwise noted message outs
begun message [] A h = tt
begun message (o ∷ os) A h = ⊎_elim
    (λ (q : (o ∷ os ≡ []) × A). let e = q.0 in absurd (cc))
    (λ (q : IsOther message (o ∷ os)). q)
    h

-- nor does a take write that the cub came back
none-returned : (message : Note) → is_of_take message what.Returned ≡ false
none-returned (note.Start redundant ask) = refl
none-returned (note.ViewerState state) = refl
none-returned (note.Deschedule v tag) = refl
none-returned (note.ReadDone want part) = refl
none-returned other = refl

ending-other : (p : Params) (c : ℕ) (last : Option ℕ) (now : Stamp) (message : Note) (h : Store)
    → BeginsOtherwise noted message (ticking p c now h).outs → BeginsOtherwise noted message (ending p c last now h).outs
ending-other p c last now message h tick =
    let Other : Deed Msg Store → Type 0 = λ d. BeginsOtherwise noted message d.outs in
    ⊎_elim (λ (away : was_away last now.beat ≡ true). subst Other (sym (ending_back p c now last h away)) (none-returned message))
    (λ (on : was_away last now.beat ≡ false). subst Other (sym (ending_on p c now last h on)) tick)
    (cases_Bool (was_away last now.beat))

pub ticks_other : TicksBeginOtherwise
ticks_other s stamp now link m form =
    let h : Store = (taking s.params s.cub stamp link m s.store).state in
    ending-other s.params s.cub s.last now (noted m) h
    (begun (noted m) (ticking s.params s.cub now h).outs _
    (begins-ticking s.params s.cub now (noted m) h (apart-behind s.params s.cub stamp link m s.store form)))
