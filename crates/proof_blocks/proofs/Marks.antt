-- What a cub's rules make of the lines of its view and of the mark that tells that a line's block was asked for.
use Rattle.std.proofs.Common.{◌≡◌, ℕ, ◌+◌, ◌<◌, ◌≤◌, List, [], ◌∷◌, ◌++◌, map, filter, Bool, true, false, not, is_some, refl, sym, ap, subst, ◌∙◌, ⊎_elim, inl, inr}
use Rattle.std.specs.Prelude.{◌⊎◌}
use Rattle.std.proofs.lemmas.Bool.{cases_lt, and_from, le-leb}
use Rattle.tiger_base.specs.declared.number.Instance.{Instance}
use Rattle.tiger_base.specs.declared.number.LinkNo.{LinkNo}
use Rattle.tiger_base.specs.declared.number.Stamp.{Stamp}
use Rattle.tiger_base.specs.declared.tenancy.Rec.{Rec}
use Rattle.tiger_base.specs.declared.message.Msg.{Msg}
use Rattle.tiger_base.specs.Kinds.{is_own}
use Rattle.slot_plan.specs.declared.params.Params.{Params}
use Rattle.slot_plan.specs.Times.{due}
use Rattle.node_kit.specs.declared.outbox.Out.{Out}
use Rattle.node_kit.specs.Steps.{Deed}
use Rattle.node_kit.specs.Deeds.{nothing, then_do}
use Rattle.partial_view.specs.declared.line.Line.{Line}
use Rattle.partial_view.specs.declared.line.Flag.TheVariants as flag
use Rattle.partial_view.specs.Lines.{is_of, marked, unmarked, visit_of}
use Rattle.partial_view.specs.Views.{line_at, with_line, with_record, without_instance}
use Rattle.cub_rules.specs.declared.store.Store.{Store}
use Rattle.cub_rules.specs.Records.{with_piece_record}
use Rattle.cub_rules.specs.Messages.{taking}
use Rattle.cub_rules.specs.Ticks.{releasing, believing, inserting, split_line, splitting, forward_line, forwarding, must_read, ask_line, reading, is_served, is_past, ticking}
use Rattle.cub_changes.specs.Changes.{Change, did}
use Rattle.cub_changes.specs.Changes.Change.{DropLines, TakeRecord, SplitVisits, Forward, AskBlocks, ServeBlocks, DropBackups}
use Rattle.cub_changes.specs.Causes.{Stage, Cause}
use Rattle.cub_changes.specs.Causes.Stage.{OnMessage, OnRelease, OnDeadman, OnInsertion}
use Rattle.proof_lives.proofs.HoldLaws.{no_both}
use Rattle.cub_changes.proofs.Chains as chains
use Rattle.cub_changes.proofs.Chains.{read_is, tick_outs}
use Rattle.cub_changes.proofs.Closed.{IsClosed, OfEach, then_by}
use Rattle.cub_changes.proofs.Messages.{taking_by}
use Rattle.cub_changes.proofs.Puts.{inserting_by}
use Rattle.cub_changes.proofs.Ticks.{releasing_by, believing_by, splitting_of, forwarding_from}
use Rattle.lists.specs.Elements.{In}
use Rattle.lists.proofs.Elements.{chosen, in_left, in_right, in_cases, from_map, from_filter}
use Rattle.proof_lives.proofs.Moves.{taken_out, from_with_line, forward_keeps, split_same}
use Rattle.proof_lives.proofs.Steps.{same_with_pieces}
use Rattle.proof_facts.specs.Pieces.{before_reading, before_serving}

-- A line is of a record that was there, and has the mark of that one's line.
pub record WasLine (lines : List Line) (y : Line) : Type 0 where
  pub line : Line
  pub there : In line lines
  pub same : y.rec ≡ line.rec
  pub mark : y.asked ≡ line.asked

-- It is of a record that was taken, and has no mark.
pub record IsNewLine (outs : List (Out Msg)) (y : Line) : Type 0 where
  pub taken : In (taken_out y.rec) outs
  pub mark : y.asked ≡ false

-- A deed sets no mark: each line is of a record that was there, or that was taken.
pub record SetsNoMark (h : Store) (d : Deed Msg Store) : Type 0 where
  pub back : (y : Line) → In y d.state.view.lines → WasLine h.view.lines y ⊎ IsNewLine d.outs y

sets_none : (h : Store) (d : Deed Msg Store) → ((y : Line) → In y d.state.view.lines → WasLine h.view.lines y)
    → SetsNoMark h d
sets_none h d was = record { back = λ y i. inl (was y i) }

itself : (lines : List Line) (y : Line) → In y lines → WasLine lines y
itself lines y i = record { line = y; there = i; same = refl; mark = refl }

both_none : (h : Store) (d e : Deed Msg Store) → SetsNoMark h d → SetsNoMark d.state e
    → SetsNoMark h (record { outs = d.outs ++ e.outs; state = e.state })
both_none h d e one two = record {
  back = λ y i. ⊎_elim
      (λ w. ⊎_elim
      (λ v. inl (record { line = v.line; there = v.there; same = w.same ∙ v.same; mark = w.mark ∙ v.mark }))
      (λ v. inr (record {
        taken = in_left (taken_out y.rec) d.outs e.outs
            (subst (λ (r : Rec). In (taken_out r) d.outs) (sym w.same) v.taken);
        mark = w.mark ∙ v.mark;
      }))
      (one.back w.line w.there))
      (λ w. inr (record { taken = in_right (taken_out y.rec) d.outs e.outs w.taken; mark = w.mark }))
      (two.back y i);
}

none_closed : IsClosed SetsNoMark
none_closed = record { none = λ h. sets_none h (nothing h) (itself h.view.lines); both = both_none }

-- ---- single changes

was_mapped : (f : Line → Line) → ((x : Line) → ((f x).rec ≡ x.rec) × ((f x).asked ≡ x.asked))
    → (lines : List Line) (y : Line)
    → In y (map f lines) → WasLine lines y
was_mapped f same lines y i =
    let r = from_map f y lines i in
    let s = same r.0 in
    record {
      line = r.0;
      there = r.1;
      same = ap (λ (z : Line). z.rec) r.2 ∙ s.0;
      mark = ap (λ (z : Line). z.asked) r.2 ∙ s.1;
    }

was_filtered : (keep : Line → Bool) (lines : List Line) (y : Line) → In y (filter keep lines) → WasLine lines y
was_filtered keep lines y i = itself lines y (from_filter keep y lines i).0

without_back : (v : Instance) (lines : List Line) (y : Line) → In y (without_instance v lines) → WasLine lines y
unfolding without_instance
without_back v lines y i = was_filtered (λ x. not (is_of v x)) lines y i

record_back : (p : Params) (r : Rec) (lines : List Line) (y : Line) → In y (with_record p r lines)
    → WasLine lines y ⊎ ((y.rec ≡ r) × (y.asked ≡ false))
unfolding with_record
record_back p r lines y =
    chosen (λ (ls : List Line). In y ls → WasLine lines y ⊎ ((y.rec ≡ r) × (y.asked ≡ false)))
    (is_some (line_at (visit_of r) lines)) lines (with_line p (unmarked r) lines)
    (λ _ i. inl (itself lines y i))
    (λ _ i. ⊎_elim
    (λ e. inr (ap (λ (z : Line). z.rec) e, ap (λ (z : Line). z.asked) e))
    (λ k. inl (itself lines y k))
    (from_with_line p (unmarked r) y lines i))

-- only asking sets marks
change_none : (p : Params) (c : ℕ) (stamp : Stamp) (x : Change) (h : Store) → (x ≡ AskBlocks → ⊥)
    → SetsNoMark h (did p c stamp x h)
change_none p c stamp (TakeRecord r) h never = record {
  back = λ y i. ⊎_elim
      (λ w. inl w)
      (λ e. inr (record { taken = inl (ap taken_out e.0); mark = e.1 }))
      (record_back h.view.params r h.view.lines y i);
}
change_none p c stamp (DropLines v) h never =
    sets_none h (did p c stamp (DropLines v) h) (λ y i. without_back v h.view.lines y i)
change_none p c stamp SplitVisits h never =
    sets_none h (did p c stamp SplitVisits h)
    (λ y i. was_mapped (split_line p stamp) (λ x. ((split_same p stamp x).0, (split_same p stamp x).2)) h.view.lines y i)
change_none p c stamp Forward h never =
    sets_none h (did p c stamp Forward h)
    (λ y i. was_mapped (forward_line p stamp) (forward_keeps p stamp) h.view.lines y i)
change_none p c stamp ServeBlocks h never =
    sets_none h (did p c stamp ServeBlocks h) (λ y i. was_filtered (λ x. not (is_served p stamp x)) h.view.lines y i)
change_none p c stamp DropBackups h never =
    sets_none h (did p c stamp DropBackups h) (λ y i. was_filtered (λ x. not (is_past p stamp x)) h.view.lines y i)
change_none p c stamp AskBlocks h never = absurd (never refl)
change_none p c stamp other h never = sets_none h (did p c stamp other h) (λ y i. itself h.view.lines y i)

-- ---- a message, and the first half of a tick

-- in these stages nothing is asked for
abbrev AsksNothing : Params → ℕ → Stamp → Stage → Type 0
AsksNothing p c stamp g = (from h : Store) → Cause p c stamp g from AskBlocks h → ⊥

stage_none : (p : Params) (c : ℕ) (stamp : Stamp) (g : Stage) (from : Store) → AsksNothing p c stamp g
    → OfEach SetsNoMark p c stamp g from
stage_none p c stamp g from never x h cause =
    change_none p c stamp x h (λ e. never from h (subst (λ (z : Change). Cause p c stamp g from z h) e cause))

-- a message sets no mark
pub taking_none : (p : Params) (c : ℕ) (stamp : Stamp) (link : LinkNo) (m : Msg) (h : Store)
    → SetsNoMark h (taking p c stamp link m h)
taking_none p c stamp link m h =
    taking_by SetsNoMark none_closed p c stamp link m h (stage_none p c stamp (OnMessage link m) h (λ from q a. a))

splitting_none : (p : Params) (c : ℕ) (stamp : Stamp) (h : Store) → SetsNoMark h (splitting p c stamp h)
splitting_none p c stamp h =
    splitting_of SetsNoMark none_closed p c stamp h (λ _. change_none p c stamp SplitVisits h (λ e. absurd (cc)))
    (λ _ x _ q.
    let g : Store = with_piece_record x q in
    sets_none q (record { outs = []; state = g })
    (λ y i. itself q.view.lines y (subst (λ (ls : List Line). In y ls) (same_with_pieces (x ∷ []) q) i)))

forwarding_none : (p : Params) (c : ℕ) (stamp : Stamp) (h : Store) → SetsNoMark h (forwarding p c stamp h)
forwarding_none p c stamp h =
    forwarding_from SetsNoMark none_closed p c stamp h (change_none p c stamp Forward h (λ e. absurd (cc)))

-- the steps of a tick before it asks
abbrev pub before_asking : Params → ℕ → Stamp → Store → Deed Msg Store
before_asking p c stamp =
    then_do (releasing p stamp)
    (then_do (believing p c stamp)
    (then_do (inserting p c stamp) (then_do (splitting p c stamp) (forwarding p c stamp))))

pub before_none : (p : Params) (c : ℕ) (stamp : Stamp) (h : Store) → SetsNoMark h (before_asking p c stamp h)
before_none p c stamp h =
    let last : Store → Deed Msg Store = then_do (splitting p c stamp) (forwarding p c stamp) in
    let more : Store → Deed Msg Store = then_do (inserting p c stamp) last in
    let h1 : Store = (releasing p stamp h).state in
    let h2 : Store = (believing p c stamp h1).state in
    let h3 : Store = (inserting p c stamp h2).state in
    let h4 : Store = (splitting p c stamp h3).state in
    then_by SetsNoMark none_closed (releasing p stamp) (then_do (believing p c stamp) more) h
    (releasing_by SetsNoMark none_closed p c stamp h (stage_none p c stamp OnRelease h (λ from q a. a)))
    (then_by SetsNoMark none_closed (believing p c stamp) more h1
    (believing_by SetsNoMark none_closed p c stamp h1 (stage_none p c stamp OnDeadman h1 (λ from q a. a)))
    (then_by SetsNoMark none_closed (inserting p c stamp) last h2
    (inserting_by SetsNoMark none_closed p c stamp h2 (stage_none p c stamp OnInsertion h2 (λ from q a. a)))
    (then_by SetsNoMark none_closed (splitting p c stamp) (forwarding p c stamp) h3 (splitting_none p c stamp h3)
    (forwarding_none p c stamp h4))))

-- what these steps put out the tick puts out
in_front : {X : Type 0} (x : X) (front xs ys : List X) → (In x xs → In x ys) → In x (front ++ xs) → In x (front ++ ys)
in_front x front xs ys f i = ⊎_elim (λ k. in_left x front ys k) (λ k. in_right x front ys (f k)) (in_cases x front xs i)

pub before_out : (p : Params) (c : ℕ) (stamp : Stamp) (h : Store) (o : Out Msg) → In o (before_asking p c stamp h).outs
    → In o (ticking p c stamp h).outs
before_out p c stamp h o i =
    let h1 : Store = (releasing p stamp h).state in
    let h2 : Store = (believing p c stamp h1).state in
    let h3 : Store = (inserting p c stamp h2).state in
    let h4 : Store = (splitting p c stamp h3).state in
    subst (λ (os : List (Out Msg)). In o os) (tick_outs p c stamp h)
    (in_front o (releasing p stamp h).outs _ _
    (in_front o (believing p c stamp h1).outs _ _
    (in_front o (inserting p c stamp h2).outs _ _
    (in_front o (splitting p c stamp h3).outs _ _
    (in_left o (forwarding p c stamp h4).outs _)))) i)

-- ---- the second half of a tick

-- A line is left by a tick: it was there when the cub asked the disks, is marked since if it was to be read, and is not to
-- be served.
pub record IsLeft (p : Params) (c : ℕ) (stamp : Stamp) (h : Store) (y : Line) : Type 0 where
  pub line : Line
  pub there : In line (before_reading p c stamp h).view.lines
  pub is : y ≡ ask_line p stamp line
  pub undue : is_served p stamp y ≡ false

pub reading_lines : (p : Params) (stamp : Stamp) (h : Store)
    → (reading p stamp h).state.view.lines ≡ map (ask_line p stamp) h.view.lines
reading_lines p stamp h = ap (λ (d : Deed Msg Store). d.state.view.lines) (read_is p 0 stamp h)

-- a line that is there when a cub serves was there when it asked
pub served_from : (p : Params) (c : ℕ) (stamp : Stamp) (h : Store) (y : Line)
    → In y (before_serving p c stamp h).view.lines
    → (x : Line) × In x (before_reading p c stamp h).view.lines × (y ≡ ask_line p stamp x)
served_from p c stamp h y i =
    let g : Store = before_reading p c stamp h in
    from_map (ask_line p stamp) y g.view.lines (subst (λ (ls : List Line). In y ls) (reading_lines p stamp g) i)

pub ticking_left : (p : Params) (c : ℕ) (stamp : Stamp) (h : Store) (y : Line)
    → In y (ticking p c stamp h).state.view.lines
    → IsLeft p c stamp h y
ticking_left p c stamp h y i =
    let s = chains.ticking_left p c stamp h y i in
    let r = served_from p c stamp h y s.0 in
    record { line = r.0; there = r.1; is = r.2; undue = s.1 }

-- ---- what a mark tells

-- what asking makes of a line
pub asked_line : (p : Params) (stamp : Stamp) (x : Line)
    → ((ask_line p stamp x).rec ≡ x.rec) ×
    (((must_read p stamp x ≡ true) × ((ask_line p stamp x).asked ≡ true))
    ⊎ ((must_read p stamp x ≡ false) × ((ask_line p stamp x).asked ≡ x.asked)))
asked_line p stamp x =
    chosen (λ (y : Line). (y.rec ≡ x.rec) ×
    (((must_read p stamp x ≡ true) × (y.asked ≡ true)) ⊎ ((must_read p stamp x ≡ false) × (y.asked ≡ x.asked))))
    (must_read p stamp x) (marked flag.Asked x) x (λ e. (refl, inl (e, refl))) (λ e. (refl, inr (e, refl)))

-- a line without a mark that is not to be read is not yet due within the read lead
pub unread_early : (p : Params) (stamp : Stamp) (x : Line) → is_own x.rec.kind ≡ true → x.asked ≡ false
    → must_read p stamp x ≡ false
    → stamp.reading + p.read_lead < due p x.rec.tenancy.slot.0 x.rec.visit
unfolding must_read
unread_early p stamp x own mark e = ⊎_elim
    (λ l. l)
    (λ (g : due p x.rec.tenancy.slot.0 x.rec.visit ≤ stamp.reading + p.read_lead).
    absurd (no_both (and_from _ _ (and_from _ _ own (ap not mark)) (le-leb _ _ g)) e))
    (cases_lt (stamp.reading + p.read_lead) (due p x.rec.tenancy.slot.0 x.rec.visit))

-- a line that is not to be served is not yet due
pub unserved_early : (p : Params) (stamp : Stamp) (x : Line) → is_own x.rec.kind ≡ true → is_served p stamp x ≡ false
    → stamp.reading < due p x.rec.tenancy.slot.0 x.rec.visit
unfolding is_served
unserved_early p stamp x own e = ⊎_elim
    (λ l. l)
    (λ (g : due p x.rec.tenancy.slot.0 x.rec.visit ≤ stamp.reading). absurd
    (no_both (and_from _ _ own (le-leb _ _ g)) e))
    (cases_lt stamp.reading (due p x.rec.tenancy.slot.0 x.rec.visit))
