-- What a deed makes of a view's lines: which come from where, which stay, and which leave for a reason; and what each change makes of them.
use Rattle.std.proofs.Common.{◌≡◌, ℕ, ◌≤◌, nat_le, List, [], ◌∷◌, ◌++◌, map, filter, Bool, true, false, not, is_some, refl, sym, ap, subst, ◌∙◌, ⊎_elim, inl, inr}
use Rattle.std.specs.Prelude.{◌⊎◌}
use Rattle.std.specs.List.{flat_map, AllByRecursion}
use Rattle.std.proofs.lemmas.Bool.{cases_Bool, eqb-true, leb-true, and_parts, not-false}
use Rattle.tiger_base.specs.declared.number.Instance.{Instance}
use Rattle.tiger_base.specs.declared.number.Stamp.{Stamp}
use Rattle.tiger_base.specs.declared.tenancy.Rec.{Rec}
use Rattle.tiger_base.specs.declared.message.Msg.{Msg}
use Rattle.tiger_base.specs.declared.message.Msg.TheVariants as msg
use Rattle.tiger_base.specs.Kinds.{is_own}
use Rattle.slot_plan.specs.declared.params.Params.{Params}
use Rattle.slot_plan.specs.Times.{due}
use Rattle.slot_plan.specs.Keys.{due_of}
use Rattle.node_kit.specs.declared.journal.What.TheVariants as what
use Rattle.node_kit.specs.declared.outbox.Out.{Out}
use Rattle.node_kit.specs.declared.outbox.Out.TheVariants as out
use Rattle.node_kit.specs.Steps.{Deed}
use Rattle.partial_view.specs.declared.line.Line.{Line}
use Rattle.partial_view.specs.declared.line.Flag.TheVariants as flag
use Rattle.partial_view.specs.Lines.{visit_of, unmarked, is_of, key_of, marked}
use Rattle.partial_view.specs.Views.{line_at, with_line, with_record, without_instance}
use Rattle.node_kit.specs.Ways.{way_ahead}
use Rattle.node_kit.specs.Deeds.{nothing}
use Rattle.cub_rules.specs.declared.store.Store.{Store}
use Rattle.cub_rules.specs.Records.{took}
use Rattle.cub_rules.specs.Ticks.{next_state, must_split, split_line, is_to_forward, forward_outs, forward_line, must_read, ask_line, is_served, is_past}
use Rattle.cub_changes.specs.Changes.{Change, did}
use Rattle.cub_changes.specs.Changes.Change.{DropLines, TakeRecord, SplitVisits, Forward, AskBlocks, ServeBlocks, DropBackups}
use Rattle.cub_changes.specs.Causes.{Stage, Cause}
use Rattle.cub_changes.proofs.Closed.{IsClosed, OfEach}
use Rattle.cub_changes.proofs.Fits.{Fits, fits}
use Rattle.cub_changes.proofs.Outputs.{tells_of}
use Rattle.lists.specs.Elements.{In}
use Rattle.lists.proofs.Elements.{chosen, in_left, in_right, in_cases, in_map, from_map, in_flat_map, in_filter, from_filter}
use Rattle.lists.proofs.Each.{all_in}
use Rattle.cub_changes.proofs.Messages.{took_of}

-- the entry that a record was taken
abbrev pub taken_out : Rec → Out Msg
taken_out r = out.Act (what.Took r)

-- the state of a record's next visit went out to the next two cubs
abbrev pub NextSent : Params → ℕ → Rec → List (Out Msg) → Type 0
NextSent p c r outs = In (out.Send (way_ahead p c 1) (next_state r)) outs × In (out.Send (way_ahead p c 2) (next_state r)) outs

-- a line's mark was set where its next state went out
abbrev pub IsMarked : Params → ℕ → List (Out Msg) → Line → Type 0
IsMarked p c outs y = (y.forwarded ≡ true) × NextSent p c y.rec outs

-- a line is of a record that was there before, or of one that was taken
pub record WasThere (p : Params) (c : ℕ) (lines : List Line) (outs : List (Out Msg)) (y : Line) : Type 0 where
  pub line : Line
  pub there : In line lines
  pub same : y.rec ≡ line.rec
  pub mark : (y.forwarded ≡ line.forwarded) ⊎ IsMarked p c outs y

pub record IsNew (p : Params) (c : ℕ) (outs : List (Out Msg)) (y : Line) : Type 0 where
  pub taken : In (taken_out y.rec) outs
  pub mark : (y.forwarded ≡ false) ⊎ IsMarked p c outs y

-- a record has its line
pub record Stays (r : Rec) (lines : List Line) : Type 0 where
  pub line : Line
  pub there : In line lines
  pub same : line.rec ≡ r

-- a line is of a slot and visit
abbrev pub IsAt : ℕ → ℕ → Line → Type 0
IsAt s n x = (x.rec.tenancy.slot.0 ≡ s) × (x.rec.visit ≡ n)

-- no record leaves
abbrev pub Never : Rec → Type 0
Never r = ⊥

-- what a deed makes of lines, where a record may leave for a reason
pub record Moves (p : Params) (c : ℕ) (May : Rec → Type 0) (lines : List Line) (d : Deed Msg Store) : Type 0 where
  pub back : (y : Line) → In y d.state.view.lines → WasThere p c lines d.outs y ⊎ IsNew p c d.outs y
  pub forth : (x : Line) → In x lines → Stays x.rec d.state.view.lines ⊎ May x.rec
  pub took : (r : Rec) → In (taken_out r) d.outs → Stays r d.state.view.lines ⊎ May r

-- outputs that tell nothing of records, Puts, viewer states, starts, deschedules and places
abbrev pub IsQuiet : Out Msg → Type 0
IsQuiet (out.Act (what.Took r)) = ⊥
IsQuiet (out.Act (what.Put t)) = ⊥
IsQuiet (out.Send link (msg.ViewerState s)) = ⊥
IsQuiet (out.Send link (msg.Start redundant a)) = ⊥
IsQuiet (out.Send link (msg.Deschedule v tag)) = ⊥
IsQuiet (out.Send link (msg.Placed t)) = ⊥
IsQuiet other = Unit {0}

abbrev pub AreQuiet : List (Out Msg) → Type 0
AreQuiet outs = AllByRecursion IsQuiet outs

-- outputs that send no start, and a deschedule only of an instance that is held
abbrev pub IsMeek : (Instance → Type 0) → Out Msg → Type 0
IsMeek Held (out.Send link (msg.Start redundant a)) = ⊥
IsMeek Held (out.Send link (msg.Deschedule v tag)) = Held v
IsMeek Held other = Unit {0}

abbrev pub AreMeek : (Instance → Type 0) → List (Out Msg) → Type 0
AreMeek Held outs = AllByRecursion (IsMeek Held) outs

pub quiet_took : (r : Rec) (outs : List (Out Msg)) → AreQuiet outs → In (taken_out r) outs → ⊥
quiet_took r outs q h = all_in IsQuiet (taken_out r) outs q h

pub next_left : (p : Params) (c : ℕ) (r : Rec) (xs ys : List (Out Msg)) → NextSent p c r xs → NextSent p c r (xs ++ ys)
next_left p c r xs ys s = (in_left _ xs ys s.0, in_left _ xs ys s.1)

pub next_right : (p : Params) (c : ℕ) (r : Rec) (xs ys : List (Out Msg)) → NextSent p c r ys → NextSent p c r (xs ++ ys)
next_right p c r xs ys s = (in_right _ xs ys s.0, in_right _ xs ys s.1)

-- a mark that was there before another deed
pub marked_before : (p : Params) (c : ℕ) (xs ys : List (Out Msg)) (y z : Line) → y.rec ≡ z.rec → y.forwarded ≡ z.forwarded → IsMarked p c xs z → IsMarked p c (xs ++ ys) y
marked_before p c xs ys y z e f m = (f ∙ m.0, subst (λ (r : Rec). NextSent p c r (xs ++ ys)) (sym e) (next_left p c z.rec xs ys m.1))

pub marked_after : (p : Params) (c : ℕ) (xs ys : List (Out Msg)) (y : Line) → IsMarked p c ys y → IsMarked p c (xs ++ ys) y
marked_after p c xs ys y m = (m.0, next_right p c y.rec xs ys m.1)

-- nothing moves
pub untaken : (p : Params) (c : ℕ) (May : Rec → Type 0) (lines : List Line) (d : Deed Msg Store) → d.state.view.lines ≡ lines → ((r : Rec) → In (taken_out r) d.outs → ⊥)
    → Moves p c May lines d
untaken p c May lines d e none = record {
  back = λ y h. inl (record { line = y; there = subst (λ (ls : List Line). In y ls) e h; same = refl; mark = inl refl });
  forth = λ x h. inl (record { line = x; there = subst (λ (ls : List Line). In x ls) (sym e) h; same = refl });
  took = λ r h. absurd (none r h);
}

-- one deed, and then another
module _ (p : Params) (c : ℕ) (May : Rec → Type 0) (lines : List Line) (d e : Deed Msg Store) (one : Moves p c May lines d) (two : Moves p c May d.state.view.lines e) where
  pub back_was : (y z : Line) → y.rec ≡ z.rec → (y.forwarded ≡ z.forwarded) ⊎ IsMarked p c e.outs y → WasThere p c lines d.outs z → WasThere p c lines (d.outs ++ e.outs) y
  back_was y z same mark w = record {
    line = w.line;
    there = w.there;
    same = same ∙ w.same;
    mark = ⊎_elim
        (λ f. ⊎_elim (λ g. inl (f ∙ g)) (λ m. inr (marked_before p c d.outs e.outs y z same f m)) w.mark)
        (λ m. inr (marked_after p c d.outs e.outs y m))
        mark;
  }

  pub back_new : (y z : Line) → y.rec ≡ z.rec → (y.forwarded ≡ z.forwarded) ⊎ IsMarked p c e.outs y → IsNew p c d.outs z → IsNew p c (d.outs ++ e.outs) y
  back_new y z same mark w = record {
    taken = in_left (taken_out y.rec) d.outs e.outs (subst (λ (r : Rec). In (taken_out r) d.outs) (sym same) w.taken);
    mark = ⊎_elim
        (λ f. ⊎_elim (λ g. inl (f ∙ g)) (λ m. inr (marked_before p c d.outs e.outs y z same f m)) w.mark)
        (λ m. inr (marked_after p c d.outs e.outs y m))
        mark;
  }

  pub then_back : (y : Line) → In y e.state.view.lines → WasThere p c lines (d.outs ++ e.outs) y ⊎ IsNew p c (d.outs ++ e.outs) y
  then_back y h = ⊎_elim
      (λ w. ⊎_elim (λ v. inl (back_was y w.line w.same w.mark v)) (λ v. inr (back_new y w.line w.same w.mark v)) (one.back w.line w.there))
      (λ w. inr (record {
        taken = in_right (taken_out y.rec) d.outs e.outs w.taken;
        mark = ⊎_elim (λ f. inl f) (λ m. inr (marked_after p c d.outs e.outs y m)) w.mark;
      }))
      (two.back y h)

  pub stays_on : (r : Rec) → Stays r d.state.view.lines ⊎ May r → Stays r e.state.view.lines ⊎ May r
  stays_on r s = ⊎_elim
      (λ w. ⊎_elim
      (λ v. inl (record { line = v.line; there = v.there; same = v.same ∙ w.same }))
      (λ v. inr (subst May w.same v))
      (two.forth w.line w.there))
      (λ m. inr m)
      s

  pub moves_then : Moves p c May lines (record { outs = d.outs ++ e.outs; state = e.state })
  moves_then = record {
    back = then_back;
    forth = λ x h. stays_on x.rec (one.forth x h);
    took = λ r h. ⊎_elim (λ w. stays_on r (one.took r w)) (λ w. two.took r w) (in_cases (taken_out r) d.outs e.outs h);
  }

-- lines that are mapped one by one
pub mapped : (p : Params) (c : ℕ) (May : Rec → Type 0) (f : Line → Line) (lines : List Line) (d : Deed Msg Store) → d.state.view.lines ≡ map f lines
    → ((x : Line) → (f x).rec ≡ x.rec) → ((x : Line) → In x lines → ((f x).forwarded ≡ x.forwarded) ⊎ IsMarked p c d.outs (f x)) → ((r : Rec) → In (taken_out r) d.outs → ⊥)
    → Moves p c May lines d
mapped p c May f lines d e same mark none = record {
  back = λ y h.
      let r = from_map f y lines (subst (λ (ls : List Line). In y ls) e h) in
      inl (record {
        line = r.0;
        there = r.1;
        same = ap (λ (z : Line). z.rec) r.2 ∙ same r.0;
        mark = subst (λ (z : Line). (z.forwarded ≡ r.0.forwarded) ⊎ IsMarked p c d.outs z) (sym r.2) (mark r.0 r.1);
      });
  forth = λ x h. inl (record { line = f x; there = subst (λ (ls : List Line). In (f x) ls) (sym e) (in_map f x lines h); same = same x });
  took = λ r h. absurd (none r h);
}

-- lines of which some leave
pub filtered : (p : Params) (c : ℕ) (May : Rec → Type 0) (keep : Line → Bool) (lines : List Line) (d : Deed Msg Store) → d.state.view.lines ≡ filter keep lines
    → ((x : Line) → keep x ≡ false → May x.rec) → ((r : Rec) → In (taken_out r) d.outs → ⊥) → Moves p c May lines d
filtered p c May keep lines d e may none = record {
  back = λ y h. let r = from_filter keep y lines (subst (λ (ls : List Line). In y ls) e h) in inl (record { line = y; there = r.0; same = refl; mark = inl refl });
  forth = λ x h. ⊎_elim
      (λ (t : keep x ≡ true). inl (record { line = x; there = subst (λ (ls : List Line). In x ls) (sym e) (in_filter keep x lines h t); same = refl }))
      (λ (t : keep x ≡ false). inr (may x t))
      (cases_Bool (keep x));
  took = λ r h. absurd (none r h);
}

-- a line more
pub from_with_line : (p : Params) (x y : Line) (ys : List Line) → In y (with_line p x ys) → (y ≡ x) ⊎ In y ys
unfolding with_line
from_with_line p x y [] h = ⊎_elim (λ e. inl e) (λ e. absurd e) h
from_with_line p x y (z ∷ zs) h =
    chosen (λ (ls : List Line). In y ls → (y ≡ x) ⊎ In y (z ∷ zs)) _ (x ∷ z ∷ zs) (z ∷ with_line p x zs)
    (λ _ k. k)
    (λ _ k. ⊎_elim (λ e. inr (inl e)) (λ e. ⊎_elim (λ q. inl q) (λ q. inr (inr q)) (from_with_line p x y zs e)) k)
    h

pub in_with_line : (p : Params) (x : Line) (ys : List Line) → In x (with_line p x ys)
unfolding with_line
in_with_line p x [] = inl refl
in_with_line p x (z ∷ zs) =
    chosen (λ (ls : List Line). In x ls) _ (x ∷ z ∷ zs) (z ∷ with_line p x zs) (λ _. inl refl) (λ _. inr (in_with_line p x zs))

pub stays_with_line : (p : Params) (x y : Line) (ys : List Line) → In y ys → In y (with_line p x ys)
unfolding with_line
stays_with_line p x y [] h = absurd h
stays_with_line p x y (z ∷ zs) h =
    chosen (λ (ls : List Line). In y ls) _ (x ∷ z ∷ zs) (z ∷ with_line p x zs) (λ _. inr h)
    (λ _. ⊎_elim (λ e. inl e) (λ e. inr (stays_with_line p x y zs e)) h)

-- whether a record's place is taken
abbrev pub is_taken : Rec → Store → Bool
is_taken r h = is_some (line_at (visit_of r) h.view.lines)

pub with_record_new : (p : Params) (r : Rec) (ys : List Line) → is_some (line_at (visit_of r) ys) ≡ false → with_record p r ys ≡ with_line p (unmarked r) ys
unfolding with_record
with_record_new p r ys e = rw e refl

pub took_new : (r : Rec) (h : Store) → is_taken r h ≡ false → ((took r h).outs ≡ taken_out r ∷ []) × ((took r h).state.view.lines ≡ with_line h.view.params (unmarked r) h.view.lines)
took_new r h e =
    took_of (λ (d : Deed Msg Store). (d.outs ≡ taken_out r ∷ []) × (d.state.view.lines ≡ with_line h.view.params (unmarked r) h.view.lines)) r h
    (λ t. let z : true ≡ false = sym t ∙ e in absurd (cc)) (λ _. (refl, with_record_new h.view.params r h.view.lines e))

-- ---- single changes

-- a record is due at a reading
abbrev pub IsDueAt : Params → ℕ → Rec → Type 0
IsDueAt p reading r = due p r.tenancy.slot.0 r.visit ≤ reading

-- why a record leaves at a change
abbrev pub MayGo : Params → Stamp → Change → Rec → Type 0
MayGo p stamp (DropLines v) r = r.tenancy.instance.0 ≡ v.0
MayGo p stamp ServeBlocks r = IsDueAt p stamp.reading r
MayGo p stamp DropBackups r = IsDueAt p stamp.reading r
MayGo p stamp other r = ⊥

pub served_due : (p : Params) (stamp : Stamp) (x : Line) → is_served p stamp x ≡ true → IsDueAt p stamp.reading x.rec
unfolding is_served
served_due p stamp x e = leb-true _ _ (and_parts (is_own x.rec.kind) (nat_le (due_of p (key_of x)) stamp.reading) e).1

past_due : (p : Params) (stamp : Stamp) (x : Line) → is_past p stamp x ≡ true → IsDueAt p stamp.reading x.rec
unfolding is_past
past_due p stamp x e = leb-true _ _ (and_parts (not (is_own x.rec.kind)) (nat_le (due_of p (key_of x)) stamp.reading) e).1

-- a mark leaves a line's record and its other marks
pub split_same : (p : Params) (stamp : Stamp) (x : Line) → ((split_line p stamp x).rec ≡ x.rec)
    × ((split_line p stamp x).forwarded ≡ x.forwarded) × ((split_line p stamp x).asked ≡ x.asked)
split_same p stamp x =
    chosen (λ (y : Line). (y.rec ≡ x.rec) × (y.forwarded ≡ x.forwarded) × (y.asked ≡ x.asked)) (must_split p stamp x)
    (marked flag.Split x) x (λ _. (refl, refl, refl)) (λ _. (refl, refl, refl))

pub ask_same : (p : Params) (stamp : Stamp) (x : Line) → ((ask_line p stamp x).rec ≡ x.rec) × ((ask_line p stamp x).forwarded ≡ x.forwarded)
ask_same p stamp x =
    chosen (λ (y : Line). (y.rec ≡ x.rec) × (y.forwarded ≡ x.forwarded)) (must_read p stamp x) (marked flag.Asked x) x (λ _. (refl, refl)) (λ _. (refl, refl))

pub forward_keeps : (p : Params) (stamp : Stamp) (x : Line) → ((forward_line p stamp x).rec ≡ x.rec) × ((forward_line p stamp x).asked ≡ x.asked)
forward_keeps p stamp x =
    chosen (λ (y : Line). (y.rec ≡ x.rec) × (y.asked ≡ x.asked)) (is_to_forward p stamp x) (marked flag.Forwarded x) x (λ _. (refl, refl)) (λ _. (refl, refl))

pub forward_same : (p : Params) (stamp : Stamp) (x : Line) → (forward_line p stamp x).rec ≡ x.rec
forward_same p stamp x = (forward_keeps p stamp x).0

forward_sent : (p : Params) (c : ℕ) (stamp : Stamp) (x : Line) → is_to_forward p stamp x ≡ true → NextSent p c x.rec (forward_outs p c stamp x)
forward_sent p c stamp x e = rw e (inl refl, inr (inl refl))

-- a line whose next state goes out is marked, and another keeps its mark
forward_mark : (p : Params) (c : ℕ) (stamp : Stamp) (x : Line) (lines : List Line) → In x lines
    → ((forward_line p stamp x).forwarded ≡ x.forwarded) ⊎ IsMarked p c (flat_map (forward_outs p c stamp) lines) (forward_line p stamp x)
forward_mark p c stamp x lines i =
    chosen (λ (y : Line). (y.forwarded ≡ x.forwarded) ⊎ IsMarked p c (flat_map (forward_outs p c stamp) lines) y) (is_to_forward p stamp x) (marked flag.Forwarded x) x
    (λ e.
    let sent = forward_sent p c stamp x e in
    inr (refl, (in_flat_map (forward_outs p c stamp) _ x lines i sent.0, in_flat_map (forward_outs p c stamp) _ x lines i sent.1)))
    (λ _. inl refl)

-- lines of a deed by single changes
abbrev pub MovesOn : Params → ℕ → (Rec → Type 0) → Store → Deed Msg Store → Type 0
MovesOn p c May h d = Moves p c May h.view.lines d

pub moves_closed : (p : Params) (c : ℕ) (May : Rec → Type 0) → IsClosed (MovesOn p c May)
moves_closed p c May = record {
  none = λ h. untaken p c May h.view.lines (nothing h) refl (λ r i. i);
  both = λ h d e one two. moves_then p c May h.view.lines d e one two;
}

module _ (p : Params) (c : ℕ) (stamp : Stamp) (May : Rec → Type 0) where
  no_record : (x : Change) (h : Store) → ((r : Rec) → x ≡ TakeRecord r → ⊥) → (r : Rec) → In (taken_out r) (did p c stamp x h).outs → ⊥
  no_record x h other r i = other r (tells_of p c stamp x h (taken_out r) i)

  pub take_moves : (r : Rec) (h : Store) → is_taken r h ≡ false → MovesOn p c May h (did p c stamp (TakeRecord r) h)
  take_moves r h e =
      let x : Line = unmarked r in
      let new = with_record_new h.view.params r h.view.lines e in
      record {
        back = λ y k. ⊎_elim
            (λ q. inr (record { taken = inl (ap (λ (z : Line). taken_out z.rec) q); mark = inl (ap (λ (z : Line). z.forwarded) q) }))
            (λ q. inl (record { line = y; there = q; same = refl; mark = inl refl }))
            (from_with_line h.view.params x y h.view.lines (subst (λ (ls : List Line). In y ls) new k));
        forth = λ y k. inl (record { line = y; there = subst (λ (ls : List Line). In y ls) (sym new) (stays_with_line h.view.params x y h.view.lines k); same = refl });
        took = λ s k. ⊎_elim
            (λ (q : taken_out s ≡ taken_out r). let same : s ≡ r = cc in inl (record { line = x; there = subst (λ (ls : List Line). In x ls) (sym new) (in_with_line h.view.params x h.view.lines); same = sym same }))
            (λ q. absurd q)
            k;
      }

  pub moves_of : (g : Stage) (from : Store) (x : Change) (h : Store) → Cause p c stamp g from x h → ((r : Rec) → MayGo p stamp x r → May r) → MovesOn p c May h (did p c stamp x h)
  unfolding without_instance
  moves_of g from (TakeRecord r) h cause may = take_moves r h cause.1
  moves_of g from (DropLines v) h cause may =
      filtered p c May (λ x. not (is_of v x)) h.view.lines _ refl (λ x e. may x.rec (eqb-true _ _ (not-false (is_of v x) e))) (no_record (DropLines v) h (λ r e. absurd (cc)))
  moves_of g from ServeBlocks h cause may =
      filtered p c May (λ x. not (is_served p stamp x)) h.view.lines _ refl (λ x e. may x.rec (served_due p stamp x (not-false (is_served p stamp x) e))) (no_record ServeBlocks h (λ r e. absurd (cc)))
  moves_of g from DropBackups h cause may =
      filtered p c May (λ x. not (is_past p stamp x)) h.view.lines _ refl (λ x e. may x.rec (past_due p stamp x (not-false (is_past p stamp x) e))) (no_record DropBackups h (λ r e. absurd (cc)))
  moves_of g from SplitVisits h cause may =
      mapped p c May (split_line p stamp) h.view.lines _ refl (λ x. (split_same p stamp x).0) (λ x i. inl (split_same p stamp x).1) (no_record SplitVisits h (λ r e. absurd (cc)))
  moves_of g from Forward h cause may =
      mapped p c May (forward_line p stamp) h.view.lines _ refl (forward_same p stamp) (λ x i. forward_mark p c stamp x h.view.lines i) (no_record Forward h (λ r e. absurd (cc)))
  moves_of g from AskBlocks h cause may =
      mapped p c May (ask_line p stamp) h.view.lines _ refl (λ x. (ask_same p stamp x).0) (λ x i. inl (ask_same p stamp x).1) (no_record AskBlocks h (λ r e. absurd (cc)))
  moves_of g from other h cause may = untaken p c May h.view.lines _ refl (no_record other h (λ r (e : other ≡ TakeRecord r). absurd (cc)))

  -- of a stage in which a record may leave for this
  pub moves_in : (g : Stage) (from : Store) → ((x : Change) → Fits g x → (r : Rec) → MayGo p stamp x r → May r) → OfEach (MovesOn p c May) p c stamp g from
  moves_in g from may x h cause = moves_of g from x h cause (may x (fits p c stamp from g x h cause))
