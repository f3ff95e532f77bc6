-- What a tick and a deschedule add, turn by turn: split visits that are gone through, lines that are gone through, and what is
-- forgotten.
use Rattle.std.proofs.Common.{◌≡◌, ℕ, ◌+◌, ◌-◌, ◌<◌, ◌≤◌, Bool, true, false, cond, not, ◌&&◌, ◌||◌, nat_le, find, length, get_or, List, [], ◌∷◌, ◌++◌, Option, Some, None, refl, sym, ap, subst, ◌∙◌, arith, append_assoc, zero, suc}
use Rattle.std.specs.Option.{ForSome}
use Rattle.std.specs.List.{AllByRecursion, filter, flat_map, list_any}
use Rattle.std.proofs.lemmas.List.{append-nil}
use Rattle.std.proofs.lemmas.Bool.{leb-true, leb-false, le-leb, lt-leb}
use Rattle.tiger_base.specs.declared.number.Instance.{Instance}
use Rattle.tiger_base.specs.declared.number.Stamp.{Stamp}
use Rattle.tiger_base.specs.declared.tenancy.PieceState.{PieceState}
use Rattle.tiger_base.specs.declared.tenancy.Rec.{Rec}
use Rattle.tiger_base.specs.declared.message.Msg.{Msg}
use Rattle.slot_plan.specs.declared.params.Params.{Params}
use Rattle.slot_plan.specs.Keys.{Key, IsKey, is_behind}
use Rattle.slot_plan.proofs.Keys.{is_earlier-irreflexive, is_earlier-transitive}
use Rattle.partial_view.specs.declared.line.Line.{Line}
use Rattle.partial_view.specs.Lines.{key_of}
use Rattle.partial_view.specs.Views.{IsWalk, next_behind}
use Rattle.mirror_schedule.specs.Pieces as pieces
use Rattle.mirror_schedule.specs.Pieces.{Pieces, IsPieces, IsPieceOf, comes_before, leaving_of, is_in}
use Rattle.mirror_schedule.specs.Sorted.{IsSorted}
use Rattle.mirror_schedule.proofs.Ranks.{pieces_order}
use Rattle.node_kit.specs.declared.outbox.Out.{Out}
use Rattle.node_kit.specs.Steps.{Deed}
use Rattle.node_kit.specs.Deeds.{Did, nothing, each_in_turn}
use Rattle.cub_rules.specs.Records.{pieces_with, pieces_but}
use Rattle.cub_rules.specs.Ticks.{leaves_by}
use Rattle.disk_death.specs.Spares.{is_dead_from, must_split_own, first_of_visit, splitting_own, splitting_line, sparing, killing_own, killing_stopped, is_forgotten_at, kills_if_of}
use Rattle.cub_tick.proofs.Splits.{put_known, not_false}
use Rattle.disk_death.proofs.Walks.{Rises, next_left, all_left, fewer_left, none_pass, flat_on, flat_done}

for_none : {X : Type 0} (P : X → Type 0) → ForSome None P
for_none P x e = absurd (cc)

for_one : {X : Type 0} (P : X → Type 0) (x : X) → P x → ForSome (Some x) P
for_one {X} P x h y e =
    let same : x ≡ y = cc in
    subst (λ (z : X). P z) same h

-- ---- split visits in their order

piece_self : (p : Params) (x : PieceState) → pieces.is_behind p (Some x) x ≡ false
piece_self p x = (pieces_order p).irreflexive x

piece_on : (p : Params) (k x y : PieceState) → pieces.is_behind p (Some k) x ≡ true → pieces.is_behind p (Some x) y ≡ true → pieces.is_behind p (Some k) y ≡ true
piece_on p k x y e f = (pieces_order p).transitive k x y e f

-- those behind the last one that was met
abbrev pub pieces_left : Params → Option PieceState → List PieceState → List PieceState
pieces_left p last items = filter (pieces.is_behind p last) items

module _ (p : Params) where
  abbrev PiecesRise : List PieceState → Type 0
  PiecesRise items = Rises (λ (x : PieceState). x) (pieces.is_behind p) (λ x. refl) (piece_self p) (piece_on p) items

  pieces_rise : (items : List PieceState) → IsSorted (comes_before p) items → PiecesRise items
  pieces_rise [] s = tt
  pieces_rise (x ∷ xs) s = (s.0, pieces_rise xs s.1)

  pub next_piece : (last : Option PieceState) (items : List PieceState) (x : PieceState) → IsPieces p items → Some x ≡ find (pieces.is_behind p last) items
      → pieces_left p last items ≡ x ∷ pieces_left p (Some x) items
  next_piece last items x s e =
      next_left (λ (x : PieceState). x) (pieces.is_behind p) (λ x. refl) (piece_self p) (piece_on p) last items x (pieces_rise items s.order) (sym e)

  pub fewer_pieces : (last : Option PieceState) (items : List PieceState) (x : PieceState) → IsPieces p items → Some x ≡ find (pieces.is_behind p last) items
      → length (pieces_left p (Some x) items) < length (pieces_left p last items)
  fewer_pieces last items x s e =
      fewer_left (λ (x : PieceState). x) (pieces.is_behind p) (λ x. refl) (piece_self p) (piece_on p) last items x (pieces_rise items s.order) (sym e)

  pub all_pieces : (items : List PieceState) → pieces_left p None items ≡ items
  all_pieces items = all_left (λ (x : PieceState). x) (pieces.is_behind p) (λ x. refl) (piece_self p) (piece_on p) items

-- The split visits of an instance are killed under way: those up to the last one that was met are.
pub record KilledTo (p : Params) (cub : ℕ) (v : Instance) (all : Pieces) (before : List (Out Msg)) (last : Option PieceState) (now : List (Out Msg)) : Type 0 where
  pub valid : ForSome last (IsPieceOf all.params)
  pub outs : now ++ flat_map (kills_if_of p cub v) (pieces_left all.params last all.items) ≡ before ++ flat_map (kills_if_of p cub v) all.items

module _ (p : Params) (cub : ℕ) (v : Instance) (all : Pieces) (before : List (Out Msg)) where
  pub killed_none : KilledTo p cub v all before None before
  killed_none = record {
    valid = for_none (IsPieceOf all.params);
    outs = ap (λ (ys : List PieceState). before ++ flat_map (kills_if_of p cub v) ys) (all_pieces all.params all.items);
  }

  module _ (last : Option PieceState) (now : List (Out Msg)) (h : KilledTo p cub v all before last now) where
    pub killed_on : (x : PieceState) (after : List (Out Msg)) → IsPieces all.params all.items → IsPieceOf all.params x
        → Some x ≡ find (pieces.is_behind all.params last) all.items → after ≡ now ++ kills_if_of p cub v x → KilledTo p cub v all before (Some x) after
    killed_on x after order valid e is = record {
      valid = for_one (IsPieceOf all.params) x valid;
      outs =
          flat_on (kills_if_of p cub v) x (pieces_left all.params (Some x) all.items) all.items before now after (pieces_left all.params last all.items)
          (next_piece all.params last all.items x order e) h.outs is;
    }

    pub killed_all : None ≡ find (pieces.is_behind all.params last) all.items → now ≡ before ++ flat_map (kills_if_of p cub v) all.items
    killed_all e =
        flat_done (kills_if_of p cub v) all.items before now (pieces_left all.params last all.items)
        (none_pass (pieces.is_behind all.params last) all.items (sym e)) h.outs

-- ---- an instance of which no split visit is remembered

not_killed : (p : Params) (cub : ℕ) (v : Instance) (x : PieceState) → pieces.is_of v x ≡ false → kills_if_of p cub v x ≡ []
unfolding kills_if_of
not_killed p cub v x e = rw e refl

no_kills : (p : Params) (cub : ℕ) (v : Instance) (xs : List PieceState) → list_any (pieces.is_of v) xs ≡ false → flat_map (kills_if_of p cub v) xs ≡ []
no_kills p cub v [] e = refl
no_kills p cub v (x ∷ xs) e = by_test (pieces.is_of v x) refl e (λ f. no_kills p cub v xs f)
  where
    by_test : (t : Bool) → pieces.is_of v x ≡ t → (t || list_any (pieces.is_of v) xs) ≡ false
        → (list_any (pieces.is_of v) xs ≡ false → flat_map (kills_if_of p cub v) xs ≡ []) → flat_map (kills_if_of p cub v) (x ∷ xs) ≡ []
    by_test true is f rest = absurd (cc)
    by_test false is f rest = ap (λ (os : List (Out Msg)). os ++ flat_map (kills_if_of p cub v) xs) (not_killed p cub v x is) ∙ rest f

all_stay : (v : Instance) (xs : List PieceState) → list_any (pieces.is_of v) xs ≡ false → filter (λ x. not (pieces.is_of v x)) xs ≡ xs
all_stay v [] e = refl
all_stay v (x ∷ xs) e = by_test (pieces.is_of v x) refl e (λ f. all_stay v xs f)
  where
    by_test : (t : Bool) → pieces.is_of v x ≡ t → (t || list_any (pieces.is_of v) xs) ≡ false
        → (list_any (pieces.is_of v) xs ≡ false → filter (λ y. not (pieces.is_of v y)) xs ≡ xs) → filter (λ y. not (pieces.is_of v y)) (x ∷ xs) ≡ x ∷ xs
    by_test true is f rest = absurd (cc)
    by_test false is f rest =
        ap (λ (t : Bool). cond (not t) (x ∷ filter (λ y. not (pieces.is_of v y)) xs) (filter (λ y. not (pieces.is_of v y)) xs)) is
        ∙ ap (λ (ys : List PieceState). x ∷ ys) (rest f)

-- nothing is killed, and nothing forgotten
pub none_killed : (p : Params) (cub : ℕ) (v : Instance) (ps : Pieces) (outs : List (Out Msg)) → list_any (pieces.is_of v) ps.items ≡ false → Did (killing_own p cub v ps) outs outs ps
unfolding killing_own
none_killed p cub v ps outs none = (
  sym (append-nil outs) ∙ ap (λ (os : List (Out Msg)). outs ++ os) (sym (no_kills p cub v ps.items none)),
  ap (λ (xs : List PieceState). with_items xs) (sym (all_stay v ps.items none)),
)
  where
    with_items : List PieceState → Pieces
    with_items xs = record ps { items = xs }

-- ---- lines in their order

line_none : (p : Params) (x : Line) → is_behind p None (key_of x) ≡ true
unfolding is_behind
line_none p x = refl

line_self : (p : Params) (x : Line) → is_behind p (Some (key_of x)) (key_of x) ≡ false
unfolding is_behind
line_self p x = is_earlier-irreflexive p (key_of x)

line_on : (p : Params) (k : Key) (x y : Line) → is_behind p (Some k) (key_of x) ≡ true → is_behind p (Some (key_of x)) (key_of y) ≡ true → is_behind p (Some k) (key_of y) ≡ true
unfolding is_behind
line_on p k x y e f = is_earlier-transitive p k (key_of x) (key_of y) e f

abbrev is_left : Params → Option Key → Line → Bool
is_left p last x = is_behind p last (key_of x)

-- those behind the last one that was met
abbrev pub lines_left : Params → Option Key → List Line → List Line
lines_left p last lines = filter (λ x. is_behind p last (key_of x)) lines

module _ (p : Params) where
  abbrev LinesRise : List Line → Type 0
  LinesRise lines = Rises key_of (is_left p) (line_none p) (line_self p) (line_on p) lines

  lines_rise : (lines : List Line) → IsWalk p lines → LinesRise lines
  unfolding is_behind
  lines_rise [] w = tt
  lines_rise (x ∷ xs) w = (w.1, lines_rise xs w.2)

  found_line : (last : Option Key) (lines : List Line) (o : Option Line) → o ≡ next_behind p last lines → find (is_left p last) lines ≡ o
  unfolding next_behind
  found_line last lines o e = sym e

  pub next_line : (last : Option Key) (lines : List Line) (x : Line) → IsWalk p lines → Some x ≡ next_behind p last lines
      → lines_left p last lines ≡ x ∷ lines_left p (Some (key_of x)) lines
  next_line last lines x w e =
      next_left key_of (is_left p) (line_none p) (line_self p) (line_on p) last lines x (lines_rise lines w) (found_line last lines (Some x) e)

  pub fewer_lines : (last : Option Key) (lines : List Line) (x : Line) → IsWalk p lines → Some x ≡ next_behind p last lines
      → length (lines_left p (Some (key_of x)) lines) < length (lines_left p last lines)
  fewer_lines last lines x w e =
      fewer_left key_of (is_left p) (line_none p) (line_self p) (line_on p) last lines x (lines_rise lines w) (found_line last lines (Some x) e)

  all_lines : (lines : List Line) → lines_left p None lines ≡ lines
  all_lines lines = all_left key_of (is_left p) (line_none p) (line_self p) (line_on p) lines

  no_lines : (last : Option Key) (lines : List Line) → None ≡ next_behind p last lines → lines_left p last lines ≡ []
  no_lines last lines e = none_pass (is_left p last) lines (found_line last lines None e)

-- a line's turn leaves the plan of what is remembered
own_keeps : (p : Params) (cub : ℕ) (r : Rec) (ps : Pieces) → (splitting_own p cub r ps).state.params ≡ ps.params
unfolding splitting_own
own_keeps p cub r ps = by_test (is_in (first_of_visit r) ps.items) refl
  where
    by_test : (t : Bool) → is_in (first_of_visit r) ps.items ≡ t → (splitting_own p cub r ps).state.params ≡ ps.params
    by_test true is = rw is refl
    by_test false is = rw is refl

line_keeps : (p : Params) (cub : ℕ) (deaths : List (Option ℕ)) (stamp : Stamp) (x : Line) (ps : Pieces) → (splitting_line p cub deaths stamp x ps).state.params ≡ ps.params
unfolding splitting_line
line_keeps p cub deaths stamp x ps = by_test (must_split_own p deaths stamp x) refl
  where
    by_test : (t : Bool) → must_split_own p deaths stamp x ≡ t → (splitting_line p cub deaths stamp x ps).state.params ≡ ps.params
    by_test true is = rw is (own_keeps p cub x.rec ps)
    by_test false is = rw is refl

-- a visit that was split and is remembered
pub own_known : (p : Params) (cub : ℕ) (r : Rec) (ps now : Pieces) (outs : List (Out Msg)) → IsPieces ps.params ps.items → not (is_in (first_of_visit r) ps.items) ≡ false
    → now ≡ pieces_with (first_of_visit r) ps → Did (splitting_own p cub r ps) outs outs now
unfolding splitting_own
own_known p cub r ps now outs order none e =
    let there : is_in (first_of_visit r) ps.items ≡ true = not_false (is_in (first_of_visit r) ps.items) none in
    let same : now ≡ ps = put_known (first_of_visit r) ps now order there e ∙ ap (λ (t : Bool). cond t ps (pieces_with (first_of_visit r) ps)) there in
    rw there (sym (append-nil outs), same)

pub lines_keep : (p : Params) (cub : ℕ) (deaths : List (Option ℕ)) (stamp : Stamp) (xs : List Line) (ps : Pieces)
    → (each_in_turn (splitting_line p cub deaths stamp) xs ps).state.params ≡ ps.params
lines_keep p cub deaths stamp [] ps = refl
lines_keep p cub deaths stamp (x ∷ xs) ps =
    lines_keep p cub deaths stamp xs (splitting_line p cub deaths stamp x ps).state ∙ line_keeps p cub deaths stamp x ps

-- what a tick adds leaves it too, and so does what a deschedule adds
pub sparing_keeps : (p : Params) (cub : ℕ) (deaths : List (Option ℕ)) (stamp : Stamp) (xs : List Line) (ps : Pieces)
    → (sparing p cub deaths stamp xs ps).state.params ≡ ps.params
unfolding sparing
sparing_keeps p cub deaths stamp xs ps = lines_keep p cub deaths stamp xs (pieces_but (is_forgotten_at p stamp.reading) ps)

pub killing_keeps : (p : Params) (cub : ℕ) (o : Option Instance) (ps : Pieces) → (killing_stopped p cub o ps).state.params ≡ ps.params
unfolding killing_own
killing_keeps p cub None ps = refl
killing_keeps p cub (Some v) ps = refl

-- The lines are gone through under way: those up to the last one that was met are.
pub record SplitTo (p : Params) (cub : ℕ) (deaths : List (Option ℕ)) (stamp : Stamp) (lines : List Line) (kept : Pieces) (before : List (Out Msg))
    (last : Option Key) (ps : Pieces) (now : List (Out Msg)) : Type 0 where
  pub valid : ForSome last (IsKey p)
  pub plan : ps.params ≡ p
  pub outs : now ++ (each_in_turn (splitting_line p cub deaths stamp) (lines_left p last lines) ps).outs
      ≡ before ++ (each_in_turn (splitting_line p cub deaths stamp) lines kept).outs
  pub state : (each_in_turn (splitting_line p cub deaths stamp) (lines_left p last lines) ps).state
      ≡ (each_in_turn (splitting_line p cub deaths stamp) lines kept).state

module _ (p : Params) (cub : ℕ) (deaths : List (Option ℕ)) (stamp : Stamp) (lines : List Line) (kept : Pieces) (before : List (Out Msg)) where
  turn : Line → Pieces → Deed Msg Pieces
  turn = splitting_line p cub deaths stamp

  pub split_none : kept.params ≡ p → SplitTo p cub deaths stamp lines kept before None kept before
  split_none plan = record {
    valid = for_none (IsKey p);
    plan = plan;
    outs = ap (λ (xs : List Line). before ++ (each_in_turn (splitting_line p cub deaths stamp) xs kept).outs) (all_lines p lines);
    state = ap (λ (xs : List Line). (each_in_turn (splitting_line p cub deaths stamp) xs kept).state) (all_lines p lines);
  }

  module _ (last : Option Key) (ps : Pieces) (now : List (Out Msg)) (h : SplitTo p cub deaths stamp lines kept before last ps now) where
    pub split_on : (x : Line) (after : List (Out Msg)) (qs : Pieces) → IsWalk p lines → IsKey p (key_of x) → Some x ≡ next_behind p last lines
        → Did (splitting_line p cub deaths stamp x ps) now after qs → SplitTo p cub deaths stamp lines kept before (Some (key_of x)) qs after
    split_on x after qs w valid e did =
        let rest : List Line = lines_left p (Some (key_of x)) lines in
        let parts = next_line p last lines x w e in
        let deed : Deed Msg Pieces = splitting_line p cub deaths stamp x ps in
        record {
          valid = for_one (IsKey p) (key_of x) valid;
          plan = ap (λ (q : Pieces). q.params) did.1 ∙ (line_keeps p cub deaths stamp x ps ∙ h.plan);
          outs =
              ap (λ (q : Pieces). after ++ (each_in_turn (splitting_line p cub deaths stamp) rest q).outs) did.1
              ∙ (ap (λ (os : List (Out Msg)). os ++ (each_in_turn (splitting_line p cub deaths stamp) rest deed.state).outs) did.0
              ∙ (append_assoc now deed.outs (each_in_turn (splitting_line p cub deaths stamp) rest deed.state).outs
              ∙ (ap (λ (xs : List Line). now ++ (each_in_turn (splitting_line p cub deaths stamp) xs ps).outs) (sym parts) ∙ h.outs)));
          state =
              ap (λ (q : Pieces). (each_in_turn (splitting_line p cub deaths stamp) rest q).state) did.1
              ∙ (ap (λ (xs : List Line). (each_in_turn (splitting_line p cub deaths stamp) xs ps).state) (sym parts) ∙ h.state);
        }

    pub split_done : None ≡ next_behind p last lines → Did (each_in_turn (splitting_line p cub deaths stamp) lines kept) before now ps
    split_done e =
        let none = no_lines p last lines e in (
          sym (append-nil now) ∙ (ap (λ (xs : List Line). now ++ (each_in_turn (splitting_line p cub deaths stamp) xs ps).outs) (sym none) ∙ h.outs),
          ap (λ (xs : List Line). (each_in_turn (splitting_line p cub deaths stamp) xs ps).state) (sym none) ∙ h.state,
        )

-- ---- while no disk is dead nothing is split

none_dead : (deaths : List (Option ℕ)) (i beat : ℕ) → list_any (λ d. is_dead_from d beat) deaths ≡ false → is_dead_from (get_or deaths i None) beat ≡ false
none_dead [] i beat e = refl
none_dead (d ∷ ds) i beat e = by_test (is_dead_from d beat) refl e i (λ j f. none_dead ds j beat f)
  where
    by_test : (t : Bool) → is_dead_from d beat ≡ t → (t || list_any (λ d. is_dead_from d beat) ds) ≡ false → (i : ℕ)
        → ((j : ℕ) → list_any (λ d. is_dead_from d beat) ds ≡ false → is_dead_from (get_or ds j None) beat ≡ false)
        → is_dead_from (get_or (d ∷ ds) i None) beat ≡ false
    by_test true is e i rest = absurd (cc)
    by_test false is e zero rest = is
    by_test false is e (suc i) rest = rest i e

must_not : (p : Params) (deaths : List (Option ℕ)) (stamp : Stamp) (x : Line) → list_any (λ d. is_dead_from d stamp.beat) deaths ≡ false
    → must_split_own p deaths stamp x ≡ false
unfolding must_split_own
must_not p deaths stamp x e = rw (none_dead deaths _ stamp.beat e) refl

quiet_line : (p : Params) (cub : ℕ) (deaths : List (Option ℕ)) (stamp : Stamp) (x : Line) (ps : Pieces) → list_any (λ d. is_dead_from d stamp.beat) deaths ≡ false
    → splitting_line p cub deaths stamp x ps ≡ nothing ps
unfolding splitting_line
quiet_line p cub deaths stamp x ps e = rw (must_not p deaths stamp x e) refl

quiet_lines : (p : Params) (cub : ℕ) (deaths : List (Option ℕ)) (stamp : Stamp) (xs : List Line) (ps : Pieces) → list_any (λ d. is_dead_from d stamp.beat) deaths ≡ false
    → each_in_turn (splitting_line p cub deaths stamp) xs ps ≡ nothing ps
quiet_lines p cub deaths stamp [] ps e = refl
quiet_lines p cub deaths stamp (x ∷ xs) ps e =
    let one = quiet_line p cub deaths stamp x ps e in
    ap (λ (d : Deed Msg Pieces). then_each d) one ∙ quiet_lines p cub deaths stamp xs ps e
  where
    then_each : Deed Msg Pieces → Deed Msg Pieces
    then_each d = record {
      outs = d.outs ++ (each_in_turn (splitting_line p cub deaths stamp) xs d.state).outs;
      state = (each_in_turn (splitting_line p cub deaths stamp) xs d.state).state;
    }

pub none_split : (p : Params) (cub : ℕ) (deaths : List (Option ℕ)) (stamp : Stamp) (lines : List Line) (ps : Pieces) (outs : List (Out Msg)) (dead : Bool)
    → dead ≡ list_any (λ d. is_dead_from d stamp.beat) deaths → dead ≡ false
    → Did (each_in_turn (splitting_line p cub deaths stamp) lines ps) outs outs ps
none_split p cub deaths stamp lines ps outs dead is none =
    let all = quiet_lines p cub deaths stamp lines ps (sym is ∙ none) in (
      sym (append-nil outs) ∙ ap (λ (d : Deed Msg Pieces). outs ++ d.outs) (sym all),
      ap (λ (d : Deed Msg Pieces). d.state) (sym all),
    )

-- ---- what is forgotten

but_same : {X : Type 0} (s t : X → Bool) → ((x : X) → s x ≡ t x) → (xs : List X) → filter (λ x. not (s x)) xs ≡ filter (λ x. not (t x)) xs
but_same s t same [] = refl
but_same s t same (x ∷ xs) =
    ap (λ (b : Bool). cond (not b) (x ∷ filter (λ y. not (s y)) xs) (filter (λ y. not (s y)) xs)) (same x)
    ∙ ap (λ ys. cond (not (t x)) (x ∷ ys) ys) (but_same s t same xs)

late_same : (a b c : ℕ) → c ≤ b → nat_le a (b - c) ≡ nat_le (a + c) b
late_same a b c le = by_test (nat_le a (b - c)) refl
  where
    by_test : (t : Bool) → nat_le a (b - c) ≡ t → nat_le a (b - c) ≡ nat_le (a + c) b
    by_test true is =
        let l : a ≤ b - c = leb-true _ _ is in
        is ∙ sym (le-leb (a + c) b (omega (arith, l, le)))
    by_test false is =
        let l : b - c < a = leb-false _ _ is in
        is ∙ sym (lt-leb (a + c) b (omega (arith, l, le)))

-- those whose play time is over at a reading are those that leave a play time before it
pub forgotten_are : (p : Params) (reading : ℕ) (ps qs : Pieces) → p.play ≤ reading → qs ≡ pieces_but (leaves_by p (reading - p.play)) ps
    → qs ≡ pieces_but (is_forgotten_at p reading) ps
unfolding leaves_by is_forgotten_at
forgotten_are p reading ps qs le is =
    is ∙ ap (λ (xs : List PieceState). with_items xs)
    (but_same (λ x. nat_le (leaving_of p x) (reading - p.play)) (λ x. nat_le (leaving_of p x + p.play) reading) (λ x. late_same (leaving_of p x) reading p.play le) ps.items)
  where
    with_items : List PieceState → Pieces
    with_items xs = record ps { items = xs }

-- before a play time has passed none is
pub none_forgotten : (p : Params) (reading : ℕ) (ps : Pieces) → reading < p.play → ps ≡ pieces_but (is_forgotten_at p reading) ps
unfolding is_forgotten_at
none_forgotten p reading ps early = ap (λ (xs : List PieceState). with_items xs) (sym (all_kept ps.items))
  where
    with_items : List PieceState → Pieces
    with_items xs = record ps { items = xs }

    kept : (x : PieceState) → is_forgotten_at p reading x ≡ false
    kept x = lt-leb (leaving_of p x + p.play) reading (omega (arith, early))

    all_kept : (xs : List PieceState) → filter (λ x. not (is_forgotten_at p reading x)) xs ≡ xs
    all_kept [] = refl
    all_kept (x ∷ xs) = rw (kept x) (ap (λ (ys : List PieceState). x ∷ ys) (all_kept xs))
