-- No two lines of a view are of one slot and visit, and no piece record stands twice.
use Rattle.std.proofs.Common.{◌≡◌, ℕ, zero, suc, ◌+◌, List, [], ◌∷◌, map, filter, Bool, true, false, not, cond, is_some, refl, sym, ap, subst, ◌∙◌, ⊎_elim, inl, inr}
use Rattle.std.specs.Prelude.{◌⊎◌, find}
use Rattle.std.proofs.lemmas.Bool.{cases_Bool, true≢false}
use Rattle.tiger_base.specs.declared.number.Stamp.{Stamp}
use Rattle.tiger_base.specs.declared.tenancy.PieceState.{PieceState}
use Rattle.tiger_base.specs.declared.tenancy.Rec.{Rec}
use Rattle.tiger_base.specs.declared.message.Msg.{Msg}
use Rattle.slot_plan.specs.declared.params.Params.{Params}
use Rattle.slot_plan.specs.Keys.{Key}
use Rattle.node_kit.specs.Steps.{Deed, Input}
use Rattle.node_kit.specs.Steps.Input.{Take, Tick}
use Rattle.partial_view.specs.declared.line.Line.{Line}
use Rattle.partial_view.specs.Lines.{is_at, is_of, key_of, unmarked, visit_of}
use Rattle.partial_view.specs.Views.{line_at, with_line, with_record, without_instance}
use Rattle.partial_view.proofs.Order.{same_itself}
use Rattle.mirror_schedule.specs.Pieces as pieces
use Rattle.mirror_schedule.specs.Pieces.{comes_before, is_in, with_piece}
use Rattle.mirror_schedule.specs.Sorted.{with_one}
use Rattle.cub_rules.specs.declared.store.Store.{Store}
use Rattle.cub_rules.specs.Records.{pieces_with}
use Rattle.cub_rules.specs.Ticks.{releasing, believing, inserting, splitting, split_line, forward_line, ask_line, is_served, is_past, leaves_by}
use Rattle.cub_changes.specs.Changes.{Change, did}
use Rattle.cub_changes.specs.Changes.Change.{DropLines, DropPieces, TakeRecord, AddPiece, DropKilled, SplitVisits, Forward, AskBlocks, AskPieces, ServeBlocks, DropBackups, ServePieces}
use Rattle.cub_changes.specs.Causes.{Stage, Cause}
use Rattle.cub_changes.specs.Causes.Stage.{OnMessage, OnRelease, OnDeadman, OnInsertion, OnService}
use Rattle.cub_changes.proofs.Closed.{IsClosed, OfEach}
use Rattle.cub_changes.proofs.Messages.{taking_by, with_piece_of}
use Rattle.cub_changes.proofs.Puts.{inserting_by}
use Rattle.cub_changes.proofs.Ticks.{releasing_by, believing_by, splitting_by, forwarding_by, reading_by, ticking_by}
use Rattle.proof_lives.specs.Lives.{deed_of, store_at}
use Rattle.lists.specs.Elements.{In}
use Rattle.lists.proofs.Elements.{chosen, from_map, from_filter, in_filter}
use Rattle.proof_lives.proofs.Moves.{from_with_line, with_record_new}
use Rattle.proof_lives.proofs.Steps.{forward_same, split_same, ask_same}
use Rattle.proof_facts.specs.Pieces.{before_reading, before_serving}
use Rattle.proof_splits.proofs.PieceSets.{is_in_there, one_more_stays, with_there}

-- ---- lists

-- each element is apart from those behind it
abbrev pub AreApart : {X : Type 0} → (X → X → Type 0) → List X → Type 0
AreApart R [] = Unit {0}
AreApart {X} R (x ∷ xs) = ((y : X) → In y xs → R x y) × AreApart R xs

pub apart_map : {X : Type 0} (R : X → X → Type 0) (f : X → X) → ((x y : X) → R x y → R (f x) (f y)) → (xs : List X)
    → AreApart R xs → AreApart R (map f xs)
apart_map R f keeps [] a = tt
apart_map {X} R f keeps (x ∷ xs) a = (
  (λ y i. let m = from_map f y xs i in subst (λ (z : X). R (f x) z) (sym m.2) (keeps x m.0 (a.0 m.0 m.1))),
  apart_map R f keeps xs a.1,
)

pub apart_filter : {X : Type 0} (R : X → X → Type 0) (keep : X → Bool) (xs : List X) → AreApart R xs
    → AreApart R (filter keep xs)
apart_filter R keep [] a = tt
apart_filter {X} R keep (x ∷ xs) a = chosen (λ (ys : List X). AreApart R ys) (keep x) (x ∷ filter keep xs)
    (filter keep xs)
    (λ _. ((λ y i. a.0 y (from_filter keep y xs i).0), apart_filter R keep xs a.1))
    (λ _. apart_filter R keep xs a.1)

-- of lines with other keys, one more goes to its place
apart_line : (p : Params) (x : Line) (ys : List Line) → ((y : Line) → In y ys → key_of y ≡ key_of x → ⊥)
    → AreApart (λ (a b : Line). key_of a ≡ key_of b → ⊥) ys
    → AreApart (λ (a b : Line). key_of a ≡ key_of b → ⊥) (with_line p x ys)
unfolding with_line
apart_line p x [] new a = ((λ y i. absurd i), tt)
apart_line p x (y ∷ ys) new a = chosen (λ (ls : List Line). AreApart (λ (a b : Line). key_of a ≡ key_of b → ⊥) ls) _
    (x ∷ y ∷ ys) (y ∷ with_line p x ys)
    (λ _. ((λ z i e. new z i (sym e)), a))
    (λ _. (
      (λ z i e. ⊎_elim (λ q. new y (inl refl) (e ∙ ap key_of q)) (λ k. a.0 z k e) (from_with_line p x z ys i)),
      apart_line p x ys (λ z i. new z (inr i)) a.1,
    ))

-- what is one more in a sorted list was there, or is the one
pub from_with_one : {X : Type 0} (before : X → X → Bool) (x y : X) (ys : List X) → In y (with_one before x ys)
    → (y ≡ x) ⊎ In y ys
from_with_one before x y [] i = ⊎_elim (λ e. inl e) (λ k. absurd k) i
from_with_one {X} before x y (z ∷ zs) i = chosen (λ (l : List X). In y l → (y ≡ x) ⊎ In y (z ∷ zs)) (before x z)
    (x ∷ z ∷ zs) (cond (before z x) (z ∷ with_one before x zs) (z ∷ zs))
    (λ _ k. k)
    (λ _. chosen (λ (l : List X). In y l → (y ≡ x) ⊎ In y (z ∷ zs)) (before z x) (z ∷ with_one before x zs) (z ∷ zs)
    (λ _ k. ⊎_elim (λ e. inr (inl e)) (λ j. ⊎_elim (λ e. inl e) (λ l. inr (inr l)) (from_with_one before x y zs j)) k)
    (λ _ k. inr k))
    i

apart_one : {X : Type 0} (before : X → X → Bool) (x : X) (ys : List X) → (In x ys → ⊥)
    → AreApart (λ (a b : X). a ≡ b → ⊥) ys → AreApart (λ (a b : X). a ≡ b → ⊥) (with_one before x ys)
apart_one before x [] new a = ((λ y i. absurd i), tt)
apart_one {X} before x (y ∷ ys) new a = chosen (λ (l : List X). AreApart (λ (a b : X). a ≡ b → ⊥) l) (before x y)
    (x ∷ y ∷ ys) (cond (before y x) (y ∷ with_one before x ys) (y ∷ ys))
    (λ _. ((λ z i e. new (subst (λ (v : X). In v (y ∷ ys)) (sym e) i)), a))
    (λ _. chosen (λ (l : List X). AreApart (λ (a b : X). a ≡ b → ⊥) l) (before y x) (y ∷ with_one before x ys) (y ∷ ys)
    (λ _. (
      (λ z i e. ⊎_elim (λ q. new (inl (sym (e ∙ q)))) (λ k. a.0 z k e) (from_with_one before x z ys i)),
      apart_one before x ys (λ i. new (inr i)) a.1,
    ))
    (λ _. a))

-- a key that no line has
none_at : (k : Key) (lines : List Line) → is_some (find (is_at k) lines) ≡ false → (y : Line) → In y lines
    → key_of y ≡ k → ⊥
none_at k [] none y i e = i
none_at k (z ∷ zs) none y i e = ⊎_elim
    (λ (t : is_at k z ≡ true). let some : is_some (find (is_at k) (z ∷ zs)) ≡ true = rw t refl in true≢false
    (sym some ∙ none))
    (λ (f : is_at k z ≡ false).
    let rest : is_some (find (is_at k) zs) ≡ false = (let q : is_some (find (is_at k) (z ∷ zs)) ≡ is_some
    (find (is_at k) zs) = rw f refl in sym q ∙ none) in
    ⊎_elim
    (λ (q : y ≡ z).
    let same : is_at k z ≡ true = subst (λ (j : Key). is_at j z ≡ true) (ap key_of (sym q) ∙ e)
    (same_itself (key_of z)) in
    true≢false (sym same ∙ f))
    (λ j. none_at k zs rest y j e)
    i)
    (cases_Bool (is_at k z))

-- ---- what a cub keeps

-- two lines are not of one slot and visit
abbrev pub OtherKey : Line → Line → Type 0
OtherKey a b = key_of a ≡ key_of b → ⊥

abbrev pub Differ : PieceState → PieceState → Type 0
Differ a b = a ≡ b → ⊥

-- no line, no piece record and no record that is still to be asked for stands twice
pub record StandOnce (lines : List Line) (pieces unasked : List PieceState) : Type 0 where
  pub lines_apart : AreApart OtherKey lines
  pub pieces_apart : AreApart Differ pieces
  pub unasked_apart : AreApart Differ unasked
  pub within : (y : PieceState) → In y unasked → In y pieces

abbrev pub IsOnce : Store → Type 0
IsOnce h = StandOnce h.view.lines h.pieces.items h.unasked.items

-- what a deed leaves is so if it was so
pub record StaysOnce (h : Store) (d : Deed Msg Store) : Type 0 where
  pub stay : IsOnce h → IsOnce d.state

pub stays_closed : IsClosed StaysOnce
stays_closed = record {
  none = λ h. record { stay = λ s. s };
  both = λ h d e one two. record { stay = λ s. two.stay (one.stay s) };
}

-- marks leave the lines' keys
mapped : (f : Line → Line) → ((x : Line) → (f x).rec ≡ x.rec)
    → (lines : List Line) (pieces unasked : List PieceState) → StandOnce lines pieces unasked
    → StandOnce (map f lines) pieces unasked
mapped f same lines pieces unasked s = record {
  lines_apart = apart_map OtherKey f (λ x y apart e. apart (ap visit_of (sym (same x)) ∙ e ∙ ap visit_of (same y)))
      lines s.lines_apart;
  pieces_apart = s.pieces_apart;
  unasked_apart = s.unasked_apart;
  within = s.within;
}

kept_lines : (keep : Line → Bool) (lines : List Line) (pieces unasked : List PieceState)
    → StandOnce lines pieces unasked → StandOnce (filter keep lines) pieces unasked
kept_lines keep lines pieces unasked s =
    record {
      lines_apart = apart_filter OtherKey keep lines s.lines_apart;
      pieces_apart = s.pieces_apart;
      unasked_apart = s.unasked_apart;
      within = s.within;
    }

kept_pieces : (keep : PieceState → Bool) (lines : List Line) (pieces unasked : List PieceState)
    → StandOnce lines pieces unasked → StandOnce lines (filter keep pieces) (filter keep unasked)
kept_pieces keep lines pieces unasked s = record {
  lines_apart = s.lines_apart;
  pieces_apart = apart_filter Differ keep pieces s.pieces_apart;
  unasked_apart = apart_filter Differ keep unasked s.unasked_apart;
  within = λ y i. let f = from_filter keep y unasked i in in_filter keep y pieces (s.within y f.0) f.1;
}

kept_unasked : (keep : PieceState → Bool) (lines : List Line) (pieces unasked : List PieceState)
    → StandOnce lines pieces unasked → StandOnce lines pieces (filter keep unasked)
kept_unasked keep lines pieces unasked s = record {
  lines_apart = s.lines_apart;
  pieces_apart = s.pieces_apart;
  unasked_apart = apart_filter Differ keep unasked s.unasked_apart;
  within = λ y i. s.within y (from_filter keep y unasked i).0;
}

-- a record of a slot and visit that no line has
one_line : (p : Params) (r : Rec) (lines : List Line) (pieces unasked : List PieceState)
    → is_some (line_at (visit_of r) lines) ≡ false → StandOnce lines pieces unasked
    → StandOnce (with_record p r lines) pieces unasked
unfolding line_at
one_line p r lines pieces unasked none s = record {
  lines_apart = subst (λ (l : List Line). AreApart OtherKey l) (sym (with_record_new p r lines none))
      (apart_line p (unmarked r) lines (none_at (visit_of r) lines none) s.lines_apart);
  pieces_apart = s.pieces_apart;
  unasked_apart = s.unasked_apart;
  within = s.within;
}

one_piece : (x : PieceState) (h : Store) → is_in x h.pieces.items ≡ false → IsOnce h → StandOnce h.view.lines
    (pieces_with x h.pieces).items (pieces_with x h.unasked).items
unfolding with_piece
one_piece x h none s =
    let new : In x h.pieces.items → ⊥ = λ i. true≢false (sym (is_in_there x h.pieces.items i) ∙ none) in
    let there : In x (pieces_with x h.pieces).items =
    with_piece_of (λ (k : Store). In x k.pieces.items → In x (pieces_with x h.pieces).items) x h
    (λ e. absurd (true≢false (sym e ∙ none))) (λ _ i. i) (with_there x h) in
    record {
      lines_apart = s.lines_apart;
      pieces_apart = apart_one (comes_before h.pieces.params) x h.pieces.items new s.pieces_apart;
      unasked_apart = apart_one (comes_before h.unasked.params) x h.unasked.items (λ i. new (s.within x i))
          s.unasked_apart;
      within = λ y i. ⊎_elim
          (λ (e : y ≡ x). subst (λ (z : PieceState). In z (pieces_with x h.pieces).items) (sym e) there)
          (λ j. one_more_stays (comes_before h.pieces.params) x y h.pieces.items (s.within y j))
          (from_with_one (comes_before h.unasked.params) x y h.unasked.items i);
    }

pub change_once : (p : Params) (c : ℕ) (stamp : Stamp) (g : Stage) (from : Store) (x : Change) (h : Store)
    → Cause p c stamp g from x h → StaysOnce h (did p c stamp x h)
unfolding without_instance
change_once p c stamp g from (TakeRecord r) h cause = record {
  stay = λ s. one_line h.view.params r h.view.lines
      h.pieces.items h.unasked.items cause.1 s;
}
change_once p c stamp g from (AddPiece x) h cause = record { stay = λ s. one_piece x h cause.1 s }
change_once p c stamp g from (DropLines v) h cause = record {
  stay = λ s. kept_lines (λ x. not (is_of v x))
      h.view.lines h.pieces.items h.unasked.items s;
}
change_once p c stamp g from (DropPieces v) h cause = record {
  stay = λ s. kept_pieces (λ x. not (pieces.is_of v x))
      h.view.lines h.pieces.items h.unasked.items s;
}
change_once p c stamp g from (DropKilled v n) h cause = record {
  stay = λ s. kept_pieces
      (λ x. not (pieces.is_of_visit v n x)) h.view.lines h.pieces.items h.unasked.items s;
}
change_once p c stamp g from SplitVisits h cause = record {
  stay = λ s. mapped (split_line p stamp)
      (λ x. (split_same p stamp x).0) h.view.lines h.pieces.items h.unasked.items s;
}
change_once p c stamp g from Forward h cause = record {
  stay = λ s. mapped (forward_line p stamp)
      (forward_same p stamp) h.view.lines h.pieces.items h.unasked.items s;
}
change_once p c stamp g from AskBlocks h cause = record {
  stay = λ s. mapped (ask_line p stamp)
      (λ x. (ask_same p stamp x).0) h.view.lines h.pieces.items h.unasked.items s;
}
change_once p c stamp g from AskPieces h cause =
    record {
      stay = λ s. kept_unasked (λ x. not (leaves_by p (stamp.reading + p.read_lead) x)) h.view.lines
          h.pieces.items h.unasked.items s;
    }
change_once p c stamp g from ServeBlocks h cause = record {
  stay = λ s. kept_lines (λ x. not (is_served p stamp x))
      h.view.lines h.pieces.items h.unasked.items s;
}
change_once p c stamp g from DropBackups h cause = record {
  stay = λ s. kept_lines (λ x. not (is_past p stamp x))
      h.view.lines h.pieces.items h.unasked.items s;
}
change_once p c stamp g from ServePieces h cause = record {
  stay = λ s. kept_pieces
      (λ x. not (leaves_by p stamp.reading x)) h.view.lines h.pieces.items h.unasked.items s;
}
change_once p c stamp g from other h cause = record { stay = λ s. s }

-- ---- along a life

deed_once : (p : Params) (c : ℕ) (i : Input Msg) (h : Store) → StaysOnce h (deed_of p c i h)
deed_once p c (Take stamp link m) h = taking_by StaysOnce stays_closed p c stamp link m h
    (change_once p c stamp (OnMessage link m) h)
deed_once p c (Tick stamp) h = ticking_by StaysOnce stays_closed p c stamp h
    (λ g from of_tick. change_once p c stamp g from)

-- whatever befalls a cub, what it keeps stands once
pub always_once : (p : Params) (c : ℕ) (inputs : ℕ → Input Msg) (i : ℕ) → IsOnce (store_at p c inputs i)
always_once p c inputs zero = record { lines_apart = tt; pieces_apart = tt; unasked_apart = tt; within = λ y i. i }
always_once p c inputs (suc i) = (deed_once p c (inputs i) (store_at p c inputs i)).stay (always_once p c inputs i)

module _ (p : Params) (c : ℕ) (stamp : Stamp) where
  -- in a tick, before the reading
  pub once_reading : (h : Store) → IsOnce h → IsOnce (before_reading p c stamp h)
  once_reading h s =
      let each : (g : Stage) (from : Store) → OfEach StaysOnce p c stamp g from = λ g from. change_once p c stamp g
      from in
      let h1 : Store = (releasing p stamp h).state in
      let h2 : Store = (believing p c stamp h1).state in
      let h3 : Store = (inserting p c stamp h2).state in
      let h4 : Store = (splitting p c stamp h3).state in
      let s1 : IsOnce h1 = (releasing_by StaysOnce stays_closed p c stamp h (each OnRelease h)).stay s in
      let s2 : IsOnce h2 = (believing_by StaysOnce stays_closed p c stamp h1 (each OnDeadman h1)).stay s1 in
      let s3 : IsOnce h3 = (inserting_by StaysOnce stays_closed p c stamp h2 (each OnInsertion h2)).stay s2 in
      let s4 : IsOnce h4 = (splitting_by StaysOnce stays_closed p c stamp h3 (each OnService h3)).stay s3 in
      (forwarding_by StaysOnce stays_closed p c stamp h4 (each OnService h4)).stay s4

  -- and before the serving
  pub once_serving : (h : Store) → IsOnce h → IsOnce (before_serving p c stamp h)
  once_serving h s =
      let h5 : Store = before_reading p c stamp h in
      (reading_by StaysOnce stays_closed p c stamp h5 (change_once p c stamp OnService h5)).stay (once_reading h s)
