-- What an input makes of a cub's piece records: a message, a tick, and a tick up to where the cub asks and serves.
use Rattle.std.proofs.Common.{◌≡◌, ℕ, zero, suc, ◌+◌, List, map, take, Bool, true, false, not, refl, sym, ap, subst, ◌∙◌, arith, ⊎_elim, inl}
use Rattle.std.specs.Prelude.{◌≤◌, ◌||◌, ◌&&◌, ◌==◌}
use Rattle.std.specs.List.{flat_map, range_with_len}
use Rattle.std.proofs.lemmas.Bool.{eqb-true, and_parts}
use Rattle.tiger_base.specs.declared.number.Instance.{Instance}
use Rattle.tiger_base.specs.declared.number.LinkNo.{LinkNo}
use Rattle.tiger_base.specs.declared.number.Stamp.{Stamp}
use Rattle.tiger_base.specs.declared.tenancy.Kind.{Kind}
use Rattle.tiger_base.specs.declared.tenancy.Kind.TheVariants.{Own, Backup}
use Rattle.tiger_base.specs.declared.tenancy.PieceState.{PieceState}
use Rattle.tiger_base.specs.declared.tenancy.Rec.{Rec}
use Rattle.tiger_base.specs.declared.message.Msg.{Msg}
use Rattle.tiger_base.specs.declared.message.Msg.TheVariants as msg
use Rattle.tiger_base.specs.Kinds.{is_own}
use Rattle.tiger_base.specs.Records.{backup_of}
use Rattle.slot_plan.specs.declared.params.Params.{Params}
use Rattle.slot_plan.specs.Times.{cub_of}
use Rattle.partial_view.specs.declared.line.Line.{Line}
use Rattle.deschedule.specs.Holds.{is_held}
use Rattle.mirror_schedule.specs.Pieces as pieces
use Rattle.mirror_schedule.specs.Pieces.{pieces_of}
use Rattle.node_kit.specs.Steps.{Deed, Input}
use Rattle.node_kit.specs.Steps.Input.{Take, Tick}
use Rattle.cub_rules.specs.declared.store.Store.{Store}
use Rattle.cub_rules.specs.Messages.{taking}
use Rattle.cub_rules.specs.Ticks.{releasing, believing, inserting, must_split, first_pieces, with_split_lines, splitting, forwarding, leaves_by, reading, serving, ticking}
use Rattle.cub_changes.specs.Changes.{Change, did}
use Rattle.cub_changes.specs.Changes.Change.{DropPieces, TakeRecord, AddPiece, DropKilled, Believe, PutStart, SendFirst, SendPlaced, AskPieces, ServePieces}
use Rattle.cub_changes.specs.Causes.{Cause}
use Rattle.cub_changes.specs.Causes.Stage.{OnMessage, OnDeadman, OnInsertion}
use Rattle.cub_changes.proofs.Chains.{release_is, read_is, serve_is, split_is, forward_is, tick_served}
use Rattle.cub_changes.proofs.Closed.{IsClosed}
use Rattle.cub_changes.proofs.Fits.{IsOfInsertion, IsOfDeadman, fits}
use Rattle.cub_changes.proofs.Messages.{taking_by}
use Rattle.cub_changes.proofs.Puts.{inserting_by}
use Rattle.cub_changes.proofs.Ticks.{believing_by, splitting_of, before_forwarding}
use Rattle.proof_lives.specs.Lives.{deed_of}
use Rattle.lists.specs.Elements.{In}
use Rattle.lists.proofs.Elements.{from_flat_map, in_flat_map, from_filter}
use Rattle.proof_facts.specs.Pieces.{before_splitting, before_reading, before_serving, piece}
use Rattle.proof_splits.specs.PieceRecords.{IsMirrored, IsSplitOff, Enters, CutsOff, MayGo, IsAsked}
use Rattle.cub_changes.proofs.Beliefs.{not_true}
use Rattle.proof_splits.proofs.PieceSets.{Moves, moves_same, moves_then, moves_more, moves_fewer, moves_asked, moves_with, with_each_there}
use Rattle.cub_rules.specs.Comebacks.{is_handed_back}
use Rattle.proof_splits.proofs.Handing.{from_split_off, in_split_off}

-- ---- single changes

-- A change that leaves both sets alone.
abbrev IsBlind : Change → Type 0
IsBlind (DropPieces v) = ⊥
IsBlind (AddPiece x) = ⊥
IsBlind (DropKilled v n) = ⊥
IsBlind AskPieces = ⊥
IsBlind ServePieces = ⊥
IsBlind other = Unit {0}

module _ (Why Go Asked : PieceState → Type 0) (p : Params) (c : ℕ) (stamp : Stamp) where
  abbrev MovesBy : Store → Deed Msg Store → Type 0
  MovesBy h d = Moves Why Go Asked h d.state

  moves_closed : IsClosed MovesBy
  moves_closed = record {
    none = λ h. moves_same Why Go Asked h h refl refl;
    both = λ h d e one two. moves_then Why Go Asked h d.state e.state one two;
  }

  blind : (x : Change) (h : Store) → IsBlind x → MovesBy h (did p c stamp x h)
  blind (DropPieces v) h b = absurd b
  blind (AddPiece x) h b = absurd b
  blind (DropKilled v n) h b = absurd b
  blind AskPieces h b = absurd b
  blind ServePieces h b = absurd b
  blind other h b = moves_same Why Go Asked h (did p c stamp other h).state refl refl

  -- at a message
  at_message : (link : LinkNo) (m : Msg) (from : Store) → ((x : PieceState) → IsMirrored p c m from x → Why x)
      → ((x : PieceState) → CutsOff (Take stamp link m) x → Go x) → (x : Change) (h : Store)
      → Cause p c stamp (OnMessage link m) from x h
      → MovesBy h (did p c stamp x h)
  at_message link (msg.MirrorState y) from why go (AddPiece x) h cause =
      let held : Bool = is_held from.held x.tenancy.instance in
      let mine : Bool = cub_of p (x.visit + x.piece) == c in
      moves_more Why Go Asked x h
      (why x (record {
        is = ap (λ (z : PieceState). msg.MirrorState z) (sym cause.0.0);
        free = neither held
            (not mine) cause.0.1;
        here = eqb-true _ _ (is_not mine (other held (not mine) cause.0.1));
        lets = cause.0.2;
      }))
      cause.1
    where
      neither : (a b : Bool) → (a || b) ≡ false → a ≡ false
      neither true b e = e
      neither false b e = refl

      other : (a b : Bool) → (a || b) ≡ false → b ≡ false
      other true b e = absurd (cc)
      other false b e = e

      is_not : (b : Bool) → not b ≡ false → b ≡ true
      is_not true e = refl
      is_not false e = sym e
  at_message link other from why go (AddPiece x) h cause = absurd cause.0
  at_message link (msg.Deschedule w tag) from why go (DropPieces v) h cause =
      moves_fewer Why Go Asked (pieces.is_of v) h (did p c stamp (DropPieces v) h).state refl refl
      (λ x t. go x (sym (ap (λ (i : Instance). i.0) cause) ∙ sym (eqb-true _ _ t)))
  at_message link other from why go (DropPieces v) h cause = absurd cause
  at_message link (msg.Kill w slot n) from why go (DropKilled v visit) h cause =
      moves_fewer Why Go Asked (pieces.is_of_visit v visit) h (did p c stamp (DropKilled v visit) h).state refl refl
      (λ x t.
      let e = and_parts _ _ t in
      go x (sym (ap (λ (i : Instance). i.0) cause.0) ∙ sym (eqb-true _ _ e.0), sym cause.1 ∙ sym (eqb-true _ _ e.1)))
  at_message link other from why go (DropKilled v visit) h cause = absurd cause
  at_message link m from why go AskPieces h cause = absurd cause
  at_message link m from why go ServePieces h cause = absurd cause
  at_message link m from why go other h cause = blind other h tt

  -- what a message makes of the sets
  taking_moves : (link : LinkNo) (m : Msg) (h : Store) → ((x : PieceState) → IsMirrored p c m h x → Why x)
      → ((x : PieceState) → CutsOff (Take stamp link m) x → Go x)
      → Moves Why Go Asked h (taking p c stamp link m h).state
  taking_moves link m h why go = taking_by MovesBy moves_closed p c stamp link m h (at_message link m h why go)

-- ---- a tick

-- the first piece of a record's visit
first_piece : (p : Params) (r : Rec) (x : PieceState) → In x (take 1 (pieces_of p r)) → x ≡ piece r.tenancy r.visit 1
unfolding pieces_of
first_piece p r x i = first_of p.pieces i
  where
    first_of : (n : ℕ) → In x (take 1 (map (λ (k : ℕ). piece r.tenancy r.visit k) (range_with_len 1 n)))
        → x ≡ piece r.tenancy r.visit 1
    first_of zero i = absurd i
    first_of (suc n) i = ⊎_elim (λ e. e) (λ e. absurd e) i

first_there : (p : Params) (r : Rec) → 1 ≤ p.pieces → In (piece r.tenancy r.visit 1) (take 1 (pieces_of p r))
unfolding pieces_of
first_there p r some = of p.pieces some
  where
    of : (n : ℕ) → 1 ≤ n → In (piece r.tenancy r.visit 1)
        (take 1 (map (λ (k : ℕ). piece r.tenancy r.visit k) (range_with_len 1 n)))
    of zero l = absurd (omega arith)
    of (suc n) l = inl refl

-- a line that is split is a backup record's
pub backup_line : (p : Params) (stamp : Stamp) (x : Line) → must_split p stamp x ≡ true
    → x.rec ≡ backup_of x.rec.tenancy x.rec.visit
unfolding must_split
backup_line p stamp x e = kind_is x.rec.kind (not x.split) _ refl e
  where
    kind_is : (k : Kind) (b c : Bool) → x.rec.kind ≡ k → (not (is_own k) && b && c) ≡ true
        → x.rec ≡ backup_of x.rec.tenancy x.rec.visit
    kind_is Own b c q e = absurd (cc)
    kind_is Backup b c q e = ap (λ (k : Kind). record { tenancy = x.rec.tenancy; visit = x.rec.visit; kind = k }) q

insertion_blind : (x : Change) → IsOfInsertion x → IsBlind x
insertion_blind (TakeRecord r) f = tt
insertion_blind (PutStart t) f = tt
insertion_blind (SendFirst t) f = tt
insertion_blind (SendPlaced t) f = tt
insertion_blind other f = absurd f

deadman_blind : (x : Change) → IsOfDeadman x → IsBlind x
deadman_blind Believe f = tt
deadman_blind other f = absurd f

-- what a tick makes of the sets, up to each point
module _ (Why Go Asked : PieceState → Type 0) (p : Params) (c : ℕ) (stamp : Stamp) where
  releasing_moves : (h : Store) → Moves Why Go Asked h (releasing p stamp h).state
  releasing_moves h = subst (MovesBy Why Go Asked p c stamp h) (sym (release_is p c stamp h)) (moves_same Why Go Asked h _ refl refl)

  believing_moves : (h : Store) → Moves Why Go Asked h (believing p c stamp h).state
  believing_moves h =
      believing_by (MovesBy Why Go Asked p c stamp) (moves_closed Why Go Asked p c stamp) p c stamp h
      (λ x q cause. blind Why Go Asked p c stamp x q (deadman_blind x (fits p c stamp h OnDeadman x q cause)))

  inserting_moves : (h : Store) → Moves Why Go Asked h (inserting p c stamp h).state
  inserting_moves h =
      inserting_by (MovesBy Why Go Asked p c stamp) (moves_closed Why Go Asked p c stamp) p c stamp h
      (λ x q cause. blind Why Go Asked p c stamp x q (insertion_blind x (fits p c stamp h OnInsertion x q cause)))

  splitting_moves : (h : Store) → ((x : PieceState) (y : Line) → h.believes ≡ true → In y h.view.lines
      → must_split p stamp y ≡ true → is_handed_back p h.handback y.rec ≡ false → In x (take 1 (pieces_of p y.rec)) → Why x)
      → Moves Why Go Asked h (splitting p c stamp h).state
  splitting_moves h why =
      splitting_of (MovesBy Why Go Asked p c stamp) (moves_closed Why Go Asked p c stamp) p c stamp h
      (λ _. moves_same Why Go Asked h _ refl refl)
      (λ b x i q.
      let o = from_flat_map (first_pieces p stamp h.handback) x h.view.lines i in
      let f = from_split_off p stamp h.handback o.0 x (take 1 (pieces_of p o.0.rec)) o.2 in
      moves_with Why Go Asked x q (why x o.0 b o.1 f.0 f.1 f.2))

  forwarding_moves : (h : Store) → Moves Why Go Asked h (forwarding p c stamp h).state
  forwarding_moves h = subst (MovesBy Why Go Asked p c stamp h) (sym (forward_is p c stamp h)) (moves_same Why Go Asked h _ refl refl)

  reading_moves : (h : Store) → ((x : PieceState) → In x h.unasked.items
      → leaves_by p (stamp.reading + p.read_lead) x ≡ true → Asked x)
      → Moves Why Go Asked h (reading p stamp h).state
  reading_moves h asked =
      subst (MovesBy Why Go Asked p c stamp h) (sym (read_is p c stamp h))
      (moves_asked Why Go Asked (leaves_by p (stamp.reading + p.read_lead)) h _ refl refl asked)

  serving_moves : (h : Store) → ((x : PieceState) → leaves_by p stamp.reading x ≡ true → Go x)
      → Moves Why Go Asked h (serving p c stamp h).state
  serving_moves h go =
      subst (MovesBy Why Go Asked p c stamp h) (sym (serve_is p c stamp h))
      (moves_fewer Why Go Asked (leaves_by p stamp.reading) h _ refl refl go)

  -- from its beginning to where it splits, asks, and serves, and to its end
  pub to_splitting : (h : Store) → Moves Why Go Asked h (before_splitting p c stamp h)
  to_splitting h =
      let h1 : Store = (releasing p stamp h).state in
      let h2 : Store = (believing p c stamp h1).state in
      let h3 : Store = before_splitting p c stamp h in
      moves_then Why Go Asked h h1 h3 (releasing_moves h)
      (moves_then Why Go Asked h1 h2 h3 (believing_moves h1) (inserting_moves h2))

  -- up to where it asks: what is split off enters
  pub to_reading : (h : Store) → ((x : PieceState) → IsSplitOff p c stamp h x → Why x)
      → Moves Why Go Asked h (before_reading p c stamp h)
  to_reading h why =
      let h3 : Store = before_splitting p c stamp h in
      let h4 : Store = (splitting p c stamp h3).state in
      let h5 : Store = before_reading p c stamp h in
      moves_then Why Go Asked h h3 h5 (to_splitting h)
      (moves_then Why Go Asked h3 h4 h5
      (splitting_moves h3 (λ x y b i must left f.
      let e = first_piece p y.rec x f in
      why x (record {
        believes = b;
        line = y;
        there = (i, backup_line p stamp y must ∙ ap (λ (z : PieceState). backup_of z.tenancy z.visit) (sym e));
        must = must;
        left = left;
        first = ap (λ (z : PieceState). z.piece) e;
      })))
      (forwarding_moves h4))

  -- up to where it serves: what leaves within the read lead is asked for
  pub to_serving : (h : Store) → ((x : PieceState) → IsSplitOff p c stamp h x → Why x)
      → ((x : PieceState) → IsAsked p c stamp h x → Asked x)
      → Moves Why Go Asked h (before_serving p c stamp h)
  to_serving h why asked =
      let h5 : Store = before_reading p c stamp h in
      moves_then Why Go Asked h h5 (before_serving p c stamp h) (to_reading h why)
      (reading_moves h5 (λ x i t. asked x (record { unasked = i; soon = t })))

  -- from where it asks to its end
  pub rest_moves : (h : Store) → ((x : PieceState) → leaves_by p stamp.reading x ≡ true → Go x)
      → ((x : PieceState) → IsAsked p c stamp h x → Asked x)
      → Moves Why Go Asked (before_reading p c stamp h) (ticking p c stamp h).state
  rest_moves h go asked =
      let h5 : Store = before_reading p c stamp h in
      let h6 : Store = before_serving p c stamp h in
      subst (λ (k : Store). Moves Why Go Asked h5 k) (sym (tick_served p c stamp h))
      (moves_then Why Go Asked h5 h6 (serving p c stamp h6).state
      (reading_moves h5 (λ x i t. asked x (record { unasked = i; soon = t }))) (serving_moves h6 go))

  -- all of a tick
  ticking_moves : (h : Store) → ((x : PieceState) → IsSplitOff p c stamp h x → Why x)
      → ((x : PieceState) → leaves_by p stamp.reading x ≡ true → Go x)
      → ((x : PieceState) → IsAsked p c stamp h x → Asked x) → Moves Why Go Asked h (ticking p c stamp h).state
  ticking_moves h why go asked =
      moves_then Why Go Asked h (before_reading p c stamp h) (ticking p c stamp h).state (to_reading h why)
      (rest_moves h go asked)

-- ---- what holds at the points of a tick

module _ (p : Params) (c : ℕ) (stamp : Stamp) where
  -- what is split off stands behind the splitting
  splitting_there : (h : Store) (x : PieceState) (y : Line) → h.believes ≡ true → In y h.view.lines
      → must_split p stamp y ≡ true → is_handed_back p h.handback y.rec ≡ false → In x (take 1 (pieces_of p y.rec))
      → In x (splitting p c stamp h).state.pieces.items
  splitting_there h x y b i must left f =
      let xs : List PieceState = flat_map (first_pieces p stamp h.handback) h.view.lines in
      let here : In x (first_pieces p stamp h.handback y) =
      in_split_off p stamp h.handback y x (take 1 (pieces_of p y.rec)) must left f in
      subst (λ (d : Deed Msg Store). In x d.state.pieces.items) (sym (split_is p c stamp h b))
      (with_each_there x xs (with_split_lines p stamp h) (in_flat_map (first_pieces p stamp h.handback) x y h.view.lines i here))

  -- what is split off stands before the reading
  pub split_there : (h : Store) (x : PieceState) → 1 ≤ p.pieces → IsSplitOff p c stamp h x
      → In x (before_reading p c stamp h).pieces.items
  split_there h x some s =
      let first = first_there p s.line.rec some in
      let e : piece s.line.rec.tenancy s.line.rec.visit 1 ≡ x = ap (λ (r : Rec). piece r.tenancy r.visit 1) s.there.1
      ∙ ap (λ (k : ℕ). piece x.tenancy x.visit k) (sym s.first) in
      subst (λ (d : Deed Msg Store). In x d.state.pieces.items) (sym (forward_is p c stamp (before_forwarding p c stamp h)))
      (splitting_there (before_splitting p c stamp h) x s.line s.believes s.there.0 s.must s.left
      (subst (λ (z : PieceState). In z (take 1 (pieces_of p s.line.rec))) e first))

  -- what leaves by a tick is gone after it, and so is from those to be asked for what leaves within the lead
  serving_leaves : (h : Store) (x : PieceState) → In x (serving p c stamp h).state.pieces.items
      → leaves_by p stamp.reading x ≡ false
  serving_leaves h x i =
      let there = subst (λ (d : Deed Msg Store). In x d.state.pieces.items) (serve_is p c stamp h) i in
      not_true _ (from_filter (λ y. not (leaves_by p stamp.reading y)) x h.pieces.items there).1

  reading_leaves : (h : Store) (x : PieceState) → In x (reading p stamp h).state.unasked.items
      → leaves_by p (stamp.reading + p.read_lead) x ≡ false
  reading_leaves h x i =
      let there = subst (λ (d : Deed Msg Store). In x d.state.unasked.items) (read_is p c stamp h) i in
      not_true _ (from_filter (λ y. not (leaves_by p (stamp.reading + p.read_lead) y)) x h.unasked.items there).1

  serving_unasked : (h : Store) (x : PieceState) → In x (serving p c stamp h).state.unasked.items → In x h.unasked.items
  serving_unasked h x i =
      let there = subst (λ (d : Deed Msg Store). In x d.state.unasked.items) (serve_is p c stamp h) i in
      (from_filter (λ y. not (leaves_by p stamp.reading y)) x h.unasked.items there).0

  -- after a tick no record stands of a piece that leaves by then
  pub ticking_leaves : (h : Store) (x : PieceState) → In x (ticking p c stamp h).state.pieces.items
      → leaves_by p stamp.reading x ≡ false
  ticking_leaves h x i =
      serving_leaves (before_serving p c stamp h) x (subst (λ (k : Store). In x k.pieces.items) (tick_served p c stamp h) i)

  -- and none is to be asked for that leaves within the read lead
  pub ticking_asks : (h : Store) (x : PieceState) → In x (ticking p c stamp h).state.unasked.items
      → leaves_by p (stamp.reading + p.read_lead) x ≡ false
  ticking_asks h x i =
      reading_leaves (before_reading p c stamp h) x
      (serving_unasked (before_serving p c stamp h) x (subst (λ (k : Store). In x k.unasked.items) (tick_served p c stamp h) i))

-- ---- any input

-- what an input makes of the two sets
pub deed_moves : (Asked : PieceState → Type 0) (p : Params) (c : ℕ) (i : Input Msg) (h : Store)
    → ((stamp : Stamp) → i ≡ Tick stamp → (x : PieceState) → IsAsked p c stamp h x → Asked x)
    → Moves (Enters p c i h) (MayGo p i) Asked h (deed_of p c i h).state
deed_moves Asked p c (Take stamp link m) h asked =
    taking_moves (Enters p c (Take stamp link m) h) (MayGo p (Take stamp link m)) Asked p c stamp link m h (λ x w. w)
    (λ x w. w)
deed_moves Asked p c (Tick stamp) h asked =
    ticking_moves (Enters p c (Tick stamp) h) (MayGo p (Tick stamp)) Asked p c stamp h (λ x w. w) (λ x w. w)
    (asked stamp refl)
