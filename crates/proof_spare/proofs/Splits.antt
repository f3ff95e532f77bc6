-- Which visits of its own a cub whose disks may die splits at a tick, what goes out of each, and what it remembers then.
use Rattle.std.proofs.Common.{◌≡◌, ℕ, ◌+◌, ◌≤◌, Bool, true, false, cond, not, map, List, [], ◌∷◌, ◌++◌, Option, refl, sym, ap, subst, arith, ⊎_elim, inl, inr}
use Rattle.std.specs.Prelude.{◌⊎◌}
use Rattle.std.specs.List.{range_with_len}
use Rattle.std.proofs.lemmas.Bool.{cases_Bool}
use Rattle.tiger_base.specs.declared.number.Stamp.{Stamp}
use Rattle.tiger_base.specs.declared.tenancy.PieceState.{PieceState}
use Rattle.tiger_base.specs.declared.tenancy.Rec.{Rec}
use Rattle.tiger_base.specs.declared.message.Msg.{Msg}
use Rattle.slot_plan.specs.declared.params.Params.{Params}
use Rattle.partial_view.specs.declared.line.Line.{Line}
use Rattle.mirror_schedule.specs.Pieces.{Pieces, is_in}
use Rattle.node_kit.specs.declared.outbox.Out.{Out}
use Rattle.node_kit.specs.Steps.{Deed}
use Rattle.node_kit.specs.Deeds.{each_in_turn, nothing}
use Rattle.cub_rules.specs.Records.{pieces_but, pieces_with}
use Rattle.cub_changes.proofs.Numbers.{in_range}
use Rattle.disk_death.specs.Spares.{must_split_own, first_of_visit, sent_to_mirror, splitting_own, splitting_line, is_forgotten_at, sparing}
use Rattle.lists.specs.Elements.{In}
use Rattle.lists.proofs.Elements.{chosen, in_left, in_right, in_cases, in_map, from_map, in_filter, from_filter}
use Rattle.proof_ring.proofs.Below.{there_is_in, with_piece_from, with_piece_stays, with_piece_there}
use Rattle.proof_ring.proofs.Below as below

module _ (p : Params) (c : ℕ) where
  -- The mirror states of all pieces of a record's visit go out.
  abbrev pub AllAreSent : Rec → List (Out Msg) → Type 0
  AllAreSent r os = (k : ℕ) → 1 ≤ k → k ≤ p.pieces → In (sent_to_mirror p c r k) os

  -- An output is the mirror state of a piece of a record's visit.
  pub record IsPieceSent (r : Rec) (o : Out Msg) : Type 0 where
    pub number : ℕ
    pub low : 1 ≤ number
    pub high : number ≤ p.pieces
    pub is : o ≡ sent_to_mirror p c r number

  -- ---- one record

  abbrev split_now : Rec → Pieces → Deed Msg Pieces
  split_now r ps =
      record { outs = map (sent_to_mirror p c r) (range_with_len 1 p.pieces); state = pieces_with (first_of_visit r) ps }

  all_sent : (r : Rec) (ps : Pieces) → AllAreSent r (split_now r ps).outs
  all_sent r ps k low high =
      in_map (sent_to_mirror p c r) k (range_with_len 1 p.pieces) (below.in_range k 1 p.pieces low (omega arith))

  -- What goes out of it is of it, and then all goes out.
  own_sent : (r : Rec) (ps : Pieces) (o : Out Msg) → In o (splitting_own p c r ps).outs
      → IsPieceSent r o × AllAreSent r (splitting_own p c r ps).outs
  unfolding splitting_own
  own_sent r ps o i =
      chosen (λ (d : Deed Msg Pieces). In o d.outs → IsPieceSent r o × AllAreSent r d.outs) (is_in (first_of_visit r) ps.items)
      (nothing ps) (split_now r ps)
      (λ _ k. absurd k)
      (λ _ k.
      let f = from_map (sent_to_mirror p c r) o (range_with_len 1 p.pieces) k in
      let few = in_range f.0 1 p.pieces f.1 in
      (record { number = f.0; low = few.0; high = (let least = few.1 in omega arith); is = f.2 }, all_sent r ps))
      i

  -- It is remembered then.
  own_there : (r : Rec) (ps : Pieces) → In (first_of_visit r) (splitting_own p c r ps).state.items
  unfolding splitting_own
  own_there r ps =
      chosen (λ (d : Deed Msg Pieces). In (first_of_visit r) d.state.items) (is_in (first_of_visit r) ps.items)
      (nothing ps) (split_now r ps)
      (λ t. there_is_in (first_of_visit r) ps.items t)
      (λ _. with_piece_there ps.params (first_of_visit r) ps.items)

  own_stays : (r : Rec) (ps : Pieces) (x : PieceState) → In x ps.items → In x (splitting_own p c r ps).state.items
  unfolding splitting_own
  own_stays r ps x i =
      chosen (λ (d : Deed Msg Pieces). In x d.state.items) (is_in (first_of_visit r) ps.items) (nothing ps) (split_now r ps)
      (λ _. i)
      (λ _. with_piece_stays ps.params (first_of_visit r) x ps.items i)

  -- What is remembered was, or is of it, and then all goes out.
  own_back : (r : Rec) (ps : Pieces) (x : PieceState) → In x (splitting_own p c r ps).state.items
      → In x ps.items ⊎ ((x ≡ first_of_visit r) × AllAreSent r (splitting_own p c r ps).outs)
  unfolding splitting_own
  own_back r ps x i =
      chosen
      (λ (d : Deed Msg Pieces). In x d.state.items → In x ps.items ⊎ ((x ≡ first_of_visit r) × AllAreSent r d.outs))
      (is_in (first_of_visit r) ps.items) (nothing ps) (split_now r ps)
      (λ _ k. inl k)
      (λ _ k. ⊎_elim (λ e. inr (e, all_sent r ps)) (λ e. inl e) (with_piece_from ps.params (first_of_visit r) x ps.items k))
      i

  -- ---- one line, and all

  module _ (deaths : List (Option ℕ)) (stamp : Stamp) where
    -- One of these lines is split, so that all mirror states of its visit go out.
    pub record IsSplitHere (lines : List Line) (r : Rec) (os : List (Out Msg)) : Type 0 where
      pub line : Line
      pub there : In line lines
      pub must : must_split_own p deaths stamp line ≡ true
      pub is : line.rec ≡ r
      pub all : AllAreSent r os

    abbrev pub line_deed : Line → Pieces → Deed Msg Pieces
    line_deed x ps = splitting_line p c deaths stamp x ps

    abbrev pub lines_deed : List Line → Pieces → Deed Msg Pieces
    lines_deed xs ps = each_in_turn (splitting_line p c deaths stamp) xs ps

    line_sent : (x : Line) (ps : Pieces) (o : Out Msg) → In o (line_deed x ps).outs
        → (must_split_own p deaths stamp x ≡ true) × IsPieceSent x.rec o × AllAreSent x.rec (line_deed x ps).outs
    unfolding splitting_line
    line_sent x ps o i =
        chosen
        (λ (d : Deed Msg Pieces). In o d.outs
        → (must_split_own p deaths stamp x ≡ true) × IsPieceSent x.rec o × AllAreSent x.rec d.outs)
        (must_split_own p deaths stamp x) (splitting_own p c x.rec ps) (nothing ps)
        (λ t k. let s = own_sent x.rec ps o k in (t, s.0, s.1))
        (λ _ k. absurd k)
        i

    line_there : (x : Line) (ps : Pieces) → must_split_own p deaths stamp x ≡ true
        → In (first_of_visit x.rec) (line_deed x ps).state.items
    unfolding splitting_line
    line_there x ps must =
        subst
        (λ (b : Bool). In (first_of_visit x.rec) (cond b (splitting_own p c x.rec ps) (nothing ps)).state.items) (sym must)
        (own_there x.rec ps)

    line_stays : (x : Line) (ps : Pieces) (y : PieceState) → In y ps.items → In y (line_deed x ps).state.items
    unfolding splitting_line
    line_stays x ps y i =
        chosen (λ (d : Deed Msg Pieces). In y d.state.items) (must_split_own p deaths stamp x) (splitting_own p c x.rec ps)
        (nothing ps)
        (λ _. own_stays x.rec ps y i)
        (λ _. i)

    line_back : (x : Line) (ps : Pieces) (y : PieceState) → In y (line_deed x ps).state.items
        → In y ps.items
        ⊎ ((must_split_own p deaths stamp x ≡ true) × (y ≡ first_of_visit x.rec) × AllAreSent x.rec (line_deed x ps).outs)
    unfolding splitting_line
    line_back x ps y i =
        chosen
        (λ (d : Deed Msg Pieces). In y d.state.items
        → In y ps.items ⊎ ((must_split_own p deaths stamp x ≡ true) × (y ≡ first_of_visit x.rec) × AllAreSent x.rec d.outs))
        (must_split_own p deaths stamp x) (splitting_own p c x.rec ps) (nothing ps)
        (λ t k. ⊎_elim (λ q. inl q) (λ q. inr (t, q.0, q.1)) (own_back x.rec ps y k))
        (λ _ k. inl k)
        i

    sent_left : (r : Rec) (xs ys : List (Out Msg)) → AllAreSent r xs → AllAreSent r (xs ++ ys)
    sent_left r xs ys all k low high = in_left (sent_to_mirror p c r k) xs ys (all k low high)

    sent_right : (r : Rec) (xs ys : List (Out Msg)) → AllAreSent r ys → AllAreSent r (xs ++ ys)
    sent_right r xs ys all k low high = in_right (sent_to_mirror p c r k) xs ys (all k low high)

    -- What goes out is of a line that is split, and is remembered then.
    pub record IsSentHere (lines : List Line) (o : Out Msg) (d : Deed Msg Pieces) : Type 0 where
      pub record_of : Rec
      pub split : IsSplitHere lines record_of d.outs
      pub sent : IsPieceSent record_of o
      pub there : In (first_of_visit record_of) d.state.items

    lines_stay : (xs : List Line) (ps : Pieces) (y : PieceState) → In y ps.items → In y (lines_deed xs ps).state.items
    lines_stay [] ps y i = i
    lines_stay (x ∷ xs) ps y i = lines_stay xs (line_deed x ps).state y (line_stays x ps y i)

    lines_there : (xs : List Line) (ps : Pieces) (x : Line) → In x xs → must_split_own p deaths stamp x ≡ true
        → In (first_of_visit x.rec) (lines_deed xs ps).state.items
    lines_there [] ps x i must = absurd i
    lines_there (z ∷ zs) ps x i must = ⊎_elim
        (λ (e : x ≡ z).
        let at_z : must_split_own p deaths stamp z ≡ true = subst (λ (y : Line). must_split_own p deaths stamp y ≡ true) e must in
        lines_stay zs (line_deed z ps).state (first_of_visit x.rec)
        (subst (λ (y : Line). In (first_of_visit y.rec) (line_deed z ps).state.items) (sym e) (line_there z ps at_z)))
        (λ k. lines_there zs (line_deed z ps).state x k must)
        i

    lines_sent : (xs : List Line) (ps : Pieces) (o : Out Msg) → In o (lines_deed xs ps).outs → IsSentHere xs o (lines_deed xs ps)
    lines_sent [] ps o i = absurd i
    lines_sent (x ∷ xs) ps o i =
        let next : Pieces = (line_deed x ps).state in
        ⊎_elim
        (λ k.
        let s = line_sent x ps o k in
        record {
          record_of = x.rec;
          split = record {
            line = x;
            there = inl refl;
            must = s.0;
            is = refl;
            all = sent_left x.rec (line_deed x ps).outs (lines_deed xs next).outs s.2;
          };
          sent = s.1;
          there = lines_stay xs next (first_of_visit x.rec) (line_there x ps s.0);
        })
        (λ k.
        let s = lines_sent xs next o k in
        record {
          record_of = s.record_of;
          split = record {
            line = s.split.line;
            there = inr s.split.there;
            must = s.split.must;
            is = s.split.is;
            all = sent_right s.record_of (line_deed x ps).outs (lines_deed xs next).outs s.split.all;
          };
          sent = s.sent;
          there = s.there;
        })
        (in_cases o (line_deed x ps).outs (lines_deed xs next).outs i)

    -- What is remembered was, or is of a line that is split.
    lines_back : (xs : List Line) (ps : Pieces) (y : PieceState) → In y (lines_deed xs ps).state.items
        → In y ps.items ⊎ ((r : Rec) × (y ≡ first_of_visit r) × IsSplitHere xs r (lines_deed xs ps).outs)
    lines_back [] ps y i = inl i
    lines_back (x ∷ xs) ps y i =
        let next : Pieces = (line_deed x ps).state in
        ⊎_elim
        (λ k. ⊎_elim
        (λ q. inl q)
        (λ q. inr (
          x.rec,
          q.1,
          record {
            line = x;
            there = inl refl;
            must = q.0;
            is = refl;
            all = sent_left x.rec (line_deed x ps).outs (lines_deed xs next).outs q.2;
          },
        ))
        (line_back x ps y k))
        (λ k. inr (
          k.0,
          k.1,
          record {
            line = k.2.line;
            there = inr k.2.there;
            must = k.2.must;
            is = k.2.is;
            all = sent_right k.0 (line_deed x ps).outs (lines_deed xs next).outs k.2.all;
          },
        ))
        (lines_back xs next y i)

    -- ---- the tick

    abbrev kept_of : Pieces → Pieces
    kept_of ps = pieces_but (is_forgotten_at p stamp.reading) ps

    abbrev pub tick_deed : List Line → Pieces → Deed Msg Pieces
    tick_deed lines ps = sparing p c deaths stamp lines ps

    pub tick_sent : (lines : List Line) (ps : Pieces) (o : Out Msg) → In o (tick_deed lines ps).outs
        → IsSentHere lines o (tick_deed lines ps)
    unfolding sparing
    tick_sent lines ps o i = lines_sent lines (kept_of ps) o i

    pub tick_there : (lines : List Line) (ps : Pieces) (x : Line) → In x lines → must_split_own p deaths stamp x ≡ true
        → In (first_of_visit x.rec) (tick_deed lines ps).state.items
    unfolding sparing
    tick_there lines ps x i must = lines_there lines (kept_of ps) x i must

    pub tick_stays : (lines : List Line) (ps : Pieces) (y : PieceState) → In y ps.items
        → In y (tick_deed lines ps).state.items ⊎ (is_forgotten_at p stamp.reading y ≡ true)
    unfolding sparing
    tick_stays lines ps y i = ⊎_elim
        (λ (t : is_forgotten_at p stamp.reading y ≡ true). inr t)
        (λ (f : is_forgotten_at p stamp.reading y ≡ false).
        inl (lines_stay lines (kept_of ps) y (in_filter (λ x. not (is_forgotten_at p stamp.reading x)) y ps.items i (ap not f))))
        (cases_Bool (is_forgotten_at p stamp.reading y))

    pub tick_back : (lines : List Line) (ps : Pieces) (y : PieceState) → In y (tick_deed lines ps).state.items
        → In y ps.items ⊎ ((r : Rec) × (y ≡ first_of_visit r) × IsSplitHere lines r (tick_deed lines ps).outs)
    unfolding sparing
    tick_back lines ps y i = ⊎_elim
        (λ k. inl (from_filter (λ x. not (is_forgotten_at p stamp.reading x)) y ps.items k).0)
        (λ k. inr k)
        (lines_back lines (kept_of ps) y i)
