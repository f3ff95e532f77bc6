-- What the splitting of visits makes of what a cub keeps.
use Rattle.std.proofs.Common.{◌≡◌, ℕ, ◌+◌, ◌-◌, ◌<◌, ◌≤◌, zero, suc, add-zero, Bool, true, false, cond, not, ◌&&◌, find, length, List, [], ◌∷◌, ◌++◌, map, take, drop, Option, Some, None, refl, sym, ap, subst, ◌∙◌, arith, append_assoc}
use Rattle.std.specs.List.{AllByRecursion, filter, flat_map, range_with_len}
use Rattle.std.proofs.lemmas.List.{append-nil}
use Rattle.std.proofs.lemmas.Grind.{flat_map-append}
use Rattle.std.proofs.lemmas.Bool.{both_ways}
use Rattle.tiger_base.specs.declared.number.Stamp.{Stamp}
use Rattle.tiger_base.specs.declared.message.Msg.{Msg}
use Rattle.tiger_base.specs.declared.tenancy.PieceState.{PieceState}
use Rattle.tiger_base.specs.declared.tenancy.Rec.{Rec}
use Rattle.tiger_base.specs.Kinds.{is_own}
use Rattle.slot_plan.specs.declared.params.Params.{Params}
use Rattle.node_kit.specs.declared.outbox.Out.{Out}
use Rattle.partial_view.specs.declared.line.Line.{Line}
use Rattle.partial_view.specs.declared.line.Flag.TheVariants as flag
use Rattle.partial_view.specs.Lines.{key_of, marked}
use Rattle.partial_view.specs.Views.{Seen, IsWalk, with_mark}
use Rattle.mirror_schedule.specs.Sorted.{gap_from}
use Rattle.mirror_schedule.specs.Pieces.{Pieces, IsPieces, pieces_of, is_in, with_piece, comes_before}
use Rattle.mirror_schedule.specs.Splits.{Split, with_split}
use Rattle.mirror_schedule.proofs.Orders.{with_one-there}
use Rattle.mirror_schedule.proofs.PieceLists.{is_in-new}
use Rattle.node_kit.specs.Steps.{Deed}
use Rattle.node_kit.specs.Deeds.{Did, nothing}
use Rattle.cub_rules.specs.declared.store.Store.{Store}
use Rattle.cub_rules.specs.Records.{with_piece_record, pieces_with}
use Rattle.cub_rules.specs.Ticks.{must_split, split_line, split_outs, split_visits, first_pieces, with_each, sent_ahead, splitting}
use Rattle.cub_rules.specs.Comebacks.{is_handed_back}
use Rattle.cub_rules.specs.State.{IsLineOf}
use Rattle.cub_tick.specs.Working.{WorkedOn}
use Rattle.cub_tick.specs.Splitting.{with_split_of, sent_pieces, with_new, first_piece, split_of, with_split_visit, with_visit_settled, sent_settled, SplitOn}
use Rattle.cub_tick.proofs.Steps.{none_given}
use Rattle.cub_tick.proofs.Working.{Step, begun, first_passes, none_at, step_gives, marked_step, marked_fewer, marked_on, marked_done, outs_done}

pub not_false : (t : Bool) → not t ≡ false → t ≡ true
not_false true e = refl
not_false false e = absurd (cc)

-- a piece that is there, put in
put_there : (q : Params) (x : PieceState) (items : List PieceState) → IsPieces q items → is_in x items ≡ true → with_piece q x items ≡ items
unfolding with_piece
put_there q x items order there = by_gap (gap_from (comes_before q) x 0 items) refl
  where
    by_gap : (o : Option ℕ) → gap_from (comes_before q) x 0 items ≡ o → with_piece q x items ≡ items
    by_gap None e = with_one-there (comes_before q) x 0 items e
    by_gap (Some place) e = absurd (both_ways (is_in x items) (is_in-new q x items place order e) there)

pub put_known : (x : PieceState) (ps now : Pieces) → IsPieces ps.params ps.items → is_in x ps.items ≡ true → now ≡ pieces_with x ps → now ≡ with_new x ps ps
put_known x ps now order there e =
    e ∙ (ap (λ (ys : List PieceState). seen ps.params ys) (put_there ps.params x ps.items order there) ∙ ap (λ (t : Bool). cond t ps (pieces_with x ps)) (sym there))
  where
    seen : Params → List PieceState → Pieces
    seen q ys = record { params = q; items = ys }

-- the pieces that go ahead
abbrev pub piece_at : Rec → ℕ → PieceState
piece_at r k = record { tenancy = r.tenancy; visit = r.visit; piece = k }

abbrev pub sent_to : Params → ℕ → Rec → ℕ → List (Out Msg)
sent_to p cub r n = map (sent_ahead p cub) (map (piece_at r) (range_with_len 2 n))

range_more : {X Y : Type 0} (f : Y → X) (g : ℕ → Y) (a n : ℕ) → map f (map g (range_with_len a (suc n))) ≡ map f (map g (range_with_len a n)) ++ f (g (a + n)) ∷ []
range_more f g a zero = ap (λ (m : ℕ). f (g m) ∷ []) (sym (add-zero a))
range_more f g a (suc n) =
    let e : a + 1 + n ≡ a + suc n = omega arith in
    ap (λ zs. f (g a) ∷ zs) (range_more f g (a + 1) n ∙ ap (λ (m : ℕ). map f (map g (range_with_len (a + 1) n)) ++ f (g m) ∷ []) e)

pub sent_more : (p : Params) (cub : ℕ) (r : Rec) (k : ℕ) (old now after : List (Out Msg)) → 2 ≤ k → now ≡ old ++ sent_to p cub r (k - 2) → after ≡ now ++ sent_ahead p cub (piece_at r k) ∷ []
    → after ≡ old ++ sent_to p cub r (k + 1 - 2)
sent_more p cub r k old now after low e f =
    let next : 2 + (k - 2) ≡ k = omega (arith, low) in
    let more : suc (k - 2) ≡ k + 1 - 2 = omega (arith, low) in
    let longer : sent_to p cub r (suc (k - 2)) ≡ sent_to p cub r (k - 2) ++ sent_ahead p cub (piece_at r k) ∷ [] =
    range_more (sent_ahead p cub) (piece_at r) 2 (k - 2) ∙ ap (λ (m : ℕ). sent_to p cub r (k - 2) ++ sent_ahead p cub (piece_at r m) ∷ []) next in
    f ∙ (ap (λ (zs : List (Out Msg)). zs ++ sent_ahead p cub (piece_at r k) ∷ []) e ∙ append_assoc old (sent_to p cub r (k - 2)) _)
    ∙ ap (λ (zs : List (Out Msg)). old ++ zs) (sym longer ∙ ap (λ (m : ℕ). sent_to p cub r m) more)

behind_first : {Y : Type 0} (g : ℕ → Y) (n : ℕ) → 1 ≤ n → map g (range_with_len 2 (n + 1 - 2)) ≡ drop 1 (map g (range_with_len 1 n))
behind_first g zero h = absurd (omega (arith, h))
behind_first g (suc m) h =
    let e : suc m + 1 - 2 ≡ m = omega arith in
    ap (λ (i : ℕ). map g (range_with_len 2 i)) e

pub sent_all : (p : Params) (cub : ℕ) (r : Rec) (k : ℕ) (old now : List (Out Msg)) → 1 ≤ p.pieces → k ≡ p.pieces + 1 → now ≡ old ++ sent_to p cub r (k - 2) → now ≡ old ++ sent_pieces p cub r
unfolding pieces_of
sent_all p cub r k old now some end e =
    e ∙ ap (λ (zs : List (Out Msg)). old ++ zs) (ap (λ (m : ℕ). sent_to p cub r (m - 2)) end ∙ ap (λ (ys : List PieceState). map (sent_ahead p cub) ys) (behind_first (piece_at r) p.pieces some))

first_one : {Y : Type 0} (g : ℕ → Y) (n : ℕ) → 1 ≤ n → take 1 (map g (range_with_len 1 n)) ≡ g 1 ∷ []
first_one g zero h = absurd (omega (arith, h))
first_one g (suc m) h = refl

first_of : (p : Params) (r : Rec) → 1 ≤ p.pieces → take 1 (pieces_of p r) ≡ piece_at r 1 ∷ []
unfolding pieces_of
first_of p r some = first_one (piece_at r) p.pieces some

-- what is added one after another
each_append : {X S : Type 0} (add : X → S → S) (xs ys : List X) (s : S) → with_each add (xs ++ ys) s ≡ with_each add ys (with_each add xs s)
each_append add [] ys s = refl
each_append add (x ∷ xs) ys s = each_append add xs ys (add x s)

-- piece records change neither the view nor the split visits
abbrev changed : Store → Seen → List Split → Store
changed h view splits = record h { view = view; splits = splits }

-- the view, the split visits and both sets of pieces
abbrev all_of : Store → Seen → List Split → Pieces → Pieces → Store
all_of h view splits pieces unasked = record h { view = view; splits = splits; pieces = pieces; unasked = unasked }

piece_fields : (x : PieceState) (h : Store) → with_piece_record x h ≡ record h { pieces = with_new x h.pieces h.pieces; unasked = with_new x h.pieces h.unasked }
unfolding with_piece_record
piece_fields x h =
    elim (is_in x h.pieces.items) as (λ t. cond t h (record h { pieces = pieces_with x h.pieces; unasked = pieces_with x h.unasked })
    ≡ record h { pieces = cond t h.pieces (pieces_with x h.pieces); unasked = cond t h.unasked (pieces_with x h.unasked) }) [
      | true ↦ refl
      | false ↦ refl
    ]

piece_apart : (x : PieceState) (h : Store) (view : Seen) (splits : List Split) → with_piece_record x (changed h view splits) ≡ changed (with_piece_record x h) view splits
unfolding with_piece_record
piece_apart x h view splits =
    elim (is_in x h.pieces.items) as (λ t. cond t (changed h view splits) (record (changed h view splits) { pieces = pieces_with x h.pieces; unasked = pieces_with x h.unasked })
    ≡ changed (cond t h (record h { pieces = pieces_with x h.pieces; unasked = pieces_with x h.unasked })) view splits) [
      | true ↦ refl
      | false ↦ refl
    ]

pieces_apart : (xs : List PieceState) (h : Store) (view : Seen) (splits : List Split) → with_each with_piece_record xs (changed h view splits) ≡ changed (with_each with_piece_record xs h) view splits
pieces_apart [] h view splits = refl
pieces_apart (x ∷ xs) h view splits =
    ap (λ (g : Store). with_each with_piece_record xs g) (piece_apart x h view splits) ∙ pieces_apart xs (with_piece_record x h) view splits

-- nor do they change the plan of the pieces
piece_plan : (x : PieceState) (h : Store) → ((with_piece_record x h).pieces.params ≡ h.pieces.params) × ((with_piece_record x h).unasked.params ≡ h.unasked.params)
unfolding with_piece_record
piece_plan x h =
    elim (is_in x h.pieces.items) as (λ t. ((cond t h (record h { pieces = pieces_with x h.pieces; unasked = pieces_with x h.unasked })).pieces.params ≡ h.pieces.params)
    × ((cond t h (record h { pieces = pieces_with x h.pieces; unasked = pieces_with x h.unasked })).unasked.params ≡ h.unasked.params)) [
      | true ↦ (refl, refl)
      | false ↦ (refl, refl)
    ]

module _ (p : Params) (stamp : Stamp) (back : Option ℕ) where
  pub view_then : (xs : List Line) (view : Seen) (h : Store) → (with_split_of p stamp back xs view h).view ≡ view
  view_then xs view h =
      ap (λ (g : Store). g.view)
      (pieces_apart (flat_map (first_pieces p stamp back) xs) h view (with_each with_split (flat_map (split_visits p stamp back) xs) h.splits))

  -- some lines, and then others
  split_more : (xs ys : List Line) (between view : Seen) (h : Store)
      → with_split_of p stamp back ys view (with_split_of p stamp back xs between h) ≡ with_split_of p stamp back (xs ++ ys) view h
  split_more xs ys between view h =
      let visits : List Line → List Split = λ zs. flat_map (split_visits p stamp back) zs in
      let firsts : List Line → List PieceState = λ zs. flat_map (first_pieces p stamp back) zs in
      let one : List Split = with_each with_split (visits xs) h.splits in
      let two : List Split = with_each with_split (visits ys) one in
      let done : with_split_of p stamp back xs between h ≡ changed (with_each with_piece_record (firsts xs) h) between one = pieces_apart (firsts xs) h between one in
      ap (λ (g : Store). with_split_of p stamp back ys view g) done
      ∙ (ap (λ (g : Store). with_each with_piece_record (firsts ys) g) (sym (pieces_apart (firsts xs) h view two))
      ∙ (sym (each_append with_piece_record (firsts xs) (firsts ys) (changed h view two))
      ∙ (ap (λ (ps : List PieceState). with_each with_piece_record ps (changed h view two)) (sym (flat_map-append (first_pieces p stamp back) xs ys))
      ∙ ap (λ (s : List Split). with_each with_piece_record (firsts (xs ++ ys)) (changed h view s))
      (sym (ap (λ (zs : List Split). with_each with_split zs h.splits) (flat_map-append (split_visits p stamp back) xs ys) ∙ each_append with_split (visits xs) (visits ys) h.splits)))))

  -- what one line adds, by whether its visit is left to the predecessor
  settled : (r : Rec) (h : Store) (view : Seen) → 1 ≤ p.pieces → (left : Bool)
      → with_each with_piece_record (cond left [] (take 1 (pieces_of p r)) ++ [])
      (changed h view (with_each with_split (cond left [] (split_of r ∷ []) ++ []) h.splits))
      ≡ cond left (changed h view h.splits) (with_split_visit r (changed h view h.splits))
  settled r h view some true = refl
  settled r h view some false =
      ap (λ (ps : List PieceState). with_each with_piece_record (ps ++ []) (changed h view (with_split (split_of r) h.splits))) (first_of p r some)

  -- what one line adds, by its test
  one_of : (x : Line) (h : Store) (view : Seen) → 1 ≤ p.pieces → must_split p stamp x ≡ true
      → with_split_of p stamp back (x ∷ []) view h ≡ with_visit_settled p back x.rec (changed h view h.splits)
  one_of x h view some is =
      let left : Bool = is_handed_back p back x.rec in
      let firsts : first_pieces p stamp back x ≡ cond left [] (take 1 (pieces_of p x.rec)) =
      ap (λ (t : Bool). cond t (cond left [] (take 1 (pieces_of p x.rec))) []) is in
      let visits : split_visits p stamp back x ≡ cond left [] (split_of x.rec ∷ []) = ap (λ (t : Bool). cond t (cond left [] (split_of x.rec ∷ [])) []) is in
      ap (λ (ps : List PieceState). with_each with_piece_record (ps ++ []) (changed h view (with_each with_split (split_visits p stamp back x ++ []) h.splits))) firsts
      ∙ (ap (λ (ss : List Split). with_each with_piece_record (cond left [] (take 1 (pieces_of p x.rec)) ++ []) (changed h view (with_each with_split (ss ++ []) h.splits))) visits
      ∙ settled x.rec h view some left)

-- a piece record leaves what was handed back
piece_back : (x : PieceState) (h : Store) → (with_piece_record x h).handback ≡ h.handback
unfolding with_piece_record
piece_back x h =
    elim (is_in x h.pieces.items) as (λ t. (cond t h (record h { pieces = pieces_with x h.pieces; unasked = pieces_with x h.unasked })).handback ≡ h.handback) [
      | true ↦ refl
      | false ↦ refl
    ]

-- what a visit that had its turn leaves as it was
record IsSettled (h d : Store) : Type 0 where
  view : d.view ≡ h.view
  pieces : d.pieces.params ≡ h.pieces.params
  unasked : d.unasked.params ≡ h.unasked.params
  back : d.handback ≡ h.handback

is_settled : (r : Rec) (h : Store) (left : Bool) → IsSettled h (cond left h (with_split_visit r h))
is_settled r h true = record { view = refl; pieces = refl; unasked = refl; back = refl }
is_settled r h false =
    let visit : List Split = with_split (split_of r) h.splits in
    let plan = piece_plan (first_piece r) (changed h h.view visit) in
    record {
      view = ap (λ (g : Store). g.view) (piece_apart (first_piece r) h h.view visit);
      pieces = plan.0;
      unasked = plan.1;
      back = piece_back (first_piece r) (changed h h.view visit);
    }

-- the split of one visit
pub split_one : (r : Rec) (h : Store) (splits : List Split) (pieces unasked : Pieces) → splits ≡ with_split (split_of r) h.splits
    → pieces ≡ with_new (first_piece r) h.pieces h.pieces → unasked ≡ with_new (first_piece r) h.pieces h.unasked
    → record h { splits = splits; pieces = pieces; unasked = unasked } ≡ with_split_visit r h
split_one r h splits pieces unasked s q u =
    ap (λ (w : List Split). all_of h h.view w pieces unasked) s
    ∙ (ap (λ (w : Pieces). all_of h h.view (with_split (split_of r) h.splits) w unasked) q
    ∙ (ap (λ (w : Pieces). all_of h h.view (with_split (split_of r) h.splits) (with_new (first_piece r) h.pieces h.pieces) w) u
    ∙ sym (piece_fields (first_piece r) (record h { splits = with_split (split_of r) h.splits }))))

-- lines that are not split leave the store and the outputs as they are
store_still : (p : Params) (stamp : Stamp) (back : Option ℕ) (before : Store) (xs : List Line) → AllByRecursion (λ x. must_split p stamp x ≡ false) xs
    → before ≡ with_split_of p stamp back xs before.view before
store_still p stamp back before xs h =
    let firsts : flat_map (first_pieces p stamp back) xs ≡ [] = none_given (must_split p stamp) _ xs h in
    let visits : flat_map (split_visits p stamp back) xs ≡ [] = none_given (must_split p stamp) _ xs h in
    sym (ap (λ (ps : List PieceState). with_each with_piece_record ps (changed before before.view (with_each with_split (flat_map (split_visits p stamp back) xs) before.splits))) firsts
    ∙ ap (λ (ss : List Split). changed before before.view (with_each with_split ss before.splits)) visits)

-- a visit is split once
pub split_once : (p : Params) (stamp : Stamp) (x : Line) → must_split p stamp (marked flag.Split x) ≡ false
unfolding must_split
split_once p stamp x = never (not (is_own x.rec.kind)) _
  where
    never : (o t : Bool) → (o && false && t) ≡ false
    never true t = refl
    never false t = refl

module _ {p : Params} {cub : ℕ} {stamp : Stamp} {before : Store} {outs_before : List (Out Msg)} where
  -- the splitting begins
  pub split_begun : AllByRecursion (IsLineOf p cub) before.view.lines → SplitOn p cub stamp before outs_before before outs_before
  split_begun all = record { work = begun all; store = λ view. refl; back = refl; pieces = refl; unasked = refl }

  module _ {now : Store} {outs_now : List (Out Msg)} (t : SplitOn p cub stamp before outs_before now outs_now) where
    -- one line more has its turn
    module _ {x : Line} {view : Seen} {after : Store} (some : 1 ≤ p.pieces) (walk : IsWalk now.view.params now.view.lines) (first : Some x ≡ find (must_split p stamp) now.view.lines)
        (step : view ≡ record now.view { lines = with_mark (key_of x) flag.Split now.view.lines }) (split : after ≡ with_visit_settled p now.handback x.rec (record now { view = view })) where
      settles : IsSettled (record now { view = view }) after
      settles =
          subst (λ (g : Store). IsSettled (record now { view = view }) g) (sym split)
          (is_settled x.rec (record now { view = view }) (is_handed_back p now.handback x.rec))

      one_more : Step (must_split p stamp) x (marked flag.Split x ∷ []) now.view.lines view.lines
      one_more = marked_step (must_split p stamp) now.view walk first flag.Split (split_once p stamp) step

      view_after : after.view ≡ view
      view_after = settles.view

      after_is : after ≡ with_split_of p stamp before.handback (x ∷ []) view now
      after_is =
          subst (λ (b : Option ℕ). after ≡ with_visit_settled p b x.rec (record now { view = view })) t.back split
          ∙ sym (one_of p stamp before.handback x now view some (first_passes (must_split p stamp) x now.view.lines first))

      firsts : flat_map (first_pieces p stamp before.handback) now.view.lines ≡ flat_map (first_pieces p stamp before.handback) (x ∷ view.lines)
      firsts =
          step_gives (must_split p stamp) one_more (first_pieces p stamp before.handback)
          (λ y is. ap (λ (b : Bool). cond b (cond (is_handed_back p before.handback y.rec) [] (take 1 (pieces_of p y.rec))) []) is)
          (ap (λ (b : Bool). cond b (cond (is_handed_back p before.handback x.rec) [] (take 1 (pieces_of p x.rec))) [] ++ []) (split_once p stamp x))

      visits : flat_map (split_visits p stamp before.handback) now.view.lines ≡ flat_map (split_visits p stamp before.handback) (x ∷ view.lines)
      visits =
          step_gives (must_split p stamp) one_more (split_visits p stamp before.handback)
          (λ y is. ap (λ (b : Bool). cond b (cond (is_handed_back p before.handback y.rec) [] (split_of y.rec ∷ [])) []) is)
          (ap (λ (b : Bool). cond b (cond (is_handed_back p before.handback x.rec) [] (split_of x.rec ∷ [])) [] ++ []) (split_once p stamp x))

      store_after : (last : Seen) → with_split_of p stamp before.handback view.lines last after ≡ with_split_of p stamp before.handback before.view.lines last before
      store_after last =
          ap (λ (g : Store). with_split_of p stamp before.handback view.lines last g) after_is
          ∙ (split_more p stamp before.handback (x ∷ []) view.lines view last now
          ∙ (ap (λ (ps : List PieceState). with_each with_piece_record ps (changed now last (with_each with_split (flat_map (split_visits p stamp before.handback) (x ∷ view.lines)) now.splits))) (sym firsts)
          ∙ (ap (λ (ss : List Split). with_each with_piece_record (flat_map (first_pieces p stamp before.handback) now.view.lines) (changed now last (with_each with_split ss now.splits))) (sym visits)
          ∙ t.store last)))

      pub split_fewer : length (filter (must_split p stamp) after.view.lines) < length (filter (must_split p stamp) now.view.lines)
      split_fewer =
          subst (λ (v : Seen). length (filter (must_split p stamp) v.lines) < length (filter (must_split p stamp) now.view.lines)) (sym view_after)
          (marked_fewer (must_split p stamp) now.view walk first flag.Split (split_once p stamp) step)

      pub split_on : {outs_after : List (Out Msg)} → outs_after ≡ outs_now ++ sent_settled p cub now.handback x.rec → SplitOn p cub stamp before outs_before after outs_after
      split_on {outs_after} e = record {
        work =
            subst (λ (v : Seen). WorkedOn (IsLineOf p cub) (split_outs p cub stamp before.handback) (λ y. split_line p stamp y ∷ []) before.view outs_before v outs_after) (sym view_after)
            (marked_on (must_split p stamp) (λ y. sent_settled p cub before.handback y.rec) flag.Split walk first (split_once p stamp) step (λ y h. h) t.work
            (subst (λ (b : Option ℕ). outs_after ≡ outs_now ++ sent_settled p cub b x.rec) t.back e));
        store =
            λ last. ap (λ (v : Seen). with_split_of p stamp before.handback v.lines last after) view_after ∙ store_after last;
        back = settles.back ∙ t.back;
        pieces = settles.pieces ∙ t.pieces;
        unasked = settles.unasked ∙ t.unasked;
      }

    module _ (none : None ≡ find (must_split p stamp) now.view.lines) where
      pub split_store : {view : Seen} → view ≡ now.view → record now { view = view } ≡ with_split_of p stamp before.handback before.view.lines (record before.view { lines = map (split_line p stamp) before.view.lines }) before
      split_store e =
          ap (λ (v : Seen). record now { view = v }) e ∙ (store_still p stamp before.handback now now.view.lines (none_at (must_split p stamp) now.view.lines none)
          ∙ (t.store now.view
          ∙ ap (λ (w : Seen). with_split_of p stamp before.handback before.view.lines w before) (marked_done (must_split p stamp) (λ y. sent_settled p cub before.handback y.rec) flag.Split t.work none refl)))

      pub split_sent : outs_now ≡ outs_before ++ flat_map (split_outs p cub stamp before.handback) before.view.lines
      split_sent = outs_done (must_split p stamp) (λ y. sent_settled p cub before.handback y.rec) t.work none

-- the splitting, where the predecessor is believed dead and where it is not
did_where : {S : Type 0} (t : Bool) (d e : Deed Msg S) (outs now : List (Out Msg)) (s : S) → t ≡ true → Did d outs now s → Did (cond t d e) outs now s
did_where true d e outs now s is done = done
did_where false d e outs now s is done = absurd (cc)

did_else : {S : Type 0} (t : Bool) (d e : Deed Msg S) (outs now : List (Out Msg)) (s : S) → t ≡ false → Did e outs now s → Did (cond t d e) outs now s
did_else true d e outs now s is done = absurd (cc)
did_else false d e outs now s is done = done

pub split_all : (p : Params) (cub : ℕ) (stamp : Stamp) (h now : Store) (outs outs_now : List (Out Msg)) → h.believes ≡ true
    → now ≡ with_split_of p stamp h.handback h.view.lines (record h.view { lines = map (split_line p stamp) h.view.lines }) h
    → outs_now ≡ outs ++ flat_map (split_outs p cub stamp h.handback) h.view.lines
    → Did (splitting p cub stamp h) outs outs_now now
unfolding splitting
split_all p cub stamp h now outs outs_now is e f = did_where h.believes _ (nothing h) outs outs_now now is (f, e)

pub split_not : (p : Params) (cub : ℕ) (stamp : Stamp) (h : Store) (outs : List (Out Msg)) → h.believes ≡ false → Did (splitting p cub stamp h) outs outs h
unfolding splitting
split_not p cub stamp h outs is = did_else h.believes _ (nothing h) outs outs h is (sym (append-nil outs), refl)
