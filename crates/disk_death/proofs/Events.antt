-- What such a cub does in an event: its cub's step, and then what is added, is its own step; it stays the cub of its number,
-- and puts out only what it may.
use Rattle.std.proofs.Common.{◌≡◌, ℕ, ◌+◌, ◌<◌, ◌≤◌, Bool, true, false, cond, not, IsTrue, map, List, [], ◌∷◌, ◌++◌, Option, Some, None, refl, sym, ap, subst, ◌∙◌, arith, append_assoc}
use Rattle.std.specs.List.{AllByRecursion, filter, flat_map, range_with_len}
use Rattle.tiger_base.specs.Limits.{most_reading}
use Rattle.tiger_base.specs.Notes.{noted}
use Rattle.tiger_base.specs.declared.number.Instance.{Instance}
use Rattle.tiger_base.specs.declared.number.LinkNo.{LinkNo}
use Rattle.tiger_base.specs.declared.number.Stamp.{Stamp}
use Rattle.tiger_base.specs.declared.tenancy.PieceState.{PieceState}
use Rattle.tiger_base.specs.declared.tenancy.Rec.{Rec}
use Rattle.tiger_base.specs.declared.message.Msg.{Msg}
use Rattle.slot_plan.specs.declared.params.Params.{Params}
use Rattle.slot_plan.specs.Conditions.{IsPlan}
use Rattle.partial_view.specs.declared.line.Line.{Line}
use Rattle.mirror_schedule.specs.Pieces.{Pieces, comes_before, is_in, is_of, with_piece}
use Rattle.mirror_schedule.proofs.Orders.{all_filter, all_with_one}
use Rattle.node_kit.specs.declared.outbox.Out.{Out}
use Rattle.node_kit.specs.Form.{is_piece}
use Rattle.node_kit.specs.Steps.{Deed, Input, IsAllowed, Acts, stamp_of}
use Rattle.node_kit.specs.Steps.Input.{Take, Tick}
use Rattle.node_kit.specs.Deeds.{Did, nothing, each_in_turn}
use Rattle.node_kit.proofs.Ways.{ahead_leads}
use Rattle.cub_rules.specs.Records.{pieces_with, pieces_but}
use Rattle.cub_rules.specs.State.{CubState, IsCub, IsLineOf}
use Rattle.cub_rules.specs.Cubs.{cub_step}
use Rattle.cub_changes.proofs.Numbers.{in_range, piece_parts, piece_from_parts, visit_in_form}
use Rattle.cub_changes.proofs.Rules.{cub_stays, cub_allowed}
use Rattle.lists.proofs.Each.{all_append, all_map, all_flat_map, all_in}
use Rattle.disk_death.specs.Spares.{SpareState, IsSpareCub, must_split_own, splitting_own, splitting_line, sparing, is_forgotten_at, piece_numbered, first_of_visit, sent_to_mirror, kills_if_of, killed_ahead, killing_own, killing_stopped, stopped_in_form, adding, spare_step}

-- ---- its cub's step, and then what is added

pub both_did : (s : SpareState) (i : Input Msg) (cub : CubState) (more : Pieces) (before between after : List (Out Msg))
    → Did (cub_step s.inner i) before between cub
    → Did (adding s.inner.params s.inner.cub s.deaths i cub.store.view.lines s.remembered) between after more
    → Did (spare_step s i) before after (record { inner = cub; deaths = s.deaths; remembered = more })
both_did s i cub more before between after first second =
    let deed : CubState → Deed Msg Pieces = λ c. adding s.inner.params s.inner.cub s.deaths i c.store.view.lines s.remembered in
    let next : Did (deed (cub_step s.inner i).state) between after more = subst (λ (c : CubState). Did (deed c) between after more) first.1 second in (
      next.0 ∙ (ap (λ (os : List (Out Msg)). os ++ (deed (cub_step s.inner i).state).outs) first.0 ∙ append_assoc before (cub_step s.inner i).outs (deed (cub_step s.inner i).state).outs),
      ap (λ (c : CubState). made c more) first.1 ∙ ap (λ (q : Pieces). made (cub_step s.inner i).state q) next.1,
    )
  where
    made : CubState → Pieces → SpareState
    made c q = record { inner = c; deaths = s.deaths; remembered = q }

-- in an event nothing need be known
pub under_way : {X : Type 0} → true ≡ false → X
under_way e = absurd (cc)

-- what such a cub is seen as
abbrev pub seen_as : CubState → List (Option ℕ) → Pieces → SpareState
seen_as cub deaths ps = record { inner = cub; deaths = deaths; remembered = ps }

module _ (p : Params) (n : ℕ) (cub now : CubState) (deaths : List (Option ℕ)) (ps more : Pieces) (before between after : List (Out Msg)) (own : IsCub cub p n) where
  -- a message was taken
  pub taken : (stamp : Stamp) (link : LinkNo) (m : Msg) (o : Option Instance) → o ≡ stopped_in_form p m
      → Did (cub_step cub (Take stamp link m)) before between now → Did (killing_stopped p n o ps) between after more
      → Did (spare_step (seen_as cub deaths ps) (Take stamp link m)) before after (seen_as now deaths more)
  taken stamp link m o is first second =
      both_did (seen_as cub deaths ps) (Take stamp link m) now more before between after first
      (subst (λ (q : Params). Did (killing_stopped q cub.cub (stopped_in_form q m) ps) between after more) (sym own.params)
      (subst (λ (c : ℕ). Did (killing_stopped p c (stopped_in_form p m) ps) between after more) (sym own.number)
      (subst (λ (v : Option Instance). Did (killing_stopped p n v ps) between after more) is second)))

  -- a beat was ended
  pub ended : (stamp : Stamp) (lines : List Line) → lines ≡ now.store.view.lines
      → Did (cub_step cub (Tick stamp)) before between now → Did (sparing p n deaths stamp lines ps) between after more
      → Did (spare_step (seen_as cub deaths ps) (Tick stamp)) before after (seen_as now deaths more)
  ended stamp lines is first second =
      both_did (seen_as cub deaths ps) (Tick stamp) now more before between after first
      (subst (λ (q : Params). Did (sparing q cub.cub deaths stamp now.store.view.lines ps) between after more) (sym own.params)
      (subst (λ (c : ℕ). Did (sparing p c deaths stamp now.store.view.lines ps) between after more) (sym own.number)
      (subst (λ (xs : List Line). Did (sparing p n deaths stamp xs ps) between after more) is second)))

-- the view of a cub is of its plan
pub view_of_plan : (cub : CubState) (p : Params) (n : ℕ) → IsCub cub p n → cub.store.view.params ≡ p
view_of_plan cub p n own = own.store.view_plan ∙ own.params

-- what was done keeps the cub
pub cub_kept : (old new : CubState) (i : Input Msg) (p : Params) (n : ℕ) (before after : List (Out Msg)) → (stamp_of i).reading ≤ most_reading → IsCub old p n
    → Did (cub_step old i) before after new → IsCub new p n
cub_kept old new i p n before after short is did = subst (λ (s : CubState). IsCub s p n) (sym did.1) (cub_stays old i p n short is)

-- ---- what is added keeps what is remembered in form, and may go out

-- what holds of what is remembered, and of what was added for it
pub record IsAdded (p : Params) (n : ℕ) (d : Deed Msg Pieces) : Type 0 where
  pub plan : d.state.params ≡ p
  pub pieces : AllByRecursion (λ x. IsTrue (is_piece p x)) d.state.items
  pub allowed : AllByRecursion (IsAllowed noted p n) d.outs

-- what is remembered is of the plan, and in form
pub record AreOfPlan (p : Params) (ps : Pieces) : Type 0 where
  pub plan : ps.params ≡ p
  pub pieces : AllByRecursion (λ x. IsTrue (is_piece p x)) ps.items

added_of : (p : Params) (n : ℕ) (ps : Pieces) → AreOfPlan p ps → IsAdded p n (nothing ps)
added_of p n ps h = record { plan = h.plan; pieces = h.pieces; allowed = tt }

of_added : (p : Params) (n : ℕ) (d : Deed Msg Pieces) → IsAdded p n d → AreOfPlan p d.state
of_added p n d h = record { plan = h.plan; pieces = h.pieces }

but_of_plan : (p : Params) (test : PieceState → Bool) (ps : Pieces) → AreOfPlan p ps → AreOfPlan p (pieces_but test ps)
but_of_plan p test ps h = record { plan = h.plan; pieces = all_filter (λ x. IsTrue (is_piece p x)) (λ x. not (test x)) ps.items h.pieces }

with_of_plan : (p : Params) (x : PieceState) (ps : Pieces) → AreOfPlan p ps → IsTrue (is_piece p x) → AreOfPlan p (pieces_with x ps)
unfolding with_piece
with_of_plan p x ps h form = record { plan = h.plan; pieces = all_with_one (comes_before ps.params) (λ x. IsTrue (is_piece p x)) x ps.items h.pieces form }

module _ (p : Params) (n : ℕ) (plan : IsPlan p) (here : n < p.cubs) where
  -- each piece of a line's visit is in form
  piece_form : (x : Line) → IsLineOf p n x → (k : ℕ) → 1 ≤ k → k ≤ p.pieces → IsTrue (is_piece p (piece_numbered x.rec k))
  piece_form x own k low high =
      piece_from_parts p (piece_numbered x.rec k) (record { tenancy = own.in_form; begun = own.begun; not_over = own.not_over; low = low; high = high })

  mirrors_allowed : (x : Line) → IsLineOf p n x → AllByRecursion (IsAllowed noted p n) (map (sent_to_mirror p n x.rec) (range_with_len 1 p.pieces))
  mirrors_allowed x own =
      all_map (IsAllowed noted p n) (sent_to_mirror p n x.rec) (range_with_len 1 p.pieces)
      (λ k i.
      let r = in_range k 1 p.pieces i in
      let high : k ≤ p.pieces = omega (arith, r.1) in
      (ahead_leads p n k plan here r.0 (omega (arith, high)), piece_form x own k r.0 high))

  own_added : (x : Line) (ps : Pieces) → IsLineOf p n x → AreOfPlan p ps → IsAdded p n (splitting_own p n x.rec ps)
  unfolding splitting_own
  own_added x ps own h = by_test (is_in (first_of_visit x.rec) ps.items) refl
    where
      by_test : (t : Bool) → is_in (first_of_visit x.rec) ps.items ≡ t → IsAdded p n (splitting_own p n x.rec ps)
      by_test true is = rw is (added_of p n ps h)
      by_test false is =
          let kept = with_of_plan p (first_of_visit x.rec) ps h (piece_form x own 1 (omega arith) plan.ranges.pieces.0) in
          rw is (record { plan = kept.plan; pieces = kept.pieces; allowed = mirrors_allowed x own })

  line_added : (deaths : List (Option ℕ)) (stamp : Stamp) (x : Line) (ps : Pieces) → IsLineOf p n x → AreOfPlan p ps
      → IsAdded p n (splitting_line p n deaths stamp x ps)
  unfolding splitting_line
  line_added deaths stamp x ps own h = by_test (must_split_own p deaths stamp x) refl
    where
      by_test : (t : Bool) → must_split_own p deaths stamp x ≡ t → IsAdded p n (splitting_line p n deaths stamp x ps)
      by_test true is = rw is (own_added x ps own h)
      by_test false is = rw is (added_of p n ps h)

  lines_added : (deaths : List (Option ℕ)) (stamp : Stamp) (lines : List Line) (ps : Pieces) → AllByRecursion (IsLineOf p n) lines → AreOfPlan p ps
      → IsAdded p n (each_in_turn (splitting_line p n deaths stamp) lines ps)
  lines_added deaths stamp [] ps own h = added_of p n ps h
  lines_added deaths stamp (x ∷ xs) ps own h =
      let first = line_added deaths stamp x ps own.0 h in
      let rest = lines_added deaths stamp xs (splitting_line p n deaths stamp x ps).state own.1 (of_added p n _ first) in
      record { plan = rest.plan; pieces = rest.pieces; allowed = all_append (IsAllowed noted p n) _ _ first.allowed rest.allowed }

  sparing_added : (deaths : List (Option ℕ)) (stamp : Stamp) (lines : List Line) (ps : Pieces) → AllByRecursion (IsLineOf p n) lines → AreOfPlan p ps
      → IsAdded p n (sparing p n deaths stamp lines ps)
  unfolding sparing
  sparing_added deaths stamp lines ps own h = lines_added deaths stamp lines _ own (but_of_plan p (is_forgotten_at p stamp.reading) ps h)

  kills_allowed : (v : Instance) (x : PieceState) → IsTrue (is_piece p x) → AllByRecursion (IsAllowed noted p n) (kills_if_of p n v x)
  unfolding kills_if_of
  kills_allowed v x form = by_test (is_of v x) refl
    where
      all : AllByRecursion (IsAllowed noted p n) (map (killed_ahead p n x) (range_with_len 1 p.pieces))
      all =
          all_map (IsAllowed noted p n) (killed_ahead p n x) (range_with_len 1 p.pieces)
          (λ k i.
          let r = in_range k 1 p.pieces i in
          let q = piece_parts p x form in
          (ahead_leads p n k plan here r.0 (omega (arith, r.1)), visit_in_form p x.tenancy x.visit q.tenancy q.not_over))

      by_test : (t : Bool) → is_of v x ≡ t → AllByRecursion (IsAllowed noted p n) (kills_if_of p n v x)
      by_test true is = rw is all
      by_test false is = rw is tt

  killing_added : (v : Instance) (ps : Pieces) → AreOfPlan p ps → IsAdded p n (killing_own p n v ps)
  unfolding killing_own
  killing_added v ps h =
      let kept = but_of_plan p (is_of v) ps h in
      record {
        plan = kept.plan;
        pieces = kept.pieces;
        allowed =
            all_flat_map (IsAllowed noted p n) (kills_if_of p n v) ps.items
            (λ x i. kills_allowed v x (all_in (λ y. IsTrue (is_piece p y)) x ps.items h.pieces i));
      }

  stopped_added : (o : Option Instance) (ps : Pieces) → AreOfPlan p ps → IsAdded p n (killing_stopped p n o ps)
  stopped_added None ps h = added_of p n ps h
  stopped_added (Some v) ps h = killing_added v ps h

  pub beside_added : (deaths : List (Option ℕ)) (i : Input Msg) (lines : List Line) (ps : Pieces) → AllByRecursion (IsLineOf p n) lines → AreOfPlan p ps
      → IsAdded p n (adding p n deaths i lines ps)
  beside_added deaths (Take stamp link m) lines ps own h = stopped_added (stopped_in_form p m) ps h
  beside_added deaths (Tick stamp) lines ps own h = sparing_added deaths stamp lines ps own h

-- ---- so it is a node's step

-- what is added by a cub that stands at a number
added_there : (s : SpareState) (i : Input Msg) (p : Params) (n : ℕ) → (stamp_of i).reading ≤ most_reading → IsSpareCub s p n
    → IsAdded p n (adding s.inner.params s.inner.cub s.deaths i (cub_step s.inner i).state.store.view.lines s.remembered)
added_there s i p n short at =
    let after = cub_stays s.inner i p n short at.cub in
    let own : IsCub s.inner p n = at.cub in
    let plan : IsPlan p = subst (λ (q : Params). IsPlan q) own.params own.plan in
    let inside : n < p.cubs =
    subst (λ (q : Params). n < q.cubs) own.params (subst (λ (c : ℕ). c < s.inner.params.cubs) own.number own.inside) in
    let lines : AllByRecursion (IsLineOf p n) (cub_step s.inner i).state.store.view.lines =
    subst (λ (q : Params). AllByRecursion (IsLineOf q n) (cub_step s.inner i).state.store.view.lines) after.params
    (subst (λ (c : ℕ). AllByRecursion (IsLineOf (cub_step s.inner i).state.params c) (cub_step s.inner i).state.store.view.lines) after.number after.store.lines)
    in
    let there : IsAdded p n (adding p n s.deaths i (cub_step s.inner i).state.store.view.lines s.remembered) =
    beside_added p n plan inside s.deaths i _ s.remembered lines (record { plan = at.plan; pieces = at.pieces }) in
    subst (λ (q : Params). IsAdded p n (adding q s.inner.cub s.deaths i (cub_step s.inner i).state.store.view.lines s.remembered)) (sym own.params)
    (subst (λ (c : ℕ). IsAdded p n (adding p c s.deaths i (cub_step s.inner i).state.store.view.lines s.remembered)) (sym own.number) there)

pub spare_acts : (i : Input Msg) (old new : SpareState) (before after : List (Out Msg)) → (stamp_of i).reading ≤ most_reading
    → Did (spare_step old i) before after new → Acts noted spare_step IsSpareCub i old new before after
spare_acts i old new before after short did = record {
  appended = did.0;
  moved = did.1;
  stays = λ p n at. subst (λ (s : SpareState). IsSpareCub s p n) (sym did.1) (record {
    cub = cub_stays old.inner i p n short at.cub;
    plan = (added_there old i p n short at).plan;
    pieces = (added_there old i p n short at).pieces;
  });
  allowed = λ p n at. all_append (IsAllowed noted p n) _ _ (cub_allowed old.inner i p n short at.cub) (added_there old i p n short at).allowed;
}
