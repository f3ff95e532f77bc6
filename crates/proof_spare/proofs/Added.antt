-- All that a cub adds goes ahead, as far as there are pieces, and is a mirror state or a kill.
use Rattle.std.proofs.Common.{◌≡◌, ℕ, ◌≤◌, Bool, true, false, map, List, [], ◌∷◌, Option, Some, None, refl, arith, inl, inr}
use Rattle.std.specs.List.{AllByRecursion, range_with_len}
use Rattle.tiger_base.specs.declared.number.Instance.{Instance}
use Rattle.tiger_base.specs.declared.number.Stamp.{Stamp}
use Rattle.tiger_base.specs.declared.tenancy.PieceState.{PieceState}
use Rattle.tiger_base.specs.declared.tenancy.Rec.{Rec}
use Rattle.tiger_base.specs.declared.message.Msg.{Msg}
use Rattle.slot_plan.specs.declared.params.Params.{Params}
use Rattle.partial_view.specs.declared.line.Line.{Line}
use Rattle.mirror_schedule.specs.Pieces.{Pieces, is_in, is_of}
use Rattle.node_kit.specs.declared.outbox.Out.{Out}
use Rattle.node_kit.specs.Steps.{Input}
use Rattle.node_kit.specs.Steps.Input.{Take, Tick}
use Rattle.node_kit.specs.Deeds.{each_in_turn}
use Rattle.cub_changes.proofs.Numbers.{in_range}
use Rattle.disk_death.specs.Spares.{must_split_own, first_of_visit, piece_numbered, sent_to_mirror, splitting_own, splitting_line, sparing, killed_ahead, kills_if_of, killing_own, killing_stopped, stopped_in_form, adding}
use Rattle.lists.proofs.Each.{all_append, all_map, all_flat_map}
use Rattle.proof_facts.specs.Beside.{IsAddition}

module _ (p : Params) (c : ℕ) where
  one_mirror : (r : Rec) (k : ℕ) → 1 ≤ k → k ≤ p.pieces → IsAddition p c (sent_to_mirror p c r k)
  one_mirror r k low high = inl (piece_numbered r k, record { ahead = k; some = low; few = high; is = refl })

  one_kill : (x : PieceState) (k : ℕ) → 1 ≤ k → k ≤ p.pieces → IsAddition p c (killed_ahead p c x k)
  one_kill x k low high = inr (x.tenancy.instance, x.tenancy.slot, x.visit, record { ahead = k; some = low; few = high; is = refl })

  all_ahead : (f : ℕ → Out Msg) → ((k : ℕ) → 1 ≤ k → k ≤ p.pieces → IsAddition p c (f k)) → AllByRecursion (IsAddition p c) (map f (range_with_len 1 p.pieces))
  all_ahead f each =
      all_map (IsAddition p c) f (range_with_len 1 p.pieces) (λ k i. let r = in_range k 1 p.pieces i in each k r.0 (omega (arith, r.1)))

  own_adds : (r : Rec) (ps : Pieces) → AllByRecursion (IsAddition p c) (splitting_own p c r ps).outs
  unfolding splitting_own
  own_adds r ps = by_test (is_in (first_of_visit r) ps.items) refl
    where
      by_test : (t : Bool) → is_in (first_of_visit r) ps.items ≡ t → AllByRecursion (IsAddition p c) (splitting_own p c r ps).outs
      by_test true is = rw is tt
      by_test false is = rw is (all_ahead (sent_to_mirror p c r) (λ k low high. one_mirror r k low high))

  line_adds : (deaths : List (Option ℕ)) (stamp : Stamp) (x : Line) (ps : Pieces) → AllByRecursion (IsAddition p c) (splitting_line p c deaths stamp x ps).outs
  unfolding splitting_line
  line_adds deaths stamp x ps = by_test (must_split_own p deaths stamp x) refl
    where
      by_test : (t : Bool) → must_split_own p deaths stamp x ≡ t → AllByRecursion (IsAddition p c) (splitting_line p c deaths stamp x ps).outs
      by_test true is = rw is (own_adds x.rec ps)
      by_test false is = rw is tt

  lines_add : (deaths : List (Option ℕ)) (stamp : Stamp) (xs : List Line) (ps : Pieces) → AllByRecursion (IsAddition p c) (each_in_turn (splitting_line p c deaths stamp) xs ps).outs
  lines_add deaths stamp [] ps = tt
  lines_add deaths stamp (x ∷ xs) ps =
      all_append (IsAddition p c) _ _ (line_adds deaths stamp x ps) (lines_add deaths stamp xs (splitting_line p c deaths stamp x ps).state)

  tick_adds : (deaths : List (Option ℕ)) (stamp : Stamp) (xs : List Line) (ps : Pieces) → AllByRecursion (IsAddition p c) (sparing p c deaths stamp xs ps).outs
  unfolding sparing
  tick_adds deaths stamp xs ps = lines_add deaths stamp xs _

  kills_add : (v : Instance) (x : PieceState) → AllByRecursion (IsAddition p c) (kills_if_of p c v x)
  unfolding kills_if_of
  kills_add v x = by_test (is_of v x) refl
    where
      by_test : (t : Bool) → is_of v x ≡ t → AllByRecursion (IsAddition p c) (kills_if_of p c v x)
      by_test true is = rw is (all_ahead (killed_ahead p c x) (λ k low high. one_kill x k low high))
      by_test false is = rw is tt

  stop_adds : (o : Option Instance) (ps : Pieces) → AllByRecursion (IsAddition p c) (killing_stopped p c o ps).outs
  unfolding killing_own
  stop_adds None ps = tt
  stop_adds (Some v) ps = all_flat_map (IsAddition p c) (kills_if_of p c v) ps.items (λ x i. kills_add v x)

  pub all_added : (deaths : List (Option ℕ)) (i : Input Msg) (lines : List Line) (ps : Pieces) → AllByRecursion (IsAddition p c) (adding p c deaths i lines ps).outs
  all_added deaths (Take stamp link m) lines ps = stop_adds (stopped_in_form p m) ps
  all_added deaths (Tick stamp) lines ps = tick_adds deaths stamp lines ps
