-- Which lines are served, and which are dropped.
use Rattle.std.proofs.Common.{◌≡◌, ℕ, true, false, cond, not, Option, find, List, [], ◌∷◌, ◌++◌, map, append_assoc, refl, ap, ◌∙◌}
use Rattle.std.specs.List.{flat_map, filter}
use Rattle.tiger_base.specs.declared.number.Stamp.{Stamp}
use Rattle.tiger_base.specs.declared.message.Msg.{Msg}
use Rattle.slot_plan.specs.declared.params.Params.{Params}
use Rattle.node_kit.specs.declared.outbox.Out.{Out}
use Rattle.partial_view.specs.declared.line.Line.{Line}
use Rattle.partial_view.specs.Views.{Seen}
use Rattle.partial_view.specs.Work.{is_whole, is_backup, is_between, first_between}
use Rattle.partial_view.proofs.Calls.{record_of}
use Rattle.mirror_schedule.specs.Pieces.{Pieces}
use Rattle.node_kit.specs.Deeds.{Did}
use Rattle.cub_rules.specs.declared.store.Store.{Store}
use Rattle.cub_rules.specs.Records.{pieces_but, dropped}
use Rattle.cub_rules.specs.Ticks.{is_served, is_past, serve_outs, serving, serving_blocks, dropping_backups, serving_pieces, piece_outs, leaves_by}
use Rattle.cub_tick.proofs.Working.{from_start, find_same}

-- what goes out for a line whose backup record may be dropped
abbrev pub past_outs : Params → Stamp → Line → List (Out Msg)
past_outs p stamp x = cond (is_past p stamp x) (dropped x ∷ []) []

-- the first line that is served, and the first one that is dropped
pub served_first : (p : Params) (stamp : Stamp) (now : Seen) → now.params ≡ p → {o : Option Line} → o ≡ first_between now.params is_whole 0 stamp.reading now.lines → o ≡ find (is_served p stamp) now.lines
unfolding first_between is_served
served_first p stamp now params e =
    e ∙ (ap (λ (q : Params). find (is_between q is_whole 0 stamp.reading) now.lines) params ∙ find_same (is_between p is_whole 0 stamp.reading) (is_served p stamp) (from_start p is_whole stamp.reading) now.lines)

pub past_first : (p : Params) (stamp : Stamp) (now : Seen) → now.params ≡ p → {o : Option Line} → o ≡ first_between now.params is_backup 0 stamp.reading now.lines → o ≡ find (is_past p stamp) now.lines
unfolding first_between is_past
past_first p stamp now params e =
    e ∙ (ap (λ (q : Params). find (is_between q is_backup 0 stamp.reading) now.lines) params ∙ find_same (is_between p is_backup 0 stamp.reading) (is_past p stamp) (from_start p is_backup stamp.reading) now.lines)

-- what went out for those that are dropped
pub gone_out : (p : Params) (stamp : Stamp) (lines : List Line) → flat_map (past_outs p stamp) lines ≡ map dropped (filter (is_past p stamp) lines)
gone_out p stamp [] = refl
gone_out p stamp (x ∷ xs) =
    elim (is_past p stamp x) as (λ t. cond t (dropped x ∷ []) [] ++ flat_map (past_outs p stamp) xs ≡ map dropped (cond t (x ∷ filter (is_past p stamp) xs) (filter (is_past p stamp) xs))) [
      | true ↦ ap (λ (zs : List (Out Msg)). dropped x ∷ zs) (gone_out p stamp xs)
      | false ↦ gone_out p stamp xs
    ]

-- the serving of blocks, the dropping of backup records, and the serving of pieces
pub serve_all : (p : Params) (cub : ℕ) (stamp : Stamp) (old now : Store) (outs outs_one outs_two outs_now : List (Out Msg)) (one two : Seen) (pieces unasked : Pieces)
    → one ≡ record old.view { lines = filter (λ x. not (is_served p stamp x)) old.view.lines } → outs_one ≡ outs ++ flat_map (serve_outs p cub stamp old.comeback old.parts) old.view.lines
    → two ≡ record one { lines = filter (λ x. not (is_past p stamp x)) one.lines } → outs_two ≡ outs_one ++ map dropped (filter (is_past p stamp) one.lines)
    → pieces ≡ pieces_but (leaves_by p stamp.reading) old.pieces
    → outs_now ≡ outs_two ++ flat_map (piece_outs p cub stamp old.parts) (filter (leaves_by p stamp.reading) old.pieces.items)
    → unasked ≡ pieces_but (leaves_by p stamp.reading) old.unasked
    → now ≡ record old { view = two; pieces = pieces; unasked = unasked } → Did (serving p cub stamp old) outs outs_now now
unfolding serving serving_blocks dropping_backups serving_pieces
serve_all p cub stamp old now outs outs_one outs_two outs_now one two pieces unasked a b c d e f g n = (
  f ∙ (ap (λ (zs : List (Out Msg)). zs ++ flat_map (piece_outs p cub stamp old.parts) (filter (leaves_by p stamp.reading) old.pieces.items)) (d ∙ ap (λ (zs : List (Out Msg)). zs ++ map dropped (filter (is_past p stamp) one.lines)) b ∙ ap (λ (s : Seen). (outs ++ flat_map (serve_outs p cub stamp old.comeback old.parts) old.view.lines) ++ map dropped (filter (is_past p stamp) s.lines)) a)
      ∙ (append_assoc (outs ++ flat_map (serve_outs p cub stamp old.comeback old.parts) old.view.lines) _ _ ∙ append_assoc outs (flat_map (serve_outs p cub stamp old.comeback old.parts) old.view.lines) _)),
  n ∙ (ap (λ (s : Seen). record old { view = s; pieces = pieces; unasked = unasked }) (c ∙ ap (λ (s : Seen). record_of s.params (filter (λ x. not (is_past p stamp x)) s.lines)) a)
      ∙ (ap (λ (q : Pieces). record old { view = record_of old.view.params (filter (λ x. not (is_past p stamp x)) (filter (λ x. not (is_served p stamp x)) old.view.lines)); pieces = q; unasked = unasked }) e
      ∙ ap (λ (q : Pieces). record old { view = record_of old.view.params (filter (λ x. not (is_past p stamp x)) (filter (λ x. not (is_served p stamp x)) old.view.lines)); pieces = pieces_but (leaves_by p stamp.reading) old.pieces; unasked = q }) g)),
)
