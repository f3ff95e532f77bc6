-- What a change puts out is a message in form on a link that leads from the cub, or an entry of a cub's own.
use Rattle.std.proofs.Common.{◌≡◌, ℕ, ◌+◌, ◌-◌, ◌<◌, ◌≤◌, ◌&&◌, ◌||◌, nat_lt, not, true, zero, suc, List, Option, map, drop, take, IsTrue, refl, subst, arith, ⊎_elim}
use Rattle.std.specs.List.{AllByRecursion, flat_map, range_with_len}
use Rattle.std.proofs.lemmas.Bool.{and_parts, ltb-true}
use Rattle.tiger_base.specs.declared.number.Stamp.{Stamp}
use Rattle.tiger_base.specs.declared.tenancy.Kind.{Kind}
use Rattle.tiger_base.specs.declared.tenancy.Kind.TheVariants.{Own, Backup}
use Rattle.tiger_base.specs.declared.tenancy.PieceState.{PieceState}
use Rattle.tiger_base.specs.Kinds.{is_own}
use Rattle.tiger_base.specs.Notes.{noted}
use Rattle.slot_plan.specs.declared.params.Params.{Params}
use Rattle.slot_plan.specs.Conditions.{IsPlan}
use Rattle.slot_plan.specs.Times.{cub_of, disk_of, disk_count}
use Rattle.mirror_pieces.specs.Pieces.{piece_disk}
use Rattle.node_kit.specs.Form.{is_place, is_piece}
use Rattle.node_kit.specs.Links.{IsOutLink}
use Rattle.node_kit.specs.Steps.{IsAllowed}
use Rattle.node_kit.specs.Ways.{way_ahead}
use Rattle.node_kit.proofs.Ways.{ahead_leads, to_disk_leads, to_viewers_leads, to_controller_leads}
use Rattle.partial_view.specs.declared.line.Line.{Line}
use Rattle.state_forward.specs.Forwards.{must_forward, is_next_due, is_batch_beat}
use Rattle.mirror_schedule.specs.Pieces.{pieces_of}
use Rattle.cub_rules.specs.declared.store.Store.{Store}
use Rattle.cub_rules.specs.State.{IsStoreOf, IsLineOf, IsPieceAt, IsSplitHere, visit_here}
use Rattle.cub_rules.specs.Ticks.{must_split, first_pieces, is_to_forward, must_read}
use Rattle.cub_changes.specs.Changes.{Change, did}
use Rattle.lists.specs.Elements.{In}
use Rattle.cub_changes.specs.Outputs.{Output, output, IsNear, ComesOf}
use Rattle.cub_changes.specs.Outputs.Output.{DescheduleSent, KillSent, StateSent, MirrorStateSent, PlacedSent, AskSent, BlockSent, PieceSent, HeartbeatSent}
use Rattle.cub_changes.proofs.Keeping.{IsSound, change_keeps}
use Rattle.lists.proofs.Each.{all_map, all_flat_map, all_in}
use Rattle.cub_changes.proofs.Splitting.{all_off}
use Rattle.cub_changes.proofs.Numbers.{in_range, tenancy_parts, place_from_parts, piece_parts, piece_from_parts, visit_in_form, state_in_form, disk_own, piece_disk_own}
use Rattle.cub_changes.proofs.Outputs.{forms_of}
use Rattle.cub_changes.proofs.Positions.{reached_small}
use Rattle.cub_changes.proofs.Stores.{Right}

-- what a record's kind says of where its visit is
own_here : (p : Params) (c visit : ℕ) (k : Kind) → is_own k ≡ true → cub_of p (visit_here k visit) ≡ c → cub_of p visit ≡ c
own_here p c visit Own e here = here
own_here p c visit Backup e here = absurd (cc)

backup_here : (p : Params) (c visit : ℕ) (k : Kind) → not (is_own k) ≡ true → cub_of p (visit_here k visit) ≡ c → cub_of p (visit + 1) ≡ c
backup_here p c visit Own e here = absurd (cc)
backup_here p c visit Backup e here = here

-- a record whose next state goes out has a next visit
next_inside : (p : Params) (stamp : Stamp) (x : Line) → is_to_forward p stamp x ≡ true → x.rec.visit < x.rec.tenancy.last
unfolding is_to_forward must_forward
next_inside p stamp x e =
    let must = (and_parts (not x.forwarded) _ e).1 in
    let early = is_next_due p x.rec (stamp.reading + p.min_lead) || (is_batch_beat p stamp.beat && is_next_due p x.rec (stamp.reading + p.max_lead)) in
    let first = and_parts (is_own x.rec.kind && nat_lt x.rec.visit x.rec.tenancy.last) early must in
    ltb-true _ _ (and_parts (is_own x.rec.kind) (nat_lt x.rec.visit x.rec.tenancy.last) first.0).1

-- a record whose block is asked for is an own one
read_own : (p : Params) (stamp : Stamp) (x : Line) → must_read p stamp x ≡ true → is_own x.rec.kind ≡ true
unfolding must_read
read_own p stamp x e = (and_parts (is_own x.rec.kind) _ (and_parts (is_own x.rec.kind && not x.asked) _ e).0).0

-- and one whose visit is split is a backup record
split_backup : (p : Params) (stamp : Stamp) (x : Line) → must_split p stamp x ≡ true → not (is_own x.rec.kind) ≡ true
unfolding must_split
split_backup p stamp x e = (and_parts (not (is_own x.rec.kind)) _ (and_parts (not (is_own x.rec.kind) && not x.split) _ e).0).0

module _ (p : Params) (c : ℕ) (plan : IsPlan p) where
  -- ---- the pieces of a line's visit
  module _ (x : Line) (own : IsLineOf p c x) where
    state : ℕ → PieceState
    state k = record { tenancy = x.rec.tenancy; visit = x.rec.visit; piece = k }

    piece_at : (k : ℕ) → 1 ≤ k → k ≤ p.pieces → IsTrue (is_piece p (state k))
    unfolding state
    piece_at k low high =
        piece_from_parts p (state k) (record { tenancy = own.in_form; begun = own.begun; not_over = own.not_over; low = low; high = high })

    later_pieces : AllByRecursion (λ y. IsTrue (is_piece p y) × (2 ≤ y.piece)) (drop 1 (pieces_of p x.rec))
    unfolding pieces_of state
    later_pieces = from p.pieces (omega arith)
      where
        from : (n : ℕ) → n ≤ p.pieces
            → AllByRecursion (λ y. IsTrue (is_piece p y) × (2 ≤ y.piece)) (drop 1 (map state (range_with_len 1 n)))
        from zero high = tt
        from (suc n) high =
            all_map (λ y. IsTrue (is_piece p y) × (2 ≤ y.piece)) state (range_with_len 2 n)
            (λ k i. let r = in_range k 2 n i in (piece_at k (omega (arith, r.0)) (omega (arith, r.1)), r.0))

    first_piece : not (is_own x.rec.kind) ≡ true → AllByRecursion (IsPieceAt p c) (take 1 (pieces_of p x.rec))
    unfolding pieces_of state
    first_piece backup = from p.pieces (omega arith)
      where
        from : (n : ℕ) → n ≤ p.pieces → AllByRecursion (IsPieceAt p c) (take 1 (map state (range_with_len 1 n)))
        from zero high = tt
        from (suc n) high =
            (record { in_form = piece_at 1 (omega arith) (omega arith); here = backup_here p c x.rec.visit x.rec.kind backup own.here }, tt)

  -- the first pieces of visits that are split are the cub's
  pub first_pieces_own : (stamp : Stamp) (back : Option ℕ) (xs : List Line) → AllByRecursion (IsLineOf p c) xs
      → AllByRecursion (IsPieceAt p c) (flat_map (first_pieces p stamp back) xs)
  first_pieces_own stamp back xs kept =
      all_flat_map (IsPieceAt p c) (first_pieces p stamp back) xs
      (λ x i.
      all_off (IsPieceAt p c) p stamp back x (take 1 (pieces_of p x.rec))
      (λ _ e. first_piece x (all_in (IsLineOf p c) x xs kept i) (split_backup p stamp x e)))

  module _ (here : c < p.cubs) (stamp : Stamp) where
    near_leads : (steps : ℕ) → IsNear steps → IsOutLink p c (way_ahead p c steps).0
    near_leads steps near = ⊎_elim
        (λ e. ahead_leads p c steps plan here (omega (arith, e)) (omega (arith, e)))
        (λ e. ahead_leads p c steps plan here (omega (arith, e)) (omega (arith, e)))
        near

    module _ (x : Change) (h : Store) (sound : IsSound p c stamp x) (kept : IsStoreOf p c h) where
      line_own : (l : Line) → In l h.view.lines → IsLineOf p c l
      line_own l i = all_in (IsLineOf p c) l h.view.lines kept.lines i

      line_form : (l : Line) → In l h.view.lines → IsTrue (is_place p l.rec.tenancy.slot.0 l.rec.visit)
      line_form l i = let own = line_own l i in visit_in_form p l.rec.tenancy l.rec.visit own.in_form own.not_over

      piece_form : (y : PieceState) → IsPieceAt p c y → IsTrue (is_place p y.tenancy.slot.0 y.visit)
      piece_form y own = let parts = piece_parts p y own.in_form in visit_in_form p y.tenancy y.visit parts.tenancy parts.not_over

      form_allowed : (o : Output) → ComesOf p c stamp x h o → IsAllowed noted p c (output p c stamp o)
      form_allowed (DescheduleSent steps v tag) comes =
          let k = comes.0 in
          let g = subst (IsSound p c stamp) comes.1 sound in
          let small = reached_small p stamp k.0 (k.1 + 1) plan g.1 comes.3 in
          (near_leads steps comes.4, rw comes.2 (place_from_parts p k.0.0 (k.1 + 1) g.0 (omega (arith, small))))
      form_allowed (KillSent steps y) comes =
          (ahead_leads p c steps plan here comes.2 (omega (arith, comes.3)), all_in (IsSplitHere p) y h.splits kept.splits comes.1)
      form_allowed (StateSent steps s) comes = ⊎_elim
          (λ f.
          let own = line_own f.0 f.2.0 in
          let more = next_inside p stamp f.0 f.2.1 in
          (near_leads steps f.4, rw f.3 (state_in_form p f.0.rec.tenancy (f.0.rec.visit + 1) own.in_form (omega (arith, more)))))
          (λ f.
          let form = subst (IsSound p c stamp) f.1 sound in
          (ahead_leads p c steps plan here (omega (arith, f.3)) (omega (arith, f.3)), rw f.2 (state_in_form p f.0 f.0.first form (tenancy_parts p f.0 form).1)))
          comes
      form_allowed (MirrorStateSent y) comes =
          let piece = all_in (λ (z : PieceState). IsTrue (is_piece p z) × (2 ≤ z.piece)) y (drop 1 (pieces_of p comes.0.rec)) (later_pieces comes.0 (line_own comes.0 comes.2.0)) comes.3 in
          let high = (piece_parts p y piece.0).high in
          (ahead_leads p c (y.piece - 1) plan here (omega (arith, piece.1)) (omega (arith, high)), piece.0)
      form_allowed HeartbeatSent comes = (ahead_leads p c 1 plan here (omega arith) (omega arith), refl)
      form_allowed (PlacedSent t) comes =
          (to_controller_leads p c here, ⊎_elim (λ e. subst (IsSound p c stamp) e sound) (λ e. subst (IsSound p c stamp) e sound) comes)
      form_allowed (AskSent disk want) comes = ⊎_elim
          (λ f.
          let own = line_own f.0 f.2.0 in
          let at = disk_own p c f.0.rec.visit plan (own_here p c f.0.rec.visit f.0.rec.kind (read_own p stamp f.0 f.2.1) own.here) in
          (rw f.4 (to_disk_leads p c (disk_of p f.0.rec.visit) at.0 at.1), rw f.3 (line_form f.0 f.2.0)))
          (λ f.
          let y = f.0 in
          let own = all_in (IsPieceAt p c) y h.unasked.items kept.unasked f.2 in
          let at = piece_disk_own p c y.visit y.piece plan own.here in
          (rw f.5 (to_disk_leads p c (piece_disk (disk_of p y.visit) y.piece (disk_count p)) at.0 at.1), rw f.4 (piece_form y own)))
          comes
      form_allowed (BlockSent want part) comes = (to_viewers_leads p c here, rw comes.3 (line_form comes.0 comes.2.0))
      form_allowed (PieceSent want part) comes =
          (to_viewers_leads p c here, rw comes.4 (piece_form comes.0 (all_in (IsPieceAt p c) comes.0 h.pieces.items kept.pieces comes.2)))
      form_allowed other comes = tt

    pub change_right : (x : Change) (h : Store) → IsSound p c stamp x → Right p c h (did p c stamp x h)
    change_right x h sound kept = record {
      keeps = change_keeps p c stamp x h sound kept;
      allowed = forms_of p c stamp (IsAllowed noted p c) x h (form_allowed x h sound kept);
    }
