-- What a cub sends the viewers in a tick: each part is of a record that it serves, and each such record's part is
-- sent once.
use Rattle.std.proofs.Common.{◌≡◌, ℕ, zero, suc, ◌≤◌, List, [], ◌∷◌, ◌++◌, map, filter, Bool, true, false, Option, Some, None, refl, sym, ap, subst, ◌∙◌, arith, ⊎_elim, inl, inr}
use Rattle.std.specs.Prelude.{◌&&◌, ◌==◌}
use Rattle.std.specs.List.{AllByRecursion, flat_map}
use Rattle.std.proofs.lemmas.Bool.{ne_eqb}
use Rattle.tiger_base.specs.declared.number.LinkNo.{LinkNo}
use Rattle.tiger_base.specs.declared.number.Stamp.{Stamp}
use Rattle.tiger_base.specs.declared.tenancy.Kind.{Kind}
use Rattle.tiger_base.specs.declared.tenancy.Kind.TheVariants.{Own, Backup}
use Rattle.tiger_base.specs.declared.tenancy.PieceState.{PieceState}
use Rattle.tiger_base.specs.declared.tenancy.Rec.{Rec}
use Rattle.tiger_base.specs.declared.tenancy.Tenancy.{Tenancy}
use Rattle.tiger_base.specs.declared.tenancy.Want.{Want}
use Rattle.tiger_base.specs.Span.{LibraryPart}
use Rattle.tiger_base.specs.declared.message.Msg.{Msg}
use Rattle.tiger_base.specs.declared.message.Msg.TheVariants as msg
use Rattle.tiger_base.specs.Kinds.{is_own}
use Rattle.tiger_base.specs.Records.{own_of, want_of, want_of_piece, same_want}
use Rattle.slot_plan.specs.declared.params.Params.{Params}
use Rattle.node_kit.specs.declared.outbox.Out.{Out}
use Rattle.node_kit.specs.declared.outbox.Out.TheVariants as out
use Rattle.node_kit.specs.Deeds.{then_do}
use Rattle.node_kit.specs.Steps.{Deed}
use Rattle.node_kit.specs.Ways.{way_to_viewers}
use Rattle.partial_view.specs.declared.line.Line.{Line}
use Rattle.cub_rules.specs.declared.store.Store.{Store}
use Rattle.cub_rules.specs.declared.store.StoredPart.{StoredPart}
use Rattle.cub_rules.specs.Records.{stored_for, dropped}
use Rattle.cub_rules.specs.Ticks.{is_served, is_past, leaves_by, sent_whole, serve_outs, sent_piece, piece_outs, serving, served_whole}
use Rattle.cub_changes.specs.Changes.{Change, did}
use Rattle.cub_changes.specs.Changes.Change.{ServeBlocks, DropBackups, ServePieces}
use Rattle.cub_changes.specs.Outputs.{Output, output, ComesOf}
use Rattle.cub_changes.specs.Outputs.Output.{BlockSent, PieceSent}
use Rattle.lists.proofs.Each.{all_append, all_if}
use Rattle.cub_changes.proofs.Chains.{serve_is}
use Rattle.cub_changes.proofs.Outputs.{forms_of}
use Rattle.lists.specs.Elements.{In}
use Rattle.lists.proofs.Elements.{in_left, in_right, in_filter, from_filter, in_flat_map}
use Rattle.proof_journals.proofs.Ones.{IsOne, one_append, none_by}
use Rattle.proof_parts.proofs.Found.{one_want}
use Rattle.proof_facts.specs.Pieces.{piece, want, part_sent, HasOwn, IsToServe}
use Rattle.proof_parcels.proofs.Apart.{Differ, IsOnce, apart_filter}
use Rattle.proof_parcels.proofs.AskOuts.{one_alone, one_if, IsFor, one_of_records}
use Rattle.cub_rules.specs.declared.comeback.Comeback.{Comeback}
use Rattle.cub_rules.specs.Comebacks.{serves_at}
use Rattle.slot_plan.specs.Keys.{due_of}
use Rattle.partial_view.specs.Lines.{key_of}

-- an own record by its kind
pub own_rec : (r : Rec) → is_own r.kind ≡ true → r ≡ own_of r.tenancy r.visit
own_rec r e = by_kind r.kind refl e
  where
    by_kind : (k : Kind) → r.kind ≡ k → is_own k ≡ true → r ≡ own_of r.tenancy r.visit
    by_kind Own q f = ap (λ (k : Kind). record { tenancy = r.tenancy; visit = r.visit; kind = k }) q
    by_kind Backup q f = absurd (cc)

-- an output sends what is wanted
abbrev pub sends : Want → Out Msg → Bool
sends w (out.Send link (msg.Whole v sent part)) = same_want w v
sends w (out.Send link (msg.Piece v sent part)) = same_want w v
sends w other = false

-- what goes out on a link is the part of a record that is to be served
pub record IsServeOf (p : Params) (c : ℕ) (stamp : Stamp) (h : Store) (link : LinkNo) (w : Want) (sent : ℕ)
    (part : LibraryPart) : Type 0 where
  pub tenancy : Tenancy
  pub serves : IsToServe p stamp h tenancy w.visit w.piece
  pub same : w ≡ want tenancy w.visit w.piece
  pub stored : stored_for w h.parts ≡ Some part
  pub named : sent ≡ stamp.beat
  pub way : link ≡ way_to_viewers p c

own_if_served : (p : Params) (stamp : Stamp) (x : Line) → is_served p stamp x ≡ true → is_own x.rec.kind ≡ true
unfolding is_served
own_if_served p stamp x e = by_own (is_own x.rec.kind) _ e
  where
    by_own : (a b : Bool) → (a && b) ≡ true → a ≡ true
    by_own true b f = refl
    by_own false b f = absurd (cc)

-- ---- what goes out is of a record

module _ (p : Params) (c : ℕ) (stamp : Stamp) (h : Store) where
  -- what goes to the viewers is a whole block of an own record, or a piece of a piece record
  abbrev pub IsOfRecord : Out Msg → Type 0
  IsOfRecord (out.Send link (msg.Whole w sent part)) = (w.piece ≡ 0) × IsServeOf p c stamp h link w sent part
  IsOfRecord (out.Send link (msg.Piece w sent part)) = (1 ≤ w.piece) × IsServeOf p c stamp h link w sent part
  IsOfRecord other = Unit {0}

  -- in serving, in which pieces and parts are those that were there when it began, and so is whether the cub came back
  record IsInServing (x : Change) (q : Store) : Type 0 where
    lines : x ≡ ServeBlocks → q.view.lines ≡ h.view.lines
    pieces : q.pieces.items ≡ h.pieces.items
    parts : q.parts ≡ h.parts
    comeback : q.comeback ≡ h.comeback

  of_record : ((x : PieceState) → In x h.pieces.items → 1 ≤ x.piece) → (x : Change) (q : Store) → IsInServing x q
      → AllByRecursion IsOfRecord (did p c stamp x q).outs
  of_record low x q s = forms_of p c stamp IsOfRecord x q form
    where
      stored : (w v : Want) (part : LibraryPart) → w ≡ v → stored_for w q.parts ≡ Some part → stored_for v h.parts ≡ Some part
      stored w v part e f =
          ap (λ (z : Want). stored_for z h.parts) (sym e) ∙ (ap (λ (ps : List StoredPart). stored_for w ps) (sym s.parts) ∙ f)

      form : (o : Output) → ComesOf p c stamp x q o → IsOfRecord (output p c stamp o)
      form (BlockSent w part) comes =
          let l : Line = comes.0 in
          let is : w ≡ want_of l.rec = comes.3 in
          let there : In l h.view.lines =
          subst (λ (ls : List Line). In l ls) (s.lines comes.1) comes.2.0 in
          let serves : serves_at h.comeback (due_of p (key_of l)) ≡ true =
          subst (λ (o : Option Comeback). serves_at o (due_of p (key_of l)) ≡ true) s.comeback comes.5 in (
            ap (λ (z : Want). z.piece) is,
            subst (λ (z : Want). IsServeOf p c stamp h (way_to_viewers p c) z stamp.beat part) (sym is) (record {
              tenancy = l.rec.tenancy;
              serves = inl (refl, l, (there, own_rec l.rec (own_if_served p stamp l comes.2.1)), comes.2.1, serves);
              same = refl;
              stored = stored w (want_of l.rec) part is comes.4;
              named = refl;
              way = refl;
            }),
          )
      form (PieceSent w part) comes =
          let y : PieceState = comes.0 in
          let is : w ≡ want_of_piece y = comes.4 in
          let there : In y h.pieces.items =
          subst (λ (ys : List PieceState). In y ys) s.pieces comes.2 in (
            subst (λ (z : Want). 1 ≤ z.piece) (sym is) (low y there),
            subst (λ (z : Want). IsServeOf p c stamp h (way_to_viewers p c) z stamp.beat part) (sym is) (record {
              tenancy = y.tenancy;
              serves = inr (low y there, there, comes.3);
              same = refl;
              stored = stored w (want_of_piece y) part is comes.5;
              named = refl;
              way = refl;
            }),
          )
      form other comes = tt

  -- each part that goes out is of a record, if no piece record has the number 0
  pub serving_of_records : ((x : PieceState) → In x h.pieces.items → 1 ≤ x.piece)
      → AllByRecursion IsOfRecord (serving p c stamp h).outs
  serving_of_records low =
      let blocks : Deed Msg Store = did p c stamp ServeBlocks h in
      let backups : Deed Msg Store = did p c stamp DropBackups blocks.state in
      subst (λ (d : Deed Msg Store). AllByRecursion IsOfRecord d.outs) (sym (serve_is p c stamp h))
      (all_append IsOfRecord blocks.outs _
      (of_record low ServeBlocks h (record { lines = λ _. refl; pieces = refl; parts = refl; comeback = refl }))
      (all_append IsOfRecord backups.outs (did p c stamp ServePieces backups.state).outs
      (of_record low DropBackups blocks.state (record { lines = λ e. absurd (cc); pieces = refl; parts = refl; comeback = refl }))
      (of_record low ServePieces backups.state (record { lines = λ e. absurd (cc); pieces = refl; parts = refl; comeback = refl }))))

  -- the other way round: what is to be served is sent, if its part is stored
  line_serves : (t : Tenancy) (n : ℕ) (x : Line) (part : LibraryPart) → HasOwn h t n x → is_served p stamp x ≡ true
      → serves_at h.comeback (due_of p (key_of x)) ≡ true → stored_for (want t n 0) h.parts ≡ Some part
      → In (out.Send (way_to_viewers p c) (msg.Whole (want t n 0) stamp.beat part)) (serve_outs p c stamp h.comeback h.parts x)
  line_serves t n x part own served serves stored =
      let is : want_of x.rec ≡ want t n 0 = ap want_of own.1 in
      let found : stored_for (want_of x.rec) h.parts ≡ Some part = ap (λ (z : Want). stored_for z h.parts) is
      ∙ stored in
      let sent : List (Out Msg) = sent_whole p c stamp (want_of x.rec) (stored_for (want_of x.rec) h.parts) in
      let there : In (out.Send (way_to_viewers p c) (msg.Whole (want_of x.rec) stamp.beat part)) sent =
      subst (λ (s : Option LibraryPart). In (out.Send (way_to_viewers p c) (msg.Whole (want_of x.rec) stamp.beat
      part)) (sent_whole p c stamp (want_of x.rec) s)) (sym found) (inl refl) in
      let both : In (out.Send (way_to_viewers p c) (msg.Whole (want_of x.rec) stamp.beat part))
      (serve_outs p c stamp h.comeback h.parts x) =
      (rw (served, serves) (in_left _ sent (dropped x ∷ []) there)) in
      subst (λ (z : Want). In (out.Send (way_to_viewers p c) (msg.Whole z stamp.beat part))
      (serve_outs p c stamp h.comeback h.parts x)) is both

  -- what goes out in the three changes goes out in serving
  in_serving : (o : Out Msg) → In o (then_do (did p c stamp ServeBlocks) (then_do (did p c stamp DropBackups) (did p c stamp ServePieces)) h).outs
      → In o (serving p c stamp h).outs
  in_serving o i = subst (λ (d : Deed Msg Store). In o d.outs) (sym (serve_is p c stamp h)) i

  pub serves_out : (t : Tenancy) (n j : ℕ) (part : LibraryPart) → IsToServe p stamp h t n j
      → stored_for (want t n j) h.parts ≡ Some part
      → In (out.Send (way_to_viewers p c) (part_sent (want t n j) stamp.beat part)) (serving p c stamp h).outs
  serves_out t n zero part to_serve stored = ⊎_elim
      (λ l. in_serving _ (in_left _ (flat_map (serve_outs p c stamp h.comeback h.parts) h.view.lines) _
      (in_flat_map (serve_outs p c stamp h.comeback h.parts) (out.Send (way_to_viewers p c)
      (msg.Whole (want t n 0) stamp.beat part)) l.1 h.view.lines l.2.0 (line_serves t n l.1 part l.2 l.3 l.4 stored))))
      (λ l. let low = l.0 in absurd (omega arith))
      to_serve
  serves_out t n (suc k) part to_serve stored = ⊎_elim
      (λ l. let none = l.0 in absurd (omega arith))
      (λ l.
      let x : PieceState = piece t n (suc k) in
      let late : List PieceState = filter (leaves_by p stamp.reading) h.pieces.items in
      let there : In (out.Send (way_to_viewers p c) (msg.Piece (want t n (suc k)) stamp.beat part))
      (piece_outs p c stamp h.parts x) =
      subst (λ (s : Option LibraryPart). In (out.Send (way_to_viewers p c) (msg.Piece (want t n (suc k)) stamp.beat
      part)) (sent_piece p c stamp (want t n (suc k)) s)) (sym stored) (inl refl) in
      let left : List Line = (did p c stamp ServeBlocks h).state.view.lines in
      let found = in_serving (out.Send (way_to_viewers p c) (msg.Piece (want t n (suc k)) stamp.beat part))
      (in_right _ (flat_map (serve_outs p c stamp h.comeback h.parts) h.view.lines) _
      (in_right _ (map dropped (filter (is_past p stamp) left)) (flat_map (piece_outs p c stamp h.parts) late)
      (in_flat_map (piece_outs p c stamp h.parts) (out.Send (way_to_viewers p c)
      (msg.Piece (want t n (suc k)) stamp.beat part)) x late (in_filter (leaves_by p stamp.reading) x
      h.pieces.items l.1 l.2) there))) in
      let f : (suc k == 0) ≡ false = ne_eqb _ _ (λ e. absurd (omega arith)) in
      rw f found)
      to_serve

  -- ---- once

  -- what is sent of what is stored, or not
  one_whole : (w v : Want) (s : Option LibraryPart)
      → IsOne (sends w) (sent_whole p c stamp v s) × AllByRecursion (IsFor (sends w) w v) (sent_whole p c stamp v s)
  one_whole w v None = (tt, tt)
  one_whole w v (Some part) =
      (one_alone (sends w) (out.Send (way_to_viewers p c) (msg.Whole v stamp.beat part)), (one_want w v, tt))

  one_piece : (w v : Want) (s : Option LibraryPart)
      → IsOne (sends w) (sent_piece p c stamp v s) × AllByRecursion (IsFor (sends w) w v) (sent_piece p c stamp v s)
  one_piece w v None = (tt, tt)
  one_piece w v (Some part) =
      (one_alone (sends w) (out.Send (way_to_viewers p c) (msg.Piece v stamp.beat part)), (one_want w v, tt))

  drops_none : (w : Want) (some : List Line) → AllByRecursion (λ o. sends w o ≡ false) (map dropped some)
  drops_none w [] = tt
  drops_none w (x ∷ xs) = (refl, drops_none w xs)

  -- a piece record stands whose time to leave has come
  abbrev pub Leaves : PieceState → Type 0
  Leaves x = In x h.pieces.items × (leaves_by p stamp.reading x ≡ true)

  -- one thing is sent once, if for one piece of a visit there is one record
  pub serve_once : (w : Want) → IsOnce h → ((x : PieceState) → In x h.pieces.items → 1 ≤ x.piece)
      → ((t u : Tenancy) (n j : ℕ) → Leaves (piece t n j) → Leaves (piece u n j) → u.slot.0 ≡ t.slot.0 → u ≡ t)
      → IsOne (sends w) (serving p c stamp h).outs
  serve_once w once low one_record =
      let leaves : PieceState → Bool = leaves_by p stamp.reading in
      let late : List PieceState = filter leaves h.pieces.items in
      let left : List Line = filter (is_past p stamp) (did p c stamp ServeBlocks h).state.view.lines in
      let whole : Line → List (Out Msg) = λ x. sent_whole p c stamp (want_of x.rec) (stored_for (want_of x.rec) h.parts) in
      let served : Line → List (Out Msg) = served_whole p c stamp h.comeback h.parts in
      let serves : Line → Bool = λ x. serves_at h.comeback (due_of p (key_of x)) in
      subst (λ (d : Deed Msg Store). IsOne (sends w) d.outs) (sym (serve_is p c stamp h))
      (one_of_records (sends w) w h.view.lines late (map dropped left) (serve_outs p c stamp h.comeback h.parts) (piece_outs p c stamp h.parts)
      once.lines_apart (apart_filter Differ leaves h.pieces.items once.pieces_apart)
      (λ x. one_if (sends w) (is_served p stamp x) (served x ++ dropped x ∷ [])
      (one_append (sends w) (served x) (dropped x ∷ []) (one_if (sends w) (serves x) (whole x) (one_whole w (want_of x.rec) (stored_for (want_of x.rec) h.parts)).0)
      (one_alone (sends w) (dropped x)) (λ a b i j t s. none_by (sends w) (dropped x ∷ []) (refl, tt) b j s)))
      (λ x. (one_piece w (want_of_piece x) (stored_for (want_of_piece x) h.parts)).0)
      (none_by (sends w) (map dropped left) (drops_none w left))
      (λ x. all_if (IsFor (sends w) w (want_of x.rec)) (is_served p stamp x) (served x ++ dropped x ∷ [])
      (λ _. all_append (IsFor (sends w) w (want_of x.rec)) (served x) (dropped x ∷ [])
      (all_if (IsFor (sends w) w (want_of x.rec)) (serves x) (whole x)
      (λ _. (one_whole w (want_of x.rec) (stored_for (want_of x.rec) h.parts)).1)) ((λ t. absurd (cc)), tt)))
      (λ x. (one_piece w (want_of_piece x) (stored_for (want_of_piece x) h.parts)).1)
      (λ x i. low x (from_filter leaves x h.pieces.items i).0)
      (λ x y a b i j k l visits numbers slots.
      let f = from_filter leaves x h.pieces.items i in
      let g = from_filter leaves y h.pieces.items j in
      one_record x.tenancy y.tenancy x.visit x.piece f
      (subst (λ (n : ℕ). Leaves (piece y.tenancy n x.piece)) visits
      (subst (λ (m : ℕ). Leaves (piece y.tenancy y.visit m)) numbers g)) slots))
