-- What the single steps of a tick make of a view's lines, and which of them are silent of records, Puts and states.
use Rattle.std.proofs.Common.{◌≡◌, ℕ, List, [], ◌∷◌, ◌&&◌, Bool, true, false, not, refl, ap, sym, subst, ◌∙◌, ⊎_elim, inl, inr}
use Rattle.std.specs.Prelude.{◌⊎◌}
use Rattle.tiger_base.specs.declared.number.Stamp.{Stamp}
use Rattle.tiger_base.specs.declared.tenancy.PieceState.{PieceState}
use Rattle.tiger_base.specs.declared.tenancy.Rec.{Rec}
use Rattle.tiger_base.specs.declared.message.Msg.{Msg}
use Rattle.tiger_base.specs.declared.message.Msg.TheVariants as msg
use Rattle.slot_plan.specs.declared.params.Params.{Params}
use Rattle.node_kit.specs.declared.journal.What.TheVariants as what
use Rattle.node_kit.specs.declared.outbox.Out.{Out}
use Rattle.node_kit.specs.declared.outbox.Out.TheVariants as out
use Rattle.node_kit.specs.Steps.{Deed}
use Rattle.partial_view.specs.declared.line.Line.{Line}
use Rattle.partial_view.specs.declared.line.Flag.TheVariants as flag
use Rattle.partial_view.specs.Lines.{marked}
use Rattle.state_forward.specs.Forwards.{must_forward}
use Rattle.cub_rules.specs.declared.store.Store.{Store}
use Rattle.cub_rules.specs.Records.{with_piece_record}
use Rattle.cub_rules.specs.Ticks.{releasing, believing, with_each, splitting, is_to_forward, forward_line, forwarding, reading}
use Rattle.cub_changes.specs.Changes.{Change, did}
use Rattle.cub_changes.specs.Changes.Change.{PassOn, TakeRecord, Believe, PutStart, SendFirst, SendPlaced, SplitVisits, Forward, AskBlocks, AskPieces}
use Rattle.cub_changes.specs.Causes.Stage.{OnDeadman, OnService}
use Rattle.cub_changes.proofs.Closed.{IsClosed}
use Rattle.cub_changes.proofs.Fits.{IsOfDeadman, fits}
use Rattle.cub_changes.proofs.Outputs.{Puts, puts_closed, Tells, outs_of, tells_of}
use Rattle.cub_changes.proofs.Ticks.{IsOfEnd, end_steps, believing_by, splitting_from, reading_from, end_from, forwarding_from}
use Rattle.lists.specs.Elements.{In}
use Rattle.lists.proofs.Elements.{chosen, from_map}
use Rattle.proof_lives.proofs.Moves.{Moves, taken_out, IsQuiet, AreQuiet, MovesOn, moves_closed, moves_of, untaken}
pub use Rattle.proof_lives.proofs.Moves.{IsDueAt, served_due, split_same, ask_same, forward_same}
use Rattle.cub_changes.proofs.Chains.{release_is, forward_is}
use Rattle.cub_changes.proofs.Messages.{with_piece_of}
use Rattle.std.proofs.lemmas.Bool.{not-false}

-- ---- silent changes, and steps of silent changes

-- a change tells nothing of records, Puts, viewer states, deschedules and places
abbrev IsSilent : Change → Type 0
IsSilent (PassOn v k) = ⊥
IsSilent (TakeRecord r) = ⊥
IsSilent (PutStart t) = ⊥
IsSilent (SendFirst t) = ⊥
IsSilent (SendPlaced t) = ⊥
IsSilent Forward = ⊥
IsSilent other = Unit {0}

module _ (p : Params) (c : ℕ) (stamp : Stamp) where
  quiet_one : (x : Change) (h : Store) → IsSilent x → (o : Out Msg) → Tells p c stamp x h o → IsQuiet o
  quiet_one x h silent (out.Act (what.Took r)) t = subst IsSilent t silent
  quiet_one x h silent (out.Act (what.Put u)) t = subst IsSilent t silent
  quiet_one x h silent (out.Act other) t = tt
  quiet_one x h silent (out.Send link (msg.ViewerState s)) t = ⊎_elim (λ f. subst IsSilent f.1 silent) (λ f. subst IsSilent f.1 silent) t
  quiet_one x h silent (out.Send link (msg.Start redundant a)) t = t
  quiet_one x h silent (out.Send link (msg.Deschedule v tag)) t = subst IsSilent t.1 silent
  quiet_one x h silent (out.Send link (msg.Placed u)) t = ⊎_elim (λ e. subst IsSilent e silent) (λ e. subst IsSilent e silent) t
  quiet_one x h silent (out.Send link other) t = tt

  quiet_of : (x : Change) → IsSilent x → (h : Store) → AreQuiet (did p c stamp x h).outs
  quiet_of x silent h = outs_of p c stamp x h IsQuiet (quiet_one x h silent)

  abbrev Quiets : Store → Deed Msg Store → Type 0
  Quiets = Puts p c stamp IsQuiet

  closed : IsClosed Quiets
  closed = puts_closed p c stamp IsQuiet

  silent_deadman : (x : Change) → IsOfDeadman x → IsSilent x
  silent_deadman Believe f = tt
  silent_deadman other f = absurd f

  silent_end : (x : Change) → IsOfEnd x → IsSilent x
  silent_end (PassOn v k) e = e
  silent_end (TakeRecord r) e = e
  silent_end (PutStart t) e = e
  silent_end (SendFirst t) e = e
  silent_end (SendPlaced t) e = e
  silent_end Forward e = e
  silent_end other e = tt

  pub believing_quiet : (h : Store) → AreQuiet (believing p c stamp h).outs
  believing_quiet h =
      believing_by Quiets closed p c stamp h (λ x q cause. quiet_of x (silent_deadman x (fits p c stamp h OnDeadman x q cause)) q)

  pub splitting_quiet : (h : Store) → AreQuiet (splitting p c stamp h).outs
  splitting_quiet h = splitting_from Quiets closed p c stamp h (λ e. quiet_of SplitVisits tt h) (λ e x q. tt)

  pub end_quiet : (h : Store) → AreQuiet (end_steps p c stamp h).outs
  end_quiet h = end_from Quiets closed p c stamp h (λ x e q. quiet_of x (silent_end x e) q)

  -- what forwarding puts out
  pub forwarding_tells : (h : Store) (o : Out Msg) → In o (forwarding p c stamp h).outs → Tells p c stamp Forward h o
  forwarding_tells h o i = tells_of p c stamp Forward h o (subst (λ (d : Deed Msg Store). In o d.outs) (forward_is p c stamp h) i)

  pub forwarding_untaken : (h : Store) (r : Rec) → In (taken_out r) (forwarding p c stamp h).outs → ⊥
  forwarding_untaken h r i = let e : Forward ≡ TakeRecord r = forwarding_tells h (taken_out r) i in absurd (cc)

pub releasing_quiet : (p : Params) (stamp : Stamp) (h : Store) → AreQuiet (releasing p stamp h).outs
releasing_quiet p stamp h = subst (λ (d : Deed Msg Store). AreQuiet d.outs) (sym (release_is p 0 stamp h)) tt

-- ---- the lines

pub releasing_lines : (p : Params) (stamp : Stamp) (h : Store) → (releasing p stamp h).state.view.lines ≡ h.view.lines
releasing_lines p stamp h = ap (λ (d : Deed Msg Store). d.state.view.lines) (release_is p 0 stamp h)

pub same_with_pieces : (xs : List PieceState) (h : Store) → (with_each with_piece_record xs h).view.lines ≡ h.view.lines
same_with_pieces [] h = refl
same_with_pieces (x ∷ xs) h = same_with_pieces xs (with_piece_record x h)
    ∙ with_piece_of (λ (s : Store). s.view.lines ≡ h.view.lines) x h (λ _. refl) (λ _. refl)

module _ (p : Params) (c : ℕ) (May : Rec → Type 0) (stamp : Stamp) where
  pub splitting_moves : (h : Store) → Moves p c May h.view.lines (splitting p c stamp h)
  splitting_moves h =
      splitting_from (MovesOn p c May) (moves_closed p c May) p c stamp h (λ e. moves_of p c stamp May OnService h SplitVisits h (tt, e) (λ r m. absurd m))
      (λ e x q. untaken p c May q.view.lines (record { outs = []; state = with_piece_record x q })
      (with_piece_of (λ (s : Store). s.view.lines ≡ q.view.lines) x q (λ _. refl) (λ _. refl)) (λ r i. i))

  pub forwarding_moves : (h : Store) → Moves p c May h.view.lines (forwarding p c stamp h)
  forwarding_moves h =
      forwarding_from (MovesOn p c May) (moves_closed p c May) p c stamp h (moves_of p c stamp May OnService h Forward h tt (λ r m. absurd m))

  pub reading_moves : (h : Store) → Moves p c May h.view.lines (reading p stamp h)
  reading_moves h =
      reading_from (MovesOn p c May) (moves_closed p c May) p c stamp h (λ q. moves_of p c stamp May OnService q AskBlocks q tt (λ r m. absurd m))
      (λ q. moves_of p c stamp May OnService q AskPieces q tt (λ r m. absurd m))

-- ---- whoever must be forwarded is marked
abbrev pub IsSettled : Params → Stamp → Line → Type 0
IsSettled p stamp y = (y.forwarded ≡ true) ⊎ (must_forward p stamp y.rec ≡ false)

pub and_false : (a b : Bool) → a && b ≡ false → (a ≡ false) ⊎ (b ≡ false)
and_false true b e = inr e
and_false false b e = inl refl

settled_line : (p : Params) (stamp : Stamp) (x : Line) → IsSettled p stamp (forward_line p stamp x)
unfolding is_to_forward
settled_line p stamp x =
    chosen (λ (y : Line). IsSettled p stamp y) (is_to_forward p stamp x) (marked flag.Forwarded x) x (λ _. inl refl)
    (λ e. ⊎_elim (λ f. inl (not-false x.forwarded f)) (λ f. inr f) (and_false (not x.forwarded) (must_forward p stamp x.rec) e))

pub forwarding_settles : (p : Params) (c : ℕ) (stamp : Stamp) (h : Store) (y : Line) → In y (forwarding p c stamp h).state.view.lines → IsSettled p stamp y
forwarding_settles p c stamp h y i =
    let r = from_map (forward_line p stamp) y h.view.lines (subst (λ (d : Deed Msg Store). In y d.state.view.lines) (forward_is p c stamp h) i) in
    subst (λ (z : Line). IsSettled p stamp z) (sym r.2) (settled_line p stamp r.0)
