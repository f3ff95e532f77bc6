-- Mirror states go out at a split alone, one for each piece behind the first, to as many cubs ahead.
use Rattle.std.proofs.Common.{◌≡◌, ℕ, zero, suc, ◌+◌, ◌-◌, ◌*◌, ◌<◌, ◌≤◌, max, List, map, drop, true, Option, None, refl, sym, ap, subst, ◌∙◌, arith, ⊎_elim, inl, inr, eq-or-lt_of_le, false}
use Rattle.std.specs.List.{range_with_len, AllByRecursion}
use Rattle.tiger_base.specs.declared.number.LinkNo.{LinkNo}
use Rattle.tiger_base.specs.declared.number.Stamp.{Stamp}
use Rattle.tiger_base.specs.declared.tenancy.PieceState.{PieceState}
use Rattle.tiger_base.specs.declared.tenancy.Rec.{Rec}
use Rattle.tiger_base.specs.declared.tenancy.Tenancy.{Tenancy}
use Rattle.tiger_base.specs.declared.message.Msg.{Msg}
use Rattle.tiger_base.specs.declared.message.Msg.TheVariants as msg
use Rattle.tiger_base.specs.Records.{backup_of}
use Rattle.slot_plan.specs.declared.params.Params.{Params}
use Rattle.partial_view.specs.declared.line.Line.{Line}
use Rattle.mirror_schedule.specs.Pieces.{pieces_of}
use Rattle.node_kit.specs.declared.outbox.Out.{Out}
use Rattle.node_kit.specs.declared.outbox.Out.TheVariants as out
use Rattle.node_kit.specs.Deeds.{then_do}
use Rattle.node_kit.specs.Steps.{Deed, Input, stamp_of}
use Rattle.node_kit.specs.Steps.Input.{Take, Tick}
use Rattle.node_kit.specs.Ways.{way_ahead}
use Rattle.cub_rules.specs.declared.store.Store.{Store}
use Rattle.cub_rules.specs.Messages.{taking}
use Rattle.cub_rules.specs.Ticks.{releasing, believing, must_split, sent_ahead, split_outs, splitting, forwarding, ticking}
use Rattle.cub_changes.specs.Changes.{Change, did}
use Rattle.cub_changes.specs.Changes.Change.{SplitVisits, Forward}
use Rattle.cub_changes.specs.Causes.Stage.{OnMessage, OnRelease, OnDeadman, OnInsertion}
use Rattle.cub_changes.specs.Causes.{Stage, IsService, Cause}
use Rattle.cub_changes.specs.Outputs.{Output, output, ComesOf}
use Rattle.cub_changes.specs.Outputs.Output.{MirrorStateSent}
use Rattle.cub_changes.proofs.Chains.{split_is, service_out}
use Rattle.cub_changes.proofs.Closed.{OfEach, then_by}
use Rattle.cub_changes.proofs.Messages.{taking_by}
use Rattle.cub_changes.proofs.Outputs.{forms_of, Puts, puts_closed}
use Rattle.cub_changes.proofs.Puts.{inserting_by}
use Rattle.cub_changes.proofs.Ticks.{end_steps, IsOfEnd, splitting_from, forwarding_from, end_from, releasing_by, believing_by, tick_chain}
use Rattle.proof_lives.specs.Lives.{Lives, cut_in, cut_outs, store_at, deed_of, outs_in}
use Rattle.lists.specs.Elements.{In}
use Rattle.proof_lives.specs.Facts.{DidAt}
use Rattle.lists.proofs.Elements.{in_left, in_map, from_map, in_flat_map}
use Rattle.lists.proofs.Each.{all_in}
use Rattle.proof_facts.specs.Pieces.{before_splitting, piece, stamp_of as made_stamp, SplitAt, MirrorSentAt}
use Rattle.proof_lives.proofs.Beside.{outs_of_release, outs_of_belief, outs_of_insertion, inserted_go, tick_outs}
use Rattle.proof_lives.proofs.Cuts.{was_put_out, goes_whole}
use Rattle.proof_lives.proofs.States.{from_tick}
use Rattle.proof_lives.proofs.Ticking.{inserted_out}
use Rattle.proof_splits.proofs.PieceMoves.{backup_line}
use Rattle.cub_rules.specs.Comebacks.{is_handed_back}
use Rattle.proof_splits.proofs.Handing.{in_split_off}

-- ---- the pieces of a record behind the first

from_range : (k a n : ℕ) → In k (range_with_len a n) → (a ≤ k) × (k < a + n)
from_range k a zero i = absurd i
from_range k a (suc n) i =
    ⊎_elim (λ (e : k ≡ a). (omega arith, omega arith))
    (λ e. let r = from_range k (a + 1) n e in let r0 = r.0 in let r1 = r.1 in (omega arith, omega arith)) i

-- a number between the ends of a range is in it
pub in_range : (k a n : ℕ) → a ≤ k → k < a + n → In k (range_with_len a n)
in_range k a zero low high = absurd (omega arith)
in_range k a (suc n) low high =
    ⊎_elim (λ (e : a ≡ k). inl (sym e)) (λ (l : a < k). inr (in_range k (a + 1) n (omega arith) (omega arith)))
    (eq-or-lt_of_le low)

record IsLater (p : Params) (r : Rec) (x : PieceState) : Type 0 where
  number : ℕ
  low : 2 ≤ number
  high : number ≤ p.pieces
  is : x ≡ piece r.tenancy r.visit number

later_piece : (p : Params) (r : Rec) (x : PieceState) → In x (drop 1 (pieces_of p r)) → IsLater p r x
unfolding pieces_of
later_piece p r x i = rest_of p.pieces refl i
  where
    rest_of : (n : ℕ) → p.pieces ≡ n → In x (drop 1 (map (λ (k : ℕ). piece r.tenancy r.visit k) (range_with_len 1 n)))
        → IsLater p r x
    rest_of zero e i = absurd i
    rest_of (suc n) e i =
        let o = from_map (λ (k : ℕ). piece r.tenancy r.visit k) x (range_with_len (1 + 1) n) i in
        let f = from_range o.0 (1 + 1) n o.1 in
        let low = f.0 in
        let high = f.1 in
        record { number = o.0; low = omega arith; high = omega arith; is = o.2 }

later_there : (p : Params) (r : Rec) (k : ℕ) → 2 ≤ k → k ≤ p.pieces
    → In (piece r.tenancy r.visit k) (drop 1 (pieces_of p r))
unfolding pieces_of
later_there p r k low high = rest_of p.pieces high
  where
    rest_of : (n : ℕ) → k ≤ n → In (piece r.tenancy r.visit k)
        (drop 1 (map (λ (j : ℕ). piece r.tenancy r.visit j) (range_with_len 1 n)))
    rest_of zero l = absurd (omega arith)
    rest_of (suc n) l = in_map (λ (j : ℕ). piece r.tenancy r.visit j) k (range_with_len (1 + 1) n)
        (in_range k (1 + 1) n (omega arith) (omega arith))

-- steps from one on have each their own link
pub one_way : (p : Params) (c k l : ℕ) → 1 ≤ k → 1 ≤ l → way_ahead p c k ≡ way_ahead p c l → k ≡ l
unfolding way_ahead
one_way p c k l low least e =
    let n : 3 * p.cubs + c * max 2 p.pieces + (k - 1) ≡ 3 * p.cubs + c * max 2 p.pieces + (l - 1) = ap
    (λ (w : LinkNo). w.0) e in
    omega arith

-- ---- what a tick sends

-- A mirror state that goes out when a cub splits what it keeps.
record IsSentAhead (p : Params) (c : ℕ) (stamp : Stamp) (link : LinkNo) (x : PieceState) (h : Store) : Type 0 where
  believes : h.believes ≡ true
  line : Line
  there : In line h.view.lines
  must : must_split p stamp line ≡ true
  left : is_handed_back p h.handback line.rec ≡ false
  number : ℕ
  low : 2 ≤ number
  high : number ≤ p.pieces
  is : x ≡ piece line.rec.tenancy line.rec.visit number
  way : link ≡ way_ahead p c (number - 1)

-- if an output is a mirror state, this holds of it
abbrev OfMirror : (LinkNo → PieceState → Type 0) → Out Msg → Type 0
OfMirror X (out.Send link (msg.MirrorState x)) = X link x
OfMirror X other = Unit {0}

splitting_sent : (p : Params) (c : ℕ) (stamp : Stamp) (h : Store)
    → AllByRecursion (OfMirror (λ link x. IsSentAhead p c stamp link x h)) (splitting p c stamp h).outs
splitting_sent p c stamp h =
    splitting_from (Puts p c stamp Q) (puts_closed p c stamp Q) p c stamp h (λ b. forms_of p c stamp Q SplitVisits h (form b))
    (λ _ x q. tt)
  where
    Q : Out Msg → Type 0
    Q = OfMirror (λ link x. IsSentAhead p c stamp link x h)

    form : h.believes ≡ true → (o : Output) → ComesOf p c stamp SplitVisits h o → Q (output p c stamp o)
    form b (MirrorStateSent x) comes =
        let l = later_piece p comes.0.rec x comes.3 in record {
          believes = b;
          line = comes.0;
          there = comes.2.0;
          must = comes.2.1;
          left = comes.4;
          number = l.number;
          low = l.low;
          high = l.high;
          is = l.is;
          way = ap (λ (z : PieceState). way_ahead p c (z.piece - 1)) l.is;
        }
    form b other comes = tt

splitting_sends_all : (p : Params) (c : ℕ) (stamp : Stamp) (h : Store) (y : Line) (k : ℕ) → h.believes ≡ true
    → In y h.view.lines
    → must_split p stamp y ≡ true → is_handed_back p h.handback y.rec ≡ false → 2 ≤ k → k ≤ p.pieces
    → In (sent_ahead p c (piece y.rec.tenancy y.rec.visit k)) (splitting p c stamp h).outs
splitting_sends_all p c stamp h y k b there must left low high =
    let x : PieceState = piece y.rec.tenancy y.rec.visit k in
    let here : In (sent_ahead p c x) (split_outs p c stamp h.handback y) =
    in_split_off p stamp h.handback y (sent_ahead p c x) (map (sent_ahead p c) (drop 1 (pieces_of p y.rec))) must left
    (in_map (sent_ahead p c) x (drop 1 (pieces_of p y.rec)) (later_there p y.rec k low high)) in
    subst (λ (d : Deed Msg Store). In (sent_ahead p c x) d.outs) (sym (split_is p c stamp h b))
    (in_flat_map (split_outs p c stamp h.handback) (sent_ahead p c x) y h.view.lines there here)

module _ (p : Params) (c : ℕ) (stamp : Stamp) (X : LinkNo → PieceState → Type 0) where
  -- only the change that splits visits sends mirror states
  none : (x : Change) (h : Store) → (x ≡ SplitVisits → ⊥) → Puts p c stamp (OfMirror X) h (did p c stamp x h)
  none x h apart = forms_of p c stamp (OfMirror X) x h form
    where
      form : (o : Output) → ComesOf p c stamp x h o → OfMirror X (output p c stamp o)
      form (MirrorStateSent y) comes = absurd (apart comes.1)
      form other comes = tt

  unsplit : (g : Stage) (from : Store) → (IsService g → ⊥) → OfEach (Puts p c stamp (OfMirror X)) p c stamp g from
  unsplit g from early x h cause = none x h (λ e. early (subst (λ y. Cause p c stamp g from y h) e cause).0)

  taking_sent : (link : LinkNo) (m : Msg) (h : Store) → Puts p c stamp (OfMirror X) h (taking p c stamp link m h)
  taking_sent link m h =
      taking_by (Puts p c stamp (OfMirror X)) (puts_closed p c stamp (OfMirror X)) p c stamp link m h
      (unsplit (OnMessage link m) h (λ s. s))

  -- what holds of each mirror state of the splitting holds of each of the tick
  ticking_sent : (h : Store) → AllByRecursion (OfMirror X) (splitting p c stamp (before_splitting p c stamp h)).outs
      → Puts p c stamp (OfMirror X) h (ticking p c stamp h)
  ticking_sent h splits =
      let P : Store → Deed Msg Store → Type 0 = Puts p c stamp (OfMirror X) in
      let closed = puts_closed p c stamp (OfMirror X) in
      let h1 : Store = (releasing p stamp h).state in
      let h2 : Store = (believing p c stamp h1).state in
      let h3 : Store = before_splitting p c stamp h in
      let h4 : Store = (splitting p c stamp h3).state in
      let h5 : Store = (forwarding p c stamp h4).state in
      tick_chain P closed p c stamp h (releasing_by P closed p c stamp h (unsplit OnRelease h (λ s. s)))
      (believing_by P closed p c stamp h1 (unsplit OnDeadman h1 (λ s. s)))
      (inserting_by P closed p c stamp h2 (unsplit OnInsertion h2 (λ s. s)))
      (then_by P closed (splitting p c stamp) (then_do (forwarding p c stamp) (end_steps p c stamp)) h3 splits
      (then_by P closed (forwarding p c stamp) (end_steps p c stamp) h4
      (forwarding_from P closed p c stamp h4 (none Forward h4 (λ e. absurd (cc))))
      (end_from P closed p c stamp h5 (λ x of q. none x q (λ e. subst IsOfEnd e of)))))

module _ (p : Params) (c : ℕ) (stamp : Stamp) where
  -- of all that a tick puts out mirror states come of the splitting
  tick_sends : (h : Store) (link : LinkNo) (x : PieceState)
      → In (out.Send link (msg.MirrorState x)) (ticking p c stamp h).outs
      → IsSentAhead p c stamp link x (before_splitting p c stamp h)
  tick_sends h link x i =
      let X : LinkNo → PieceState → Type 0 = λ way y. IsSentAhead p c stamp way y (before_splitting p c stamp h) in
      all_in (OfMirror X) (out.Send link (msg.MirrorState x)) (ticking p c stamp h).outs
      (ticking_sent p c stamp X h (splitting_sent p c stamp (before_splitting p c stamp h))) i

  from_splitting : (h : Store) (o : Out Msg) → In o (splitting p c stamp (before_splitting p c stamp h)).outs
      → In o (ticking p c stamp h).outs
  from_splitting h o i = service_out p c stamp h o (in_left o (splitting p c stamp (before_splitting p c stamp h)).outs _ i)

  -- One that goes out goes out behind all that insertion puts out.
  behind_insertion : (cut : Option ℕ) (h : Store) (link : LinkNo) (x : PieceState)
      → In (out.Send link (msg.MirrorState x)) (cut_outs cut (ticking p c stamp h).outs)
      → (q : Out Msg) → In q (outs_of_insertion p c stamp h) → In q (cut_outs cut (ticking p c stamp h).outs)
  behind_insertion cut h link x i =
      let o : Out Msg = out.Send link (msg.MirrorState x) in
      let X : LinkNo → PieceState → Type 0 = λ l y. ⊥ in
      let P : Store → Deed Msg Store → Type 0 = Puts p c stamp (OfMirror X) in
      let closed = puts_closed p c stamp (OfMirror X) in
      let h1 : Store = (releasing p stamp h).state in
      let h2 : Store = (believing p c stamp h1).state in
      inserted_go p c stamp h cut o i
      (all_in (OfMirror X) o (outs_of_release p c stamp h)
      (releasing_by P closed p c stamp h (unsplit p c stamp X OnRelease h (λ s. s))))
      (all_in (OfMirror X) o (outs_of_belief p c stamp h)
      (believing_by P closed p c stamp h1 (unsplit p c stamp X OnDeadman h1 (λ s. s))))
      (all_in (OfMirror X) o (outs_of_insertion p c stamp h)
      (inserting_by P closed p c stamp h2 (unsplit p c stamp X OnInsertion h2 (λ s. s))))

-- ---- of lives

-- A mirror state is of a split of its beat, of one of the plan's pieces behind the first, and goes as many steps ahead.
pub record IsOfSplit (p : Params) (lives : Lives) (a : ℕ) (link : LinkNo) (x : PieceState) (b : ℕ) : Type 0 where
  pub split : SplitAt p lives a x.tenancy x.visit b
  pub low : 2 ≤ x.piece
  pub high : x.piece ≤ p.pieces
  pub way : link ≡ way_ahead p a (x.piece - 1)

module _ (p : Params) (lives : Lives) (a : ℕ) where
  of_input : (i : ℕ) → i < lives.count a → a < p.cubs → (k : Input Msg) → lives.input a i ≡ k
      → (link : LinkNo) (x : PieceState)
      → In (out.Send link (msg.MirrorState x)) (deed_of p a k (store_at p a (lives.input a) i)).outs
      → In (out.Send link (msg.MirrorState x)) (outs_in p lives a i)
      → IsOfSplit p lives a link x (stamp_of k).beat
  of_input i low small (Take stamp way m) e link x w goes =
      absurd (all_in (OfMirror (λ l y. ⊥)) (out.Send link (msg.MirrorState x)) _
      (taking_sent p a stamp (λ l y. ⊥) way m (store_at p a (lives.input a) i)) w)
  of_input i low small (Tick stamp) e link x w goes =
      let s = tick_sends p a stamp (store_at p a (lives.input a) i) link x w in
      let number : x.piece ≡ s.number = ap (λ (z : PieceState). z.piece) s.is in
      let least = s.low in
      let most = s.high in
      let steps = s.way ∙ ap (λ (n : ℕ). way_ahead p a (n - 1)) (sym number) in
      record {
        split = record {
          reading = stamp.reading;
          tick = record { small = small; at = i; done = low; is = e };
          believes = s.believes;
          line = s.line;
          there = (
            s.there,
            backup_line p stamp s.line s.must
                ∙ ap (λ (z : PieceState). backup_of z.tenancy z.visit) (sym s.is),
          );
          must = s.must;
          left = s.left;
          number = x.piece;
          goes = inr (subst (λ (l : LinkNo). In (out.Send l (msg.MirrorState x)) (outs_in p lives a i)) steps goes);
        };
        low = omega arith;
        high = omega arith;
        way = steps;
      }

  -- each mirror state that goes out is of a split
  pub of_split : {link : LinkNo} {x : PieceState} {b : ℕ} → DidAt p lives a (out.Send link (msg.MirrorState x)) b
      → IsOfSplit p lives a link x b
  of_split {link} {x} {b} d =
      subst (λ (n : ℕ). IsOfSplit p lives a link x n) d.in_beat
      (of_input d.at d.done d.small (lives.input a d.at) refl link x
      (was_put_out p lives a d.at (out.Send link (msg.MirrorState x)) d.did) d.did)

  -- who splits a visit in a whole tick sends all pieces behind the first
  pub sends_all : {t : Tenancy} {n b : ℕ} (k : ℕ) → (s : SplitAt p lives a t n b) → cut_in lives a s.tick.at ≡ None
      → 1 ≤ k → k < p.pieces → MirrorSentAt p lives a k t n (k + 1) b
  sends_all {t} {n} {b} k s whole low high =
      let i : ℕ = s.tick.at in
      let h : Store = store_at p a (lives.input a) i in
      let stamp : Stamp = made_stamp b s.reading in
      let sent = splitting_sends_all p a stamp (before_splitting p a stamp h) s.line (k + 1) s.believes s.there.0 s.must s.left
      (omega arith) (omega arith) in
      let of_t = subst (λ (r : Rec). In (sent_ahead p a (piece r.tenancy r.visit (k + 1)))
      (splitting p a stamp (before_splitting p a stamp h)).outs) s.there.1 sent in
      let ahead = subst (λ (j : ℕ). In (out.Send (way_ahead p a j) (msg.MirrorState (piece t n (k + 1))))
      (splitting p a stamp (before_splitting p a stamp h)).outs)
      (let e : k + 1 - 1 ≡ k = omega arith in e) of_t in
      record {
        some = low;
        did = record {
          small = s.tick.small;
          at = i;
          done = s.tick.done;
          in_beat = ap (λ (q : Input Msg). (stamp_of q).beat) s.tick.is;
          did = goes_whole p lives a i (out.Send (way_ahead p a k) (msg.MirrorState (piece t n (k + 1)))) whole
              (subst (λ (q : Input Msg). In (out.Send (way_ahead p a k) (msg.MirrorState (piece t n (k + 1))))
              (deed_of p a q h).outs) (sym s.tick.is)
              (from_splitting p a stamp h (out.Send (way_ahead p a k) (msg.MirrorState (piece t n (k + 1)))) ahead));
        };
      }

  -- All that insertion puts out in the tick of a split goes out.
  pub goes_with_split : {t : Tenancy} {n b : ℕ} (s : SplitAt p lives a t n b) (q : Out Msg)
      → In q (outs_of_insertion p a (made_stamp b s.reading) (store_at p a (lives.input a) s.tick.at))
      → In q (outs_in p lives a s.tick.at)
  goes_with_split {t} {n} {b} s q k =
      let i : ℕ = s.tick.at in
      let h : Store = store_at p a (lives.input a) i in
      let stamp : Stamp = made_stamp b s.reading in
      let o : Out Msg = sent_ahead p a (piece t n s.number) in
      let all = tick_outs p lives a i stamp s.tick.is in
      ⊎_elim
      (λ whole. goes_whole p lives a i q whole (from_tick p a (lives.input a) i stamp q s.tick.is (inserted_out p a stamp h q k)))
      (λ goes. subst (λ (os : List (Out Msg)). In q os) (sym all)
      (behind_insertion p a stamp (cut_in lives a i) h _ (piece t n s.number)
      (subst (λ (os : List (Out Msg)). In o os) all goes) q k))
      s.goes
