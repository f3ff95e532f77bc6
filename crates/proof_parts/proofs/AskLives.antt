-- Along the lives of cubs: for which record a read was asked of a disk, and that a read is asked for each record.
use Rattle.std.proofs.Common.{◌≡◌, ℕ, ◌+◌, ◌<◌, List, map, filter, None, refl, sym, ap, subst, ◌∙◌, ⊎_elim, inl}
use Rattle.std.specs.List.{flat_map}
use Rattle.tiger_base.specs.declared.number.LinkNo.{LinkNo}
use Rattle.tiger_base.specs.declared.number.Stamp.{Stamp}
use Rattle.tiger_base.specs.declared.tenancy.PieceState.{PieceState}
use Rattle.tiger_base.specs.declared.tenancy.Tenancy.{Tenancy}
use Rattle.tiger_base.specs.declared.tenancy.Want.{Want}
use Rattle.tiger_base.specs.declared.message.Msg.{Msg}
use Rattle.tiger_base.specs.declared.message.Msg.TheVariants as msg
use Rattle.tiger_base.specs.Records.{want_of}
use Rattle.slot_plan.specs.declared.params.Params.{Params}
use Rattle.slot_plan.specs.Conditions.{IsPlan}
use Rattle.slot_plan.specs.Times.{cub_of, disk_of}
use Rattle.node_kit.specs.declared.outbox.Out.{Out}
use Rattle.node_kit.specs.declared.outbox.Out.TheVariants as out
use Rattle.node_kit.specs.Steps.{Deed, Input, stamp_of}
use Rattle.node_kit.specs.Steps.Input.{Take, Tick}
use Rattle.node_kit.specs.Ways.{way_to_disk}
use Rattle.partial_view.specs.declared.line.Line.{Line}
use Rattle.cub_rules.specs.declared.store.Store.{Store}
use Rattle.cub_rules.specs.Ticks.{splitting, forwarding, ask_outs, asked_of_disk, leaves_by, reading, ticking}
use Rattle.cub_changes.proofs.Chains.{read_is, service_out}
use Rattle.cub_changes.proofs.Numbers.{piece_disk_own}
use Rattle.proof_lives.specs.Lives.{Lives, AreLives, cut_in, store_at, deed_of}
use Rattle.lists.specs.Elements.{In}
use Rattle.proof_lives.specs.Facts.{DidAt}
use Rattle.lists.proofs.Elements.{in_left, in_right, in_map, in_filter, in_flat_map}
use Rattle.lists.proofs.Each.{all_in}
use Rattle.proof_lives.proofs.Cuts.{was_put_out, goes_whole}
use Rattle.proof_facts.specs.Carried.{AskedDisk}
use Rattle.proof_facts.specs.Pieces.{want, stamp_of as made_of, before_splitting, before_reading, AsksFor, AsksAt}
use Rattle.proof_service.specs.Disks.{disk_at}
use Rattle.proof_parts.specs.Asks.{IsAskOf, AskedForRecord}
use Rattle.proof_parts.proofs.AskOutputs.{OfAsk, ticking_asks, taking_asks, reading_asks, whole_disk}
use Rattle.proof_parts.proofs.PieceForms.{numbered, unasked_within}

-- the read for piece j of visit n of t
abbrev read_of : Params → Tenancy → ℕ → ℕ → Out Msg
read_of p t n j = out.Send (way_to_disk p (disk_at p n j)) (msg.ReadAsk (want t n j))

-- A record whose time to be asked for has come is asked for in the reading.
read_goes : (p : Params) → IsPlan p → (stamp : Stamp) (g : Store) (t : Tenancy) (n j : ℕ) → AsksFor p stamp g t n j
    → In (read_of p t n j) (reading p stamp g).outs
read_goes p plan stamp g t n j asks =
    let Goes : Deed Msg Store → Type 0 = λ d. In (read_of p t n j) d.outs in
    let soon = leaves_by p (stamp.reading + p.read_lead) in
    let blocks : List (Out Msg) = flat_map (ask_outs p stamp g.comeback) g.view.lines in
    let pieces : List (Out Msg) = map (asked_of_disk p) (filter soon g.unasked.items) in
    subst Goes (sym (read_is p 0 stamp g))
    (⊎_elim
    (λ a.
    let x : Line = a.1 in
    let o : Out Msg = out.Send (way_to_disk p (disk_of p x.rec.visit)) (msg.ReadAsk (want_of x.rec)) in
    let same : o ≡ read_of p t n j =
    ap (λ r. out.Send (way_to_disk p (disk_of p r.visit)) (msg.ReadAsk (want_of r))) a.2.1
    ∙ (ap (λ d. out.Send (way_to_disk p d) (msg.ReadAsk (want t n 0))) (sym (whole_disk p plan n))
    ∙ ap (λ i. read_of p t n i) (sym a.0)) in
    let out_of : In o (ask_outs p stamp g.comeback x) = rw (a.3, a.4) (inl refl) in
    in_left (read_of p t n j) blocks pieces
    (subst (λ q. In q blocks) same (in_flat_map (ask_outs p stamp g.comeback) o x g.view.lines a.2.0 out_of)))
    (λ a.
    let y : PieceState = record { tenancy = t; visit = n; piece = j } in
    in_right (read_of p t n j) blocks pieces
    (in_map (asked_of_disk p) y (filter soon g.unasked.items) (in_filter soon y g.unasked.items a.1 a.2)))
    asks)

-- what goes out in the reading goes out at the tick
tick_goes : (p : Params) (c : ℕ) (stamp : Stamp) (h : Store) (o : Out Msg)
    → In o (reading p stamp (before_reading p c stamp h)).outs
    → In o (ticking p c stamp h).outs
tick_goes p c stamp h o k =
    let h3 : Store = before_splitting p c stamp h in
    let h4 : Store = (splitting p c stamp h3).state in
    let h5 : Store = (forwarding p c stamp h4).state in
    service_out p c stamp h o
    (in_right o (splitting p c stamp h3).outs _
    (in_right o (forwarding p c stamp h4).outs _ (in_left o (reading p stamp h5).outs _ k)))

module _ (p : Params) (plan : IsPlan p) (lives : Lives) (are : AreLives p lives) where
  -- a read that goes out at an input
  read_at : (c i b : ℕ) (link : LinkNo) (w : Want) (k : Input Msg) → c < p.cubs → i < lives.count c
      → lives.input c i ≡ k → (stamp_of k).beat ≡ b
      → In (out.Send link (msg.ReadAsk w)) (deed_of p c k (store_at p c (lives.input c) i)).outs
      → AskedForRecord p lives c link w b
  read_at c i b link w (Take stamp l m) small low is beat k =
      let h : Store = store_at p c (lives.input c) i in
      absurd (all_in (OfAsk (λ a q. ⊥)) (out.Send link (msg.ReadAsk w)) (deed_of p c (Take stamp l m) h).outs
      (taking_asks (λ a q. ⊥) p c stamp l m h) k)
  read_at c i b link w (Tick stamp) small low is beat k =
      let h : Store = store_at p c (lives.input c) i in
      let g : Store = before_reading p c stamp h in
      let each = ticking_asks (IsAskOf p stamp g) p c stamp h
      (reading_asks p plan stamp g (λ y u.
      (numbered p c y (unasked_within p plan lives are c i stamp y small low is u)).0)) in
      let a : IsAskOf p stamp g link w = all_in (OfAsk (IsAskOf p stamp g)) (out.Send link (msg.ReadAsk w))
      (ticking p c stamp h).outs each k in
      let made : stamp ≡ made_of b stamp.reading = ap (λ (n : ℕ). made_of n stamp.reading) beat in
      record {
        tenancy = a.tenancy;
        asks = record {
          reading = stamp.reading;
          tick = record { small = small; at = i; done = low; is = is ∙ ap Tick made };
          asks = subst (λ (s : Stamp). AsksFor p s (before_reading p c s h) a.tenancy w.visit w.piece) made a.asks;
        };
        same = a.same;
        way = a.way;
      }

  -- each read that a cub asked of a disk was for a record
  pub read_for : (c b : ℕ) (link : LinkNo) (w : Want) → DidAt p lives c (out.Send link (msg.ReadAsk w)) b
      → AskedForRecord p lives c link w b
  read_for c b link w d =
      read_at c d.at b link w (lives.input c d.at) d.small d.done refl d.in_beat
      (was_put_out p lives c d.at (out.Send link (msg.ReadAsk w)) d.did)

-- who is to ask for a record at a whole tick asks the disk of the piece
pub asked_disk : (p : Params) → IsPlan p → (lives : Lives) {c : ℕ} {t : Tenancy} {n j b : ℕ}
    → (a : AsksAt p lives c t n j b) → cut_in lives c a.tick.at ≡ None → c ≡ cub_of p (n + j)
    → AskedDisk p lives c (disk_at p n j) (want t n j) b
unfolding cub_of
asked_disk p plan lives {c} {t} {n} {j} {b} a whole here =
    let own = piece_disk_own p c n j plan (sym here) in
    let stamp : Stamp = made_of b a.reading in
    let h : Store = store_at p c (lives.input c) a.tick.at in
    let k = tick_goes p c stamp h (read_of p t n j)
    (read_goes p plan stamp (before_reading p c stamp h) t n j a.asks) in
    record {
      inside = own.0;
      own = sym own.1;
      ask = record {
        small = a.tick.small;
        at = a.tick.at;
        done = a.tick.done;
        in_beat = ap (λ (i : Input Msg). (stamp_of i).beat) a.tick.is;
        did = goes_whole p lives c a.tick.at (read_of p t n j) whole
            (subst (λ (i : Input Msg). In (read_of p t n j) (deed_of p c i h).outs) (sym a.tick.is) k);
      };
    }
