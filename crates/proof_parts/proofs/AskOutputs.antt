-- Each read that a cub asks of a disk goes out at a tick, for a record that the cub keeps before it reads.
use Rattle.std.proofs.Common.{◌≡◌, ℕ, ◌+◌, ◌%◌, ◌≤◌, [], ◌∷◌, map, filter, Bool, true, false, refl, sym, ap, subst, ◌∙◌, arith, inl, inr}
use Rattle.std.specs.Prelude.{◌&&◌, not, nat_le}
use Rattle.std.specs.List.{AllByRecursion, flat_map}
use Rattle.std.proofs.Math.Nat.{mod-eq_of_lt}
use Rattle.std.proofs.lemmas.Bool.{and_parts, leb-true}
use Rattle.tiger_base.specs.declared.number.LinkNo.{LinkNo}
use Rattle.tiger_base.specs.declared.number.Stamp.{Stamp}
use Rattle.tiger_base.specs.declared.tenancy.Kind.{Kind}
use Rattle.tiger_base.specs.declared.tenancy.Kind.TheVariants.{Own, Backup}
use Rattle.tiger_base.specs.declared.tenancy.PieceState.{PieceState}
use Rattle.tiger_base.specs.declared.tenancy.Want.{Want}
use Rattle.tiger_base.specs.declared.message.Msg.{Msg}
use Rattle.tiger_base.specs.declared.message.Msg.TheVariants as msg
use Rattle.tiger_base.specs.Kinds.{is_own}
use Rattle.tiger_base.specs.Records.{own_of, want_of}
use Rattle.slot_plan.specs.declared.params.Params.{Params}
use Rattle.slot_plan.specs.Conditions.{IsPlan}
use Rattle.slot_plan.specs.Times.{disk_of, disk_count, due}
use Rattle.slot_plan.proofs.Times.{disk_below}
use Rattle.mirror_pieces.specs.Pieces.{piece_disk}
use Rattle.node_kit.specs.declared.outbox.Out.{Out}
use Rattle.node_kit.specs.declared.outbox.Out.TheVariants as out
use Rattle.node_kit.specs.Steps.{Deed}
use Rattle.node_kit.specs.Ways.{way_to_disk}
use Rattle.partial_view.specs.declared.line.Line.{Line}
use Rattle.cub_rules.specs.declared.store.Store.{Store}
use Rattle.cub_rules.specs.Messages.{taking}
use Rattle.cub_rules.specs.Ticks.{must_read, ask_outs, asked_of_disk, leaves_by, reading, ticking, asked_block}
use Rattle.lists.specs.Elements.{In}
use Rattle.lists.proofs.Each.{all_append, all_map, all_flat_map, all_if, all_wider}
use Rattle.cub_changes.proofs.Beliefs.{not_true}
use Rattle.cub_changes.proofs.Chains.{read_is}
use Rattle.cub_changes.proofs.Order.{is_ask, all_of_part, asks_in_reading, no_ask_taken}
use Rattle.lists.proofs.Elements.{from_filter}
use Rattle.proof_facts.specs.Pieces.{before_reading}
use Rattle.proof_service.specs.Disks.{disk_at}
use Rattle.proof_parts.specs.Asks.{IsAskOf}
use Rattle.cub_rules.specs.Comebacks.{serves_at}
use Rattle.slot_plan.specs.Keys.{due_of}
use Rattle.partial_view.specs.Lines.{key_of}

-- the whole block is asked of the visit's disk
pub whole_disk : (p : Params) → IsPlan p → (n : ℕ) → disk_at p n 0 ≡ disk_of p n
unfolding piece_disk
whole_disk p plan n =
    let below = disk_below p n plan.ranges in
    ap (λ k. k % disk_count p) (let e : disk_of p n + 0 ≡ disk_of p n = omega arith in e) ∙ mod-eq_of_lt below

-- a line whose block is asked for has an own record
pub own_line : (p : Params) (stamp : Stamp) (x : Line) → must_read p stamp x ≡ true
    → x.rec ≡ own_of x.rec.tenancy x.rec.visit
unfolding must_read
own_line p stamp x e = kind_is x.rec.kind _ _ refl e
  where
    kind_is : (k : Kind) (a b : Bool) → x.rec.kind ≡ k → (is_own k && a && b) ≡ true
        → x.rec ≡ own_of x.rec.tenancy x.rec.visit
    kind_is Own a b q f = ap (λ (k : Kind). record { tenancy = x.rec.tenancy; visit = x.rec.visit; kind = k }) q
    kind_is Backup a b q f = absurd (cc)

-- what is read is an own record's, has no mark, and is due within the read lead
pub read_parts : (p : Params) (stamp : Stamp) (x : Line) → must_read p stamp x ≡ true
    → (is_own x.rec.kind ≡ true)
    × (x.asked ≡ false)
    × (due p x.rec.tenancy.slot.0 x.rec.visit ≤ stamp.reading + p.read_lead)
unfolding must_read
read_parts p stamp x e =
    let both = and_parts (is_own x.rec.kind && not x.asked)
    (nat_le (due_of p (key_of x)) (stamp.reading + p.read_lead)) e in
    let first = and_parts (is_own x.rec.kind) (not x.asked) both.0 in
    (first.0, not_true x.asked first.1, leb-true _ _ both.1)

-- What is claimed of each read among some outputs.
module _ (Asked : LinkNo → Want → Type 0) where
  abbrev pub OfAsk : Out Msg → Type 0
  OfAsk (out.Send link (msg.ReadAsk w)) = Asked link w
  OfAsk other = Unit {0}

  of_other : (o : Out Msg) → is_ask o ≡ false → OfAsk o
  of_other (out.Send link (msg.ReadAsk w)) e = absurd (cc)
  of_other other e = tt

  module _ (p : Params) (c : ℕ) (stamp : Stamp) where
    -- What is claimed holds of each read of a tick, if it does of those that go out in the reading.
    pub ticking_asks : (h : Store)
        → AllByRecursion OfAsk (reading p stamp (before_reading p c stamp h)).outs
        → AllByRecursion OfAsk (ticking p c stamp h).outs
    ticking_asks h asks = all_of_part is_ask OfAsk of_other _ _ (asks_in_reading p c stamp h) asks

    -- No read goes out at a message.
    pub taking_asks : (link : LinkNo) (m : Msg) (h : Store) → AllByRecursion OfAsk (taking p c stamp link m h).outs
    taking_asks link m h = all_wider (λ o. is_ask o ≡ false) OfAsk of_other _ (no_ask_taken p c stamp link m h)

-- Each read of the reading is for a record, if no piece that is still to be asked for has the number 0.
pub reading_asks : (p : Params) → IsPlan p → (stamp : Stamp) (g : Store)
    → ((y : PieceState) → In y g.unasked.items → 1 ≤ y.piece)
    → AllByRecursion (OfAsk (IsAskOf p stamp g)) (reading p stamp g).outs
reading_asks p plan stamp g low =
    subst (λ (d : Deed Msg Store). AllByRecursion Q d.outs) (sym (read_is p 0 stamp g))
    (all_append Q (flat_map (ask_outs p stamp g.comeback) g.view.lines) (map (asked_of_disk p) (filter soon g.unasked.items))
    (all_flat_map Q (ask_outs p stamp g.comeback) g.view.lines
    (λ x k.
    let o : Out Msg = out.Send (way_to_disk p (disk_of p x.rec.visit)) (msg.ReadAsk (want_of x.rec)) in
    all_if Q (must_read p stamp x) (asked_block p g.comeback x)
    (λ must.
    all_if Q (serves_at g.comeback (due_of p (key_of x))) (o ∷ [])
    (λ serves. (
      record {
        tenancy = x.rec.tenancy;
        asks = inl (refl, x, (k, own_line p stamp x must), must, serves);
        same = refl;
        way = ap (way_to_disk p) (sym (whole_disk p plan x.rec.visit));
      },
      tt,
    )))))
    (all_map Q (asked_of_disk p) (filter soon g.unasked.items)
    (λ y k.
    let f = from_filter soon y g.unasked.items k in
    record { tenancy = y.tenancy; asks = inr (low y f.0, f.0, f.1); same = refl; way = refl })))
  where
    Q : Out Msg → Type 0
    Q = OfAsk (IsAskOf p stamp g)

    soon : PieceState → Bool
    soon = leaves_by p (stamp.reading + p.read_lead)
