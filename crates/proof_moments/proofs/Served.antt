-- Each settled visit of a tenancy that was put is delivered or excused, and what the viewers got is of such a visit.
use Rattle.std.proofs.Common.{◌≡◌, ℕ, zero, suc, ◌+◌, ◌*◌, ◌≤◌, false, refl, sym, ap, subst, ◌∙◌, arith, ⊎_elim, inl, inr}
use Rattle.std.specs.Prelude.{◌==◌, ◌⊎◌, if◌then◌else◌}
use Rattle.std.specs.List.{AllByRecursion}
use Rattle.std.proofs.lemmas.Bool.{ne_eqb}
use Rattle.tiger_base.specs.declared.number.LinkNo.{LinkNo}
use Rattle.tiger_base.specs.declared.part.Span.{Span}
use Rattle.tiger_base.specs.declared.tenancy.Tenancy.{Tenancy}
use Rattle.tiger_base.specs.declared.tenancy.Want.{Want}
use Rattle.tiger_base.specs.declared.message.Note.{Note}
use Rattle.tiger_base.specs.declared.message.Note.TheVariants as note
use Rattle.slot_plan.specs.declared.params.Params.{Params}
use Rattle.slot_plan.specs.Times.{due, cub_of, time_of}
use Rattle.slot_plan.proofs.Times.{time_mono}
use Rattle.stripe_layout.specs.declared.place.Place.{Place}
use Rattle.mirror_pieces.specs.Pieces.{piece_of, leaving}
use Rattle.node_kit.specs.declared.journal.What.{What}
use Rattle.node_kit.specs.declared.journal.What.TheVariants as what
use Rattle.node_kit.specs.declared.journal.Entry.{Entry}
use Rattle.run_facts.specs.Order.{Noted, order_of}
use Rattle.run_model.specs.declared.parcels.Parcel.{Parcel}
use Rattle.run_model.specs.Served.{IsPut, IsVisitOf, want_of_visit, WasSent, IsDelivered}
use Rattle.run_model.specs.Excuses.{IsExcused, WasStopped}
use Rattle.run_claims.specs.Served.{IsServedIfPut, IsOfVisit, IsOfPutTenancy, IsOfPutIfViewers, AreServed}
use Rattle.proof_schedule.specs.Facts.{Facts}
use Rattle.proof_pieces.specs.PieceFacts.{PieceFacts, leave}
use Rattle.proof_service.specs.ServiceFacts.{ServiceFacts}
use Rattle.proof_service.specs.Blocks as at_facts
use Rattle.proof_service.specs.Disks.{span_at}
use Rattle.lists.specs.Elements.{In}
use Rattle.proof_moments.specs.Ties.{StandsIn}
use Rattle.lists.proofs.Each.{all_by}
use Rattle.proof_moments.proofs.Bridge as bridge
use Rattle.proof_moments.specs.ParcelTies.{viewers, parcel}
use Rattle.proof_moments.specs.RecordedParcels.{Evidence, AreParcelsRecorded, AreParcelsRecordedBut}
use Rattle.proof_moments.proofs.Notes.{IsPart, whole_parcel, piece_parcel}
use Rattle.proof_moments.proofs.Sends as sends
use Rattle.proof_moments.proofs.Parcels as parcels
use Rattle.proof_moments.proofs.Excuses.{some_journal, is_excused, stop_excuses, stopped_or_not}

-- the bytes of a part, by the piece's number
span_is : (p : Params) (block : Span) (j : ℕ) → span_at p block j ≡ (if j == 0 then block else piece_of block
    p.pieces j)
span_is p block zero = refl
span_is p block (suc k) = let f : (suc k == 0) ≡ false = ne_eqb _ _ (λ e. absurd (omega arith)) in rw f refl

span_piece : (p : Params) (block : Span) (k : ℕ) → 1 ≤ k → span_at p block k ≡ piece_of block p.pieces k
span_piece p block zero some = absurd (omega arith)
span_piece p block (suc k) some = refl

-- A visit of a tenancy that was put was delivered, or the facts excuse it, or it was stopped.
pub record IsServedBut (p : Params) (a : Evidence) (Excused : Tenancy → ℕ → Type 0) (t : Tenancy) (n : ℕ) : Type 0 where
  pub visited : IsVisitOf a.journals t.instance.0 n t
  pub how : IsDelivered p a.catalogue a.journals t.instance.0 n ⊎ (Excused t n ⊎ WasStopped p a.journals t n)

-- Whatever the facts excuse.
module _ (p : Params) (a : Evidence) (r : Facts) (q : PieceFacts) (w : ServiceFacts) (end : ℕ)
    {Excused : Tenancy → ℕ → Type 0}
    (g : AreParcelsRecordedBut p a r q w end Excused) where
  sent_piece : (k : ℕ) (t : Tenancy) (n : ℕ) (x : Parcel) → x.want ≡ want_of_visit t n k → 1 ≤ k
      → WasSent p a.journals (cub_of p (n + k)) x.link (parcel x.want x.sent x.span) x.sent (leave p t n k)
      → WasSent p a.journals (cub_of p (n + k)) x.link (note.Piece x.want x.sent x.span) x.sent
      (leaving (due p t.slot.0 n) k p.play p.pieces)
  sent_piece zero t n x wanted some s = absurd (omega arith)
  sent_piece (suc k) t n x wanted some s =
      let piece : x.want.piece ≡ suc k = ap (λ (z : Want). z.piece) wanted in
      subst (λ (m : Note). WasSent p a.journals (cub_of p (n + suc k)) x.link m x.sent (leaving (due p t.slot.0 n)
      (suc k) p.play p.pieces))
      (piece_parcel x.want x.sent x.span (omega arith)) s

  -- a Put has its entry
  put_there : (c b : ℕ) (t : Tenancy) → r.Put c t b → IsPut a.journals t
  put_there c b t h =
      let k = g.schedule.logged.put c b t h in
      some_journal a.journals c k.entry (λ e. e.what ≡ what.Put t) k.stands k.is

  module _ (c x n : ℕ) (t : Tenancy) (put : r.Put c t x) (first : t.first ≤ n) (last : n ≤ t.last) where
    visited : IsVisitOf a.journals t.instance.0 n t
    visited = record { put = put_there c x t put; instance = refl; first = first; last = last }

    came_whole : at_facts.LeftInTime p q end (cub_of p n) t n 0 → IsDelivered p a.catalogue a.journals t.instance.0 n
    came_whole l =
        let h = parcels.arrived p a r q w end g (cub_of p n) n 0 t l in
        record {
          tenancy = t;
          visited = visited;
          came = inl (record {
            block = h.stored.block;
            parcel = h.brought;
            place = h.stored.place;
            once = parcels.whole_once p a r q w end g (cub_of p n) n t h;
            alone = parcels.no_pieces p a r q w end g (cub_of p n) n l.beat t h.stands.journal h.stands.at l.serves;
            want = h.wanted;
            span = h.right;
            sent = subst (λ (m : Note). WasSent p a.journals (cub_of p n) h.brought.link m h.brought.sent
                (due p t.slot.0 n))
                (whole_parcel h.brought.want h.brought.sent h.brought.span (ap (λ (z : Want). z.piece) h.wanted))
                h.sent;
          });
        }

    came_in_pieces : ((j : ℕ) → 1 ≤ j → j ≤ p.pieces → at_facts.LeftInTime p q end (cub_of p (n + j)) t n j)
        → IsDelivered p a.catalogue a.journals t.instance.0 n
    came_in_pieces each =
        let some : 1 ≤ p.pieces = g.schedule.plan.ranges.pieces.0 in
        let l = each 1 (omega arith) some in
        let h = parcels.arrived p a r q w end g (cub_of p (n + 1)) n 1 t l in
        record {
          tenancy = t;
          visited = visited;
          came = inr (record {
            block = h.stored.block;
            place = h.stored.place;
            none = parcels.no_whole p a r q w end g (cub_of p (n + 1)) n 1 l.beat t h.stands.journal h.stands.at
                l.serves (omega arith);
            pieces = λ k low high.
                let m = parcels.arrived p a r q w end g (cub_of p (n + k)) n k t (each k low high) in
                let both = sym m.stored.place ∙ h.stored.place in
                let same : m.stored.block ≡ h.stored.block = cc in
                record {
                  parcel = m.brought;
                  once = parcels.piece_once p a r q w end g (cub_of p (n + k)) n k t m low;
                  want = m.wanted;
                  span = m.right ∙ span_piece p m.stored.block.span k low
                      ∙ ap (λ (b : Place). piece_of b.span p.pieces k) same;
                  sent = sent_piece k t n m.brought m.wanted low m.sent;
                };
          });
        }

    served : (beats : ℕ) → beats ≤ end + 1 → due p t.slot.0 n + 2 * p.play ≤ time_of p beats → IsServedBut p a Excused t n
    served beats low settled = record {
      visited = visited;
      how = ⊎_elim
          (λ stopped. inr (inr stopped))
          (λ on.
          let mono = time_mono p beats (end + 1) low in
          ⊎_elim
          (λ d. inl (⊎_elim came_whole came_in_pieces d))
          (λ e. inr (inl e))
          (g.blocks.served c x n t put first last (omega arith) on))
          (stopped_or_not p a r q w end g t n);
    }

  -- what the viewers got is of a visit of what was put
  of_visit : (e : Entry) (link : LinkNo) (m : Note) (want : Want) → StandsIn a.journals (viewers p) e
      → e.what ≡ what.Got link m → (k : IsPart m want)
      → (want.piece ≤ p.pieces) × IsOfVisit p a.catalogue a.journals want k.part
  of_visit e link m want s is k =
      let c = g.ties.viewers.came e link m s is in
      let o = (sends.serving p a r q w end g c.node c.entry link m want c.stands c.is k).0 in
      let t = o.tenancy in
      let held = g.blocks.held c.node want.visit want.piece c.entry.stamp.beat t o.serves in
      let part = g.reads.parts c.node want.visit want.piece c.entry.stamp.beat t k.part o.sends in (
        (g.blocks.who c.node want.visit want.piece c.entry.stamp.beat t o.serves).1,
        record {
          tenancy = t;
          visited = record {
            put = put_there held.cub held.beat t held.put;
            instance = ap
                (λ (z : Want). z.instance.0) (sym o.wanted);
            first = held.low;
            last = held.high;
          };
          wanted = o.wanted;
          block = part.stored.block;
          place = part.stored.place;
          span = part.right ∙ span_is p part.stored.block.span want.piece;
        },
      )

  module _ (beats : ℕ) where
    stands : (x : Noted) → In x (order_of beats a.journals) → StandsIn a.journals x.node x.entry
    stands x i = bridge.stands p r a.orders a.journals g.schedule beats x i

    -- Each settled visit of a tenancy that the order puts is served, whatever the facts excuse.
    pub served_if_put : beats ≤ end + 1 → (x : Noted) → In x (order_of beats a.journals) → (t : Tenancy)
        → x.entry.what ≡ what.Put t → (n : ℕ) → t.first ≤ n → n ≤ t.last
        → due p t.slot.0 n + 2 * p.play ≤ time_of p beats → IsServedBut p a Excused t n
    served_if_put low x i t is n first last settled =
        let k = g.schedule.tells.put x.node x.entry t (stands x i) is in
        served x.node x.entry.stamp.beat n t k.put first last beats low settled

    if_got : (x : Noted) → In x (order_of beats a.journals) → x.node ≡ viewers p → (v : What) → x.entry.what ≡ v
        → IsOfPutTenancy p a.catalogue a.journals v
    if_got x i node (what.Got link (note.Whole want sent part)) is =
        let s = subst (λ (n : ℕ). StandsIn a.journals n x.entry) node (stands x i) in
        let o = of_visit x.entry link (note.Whole want sent part) want s is
        (record { sent = sent; part = part; is = inl refl }) in
        let c = g.ties.viewers.came x.entry link (note.Whole want sent part) s is in
        ((g.ties.tells.whole c.node c.entry link want sent part c.stands c.is).0, o.1)
    if_got x i node (what.Got link (note.Piece want sent part)) is =
        let s = subst (λ (n : ℕ). StandsIn a.journals n x.entry) node (stands x i) in
        let o = of_visit x.entry link (note.Piece want sent part) want s is
        (record { sent = sent; part = part; is = inr refl }) in
        let c = g.ties.viewers.came x.entry link (note.Piece want sent part) s is in
        ((g.ties.tells.piece c.node c.entry link want sent part c.stands c.is).0, (o.0, o.1))
    if_got x i node (what.Got link other) is = tt
    if_got x i node other is = tt

    -- All that the viewers got is of a tenancy that was put.
    pub got_of_puts : AllByRecursion (IsOfPutIfViewers p a.catalogue a.journals) (order_of beats a.journals)
    got_of_puts = all_by (IsOfPutIfViewers p a.catalogue a.journals) (order_of beats a.journals)
        (λ x i node. if_got x i node x.entry.what refl)

-- In a run in which cubs may die.
module _ (p : Params) (a : Evidence) (r : Facts) (q : PieceFacts) (w : ServiceFacts) (end : ℕ)
    (g : AreParcelsRecorded p a r q w end) (beats : ℕ) (low : beats ≤ end + 1) where
  excused : (t : Tenancy) (n : ℕ) → IsServedBut p a (at_facts.IsExcused p r w end) t n
      → IsDelivered p a.catalogue a.journals t.instance.0 n ⊎ IsExcused p a.journals t.instance.0 n
  excused t n s = ⊎_elim
      (λ d. inl d)
      (λ e. inr (⊎_elim (is_excused p a r q w end g t n s.visited) (stop_excuses p a r q w end g t n s.visited) e))
      s.how

  if_put : (x : Noted) → In x (order_of beats a.journals) → (v : What) → x.entry.what ≡ v
      → IsServedIfPut p a.catalogue a.journals (time_of p beats) v
  if_put x i (what.Put t) is = λ n first last settled.
      excused t n (served_if_put p a r q w end g beats low x i t is n first last settled)
  if_put x i other is = tt

  pub are_served : AreServed p a.catalogue a.journals (time_of p beats) (order_of beats a.journals)
  are_served = record {
    settled = all_by (λ (x : Noted). IsServedIfPut p a.catalogue a.journals (time_of p beats) x.entry.what)
        (order_of beats a.journals) (λ x i. if_put x i x.entry.what refl);
    got = got_of_puts p a r q w end g beats;
  }
