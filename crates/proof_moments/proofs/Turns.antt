-- The blocks of a viewer come in order: what is sent of a visit is got before anything of any later visit is sent.
use Rattle.std.proofs.Common.{◌≡◌, ℕ, List, [], sym, ap, subst, ◌∙◌, arith}
use Rattle.std.specs.Prelude.{◌==◌, if◌then◌else◌}
use Rattle.std.specs.List.{AllByRecursion}
use Rattle.std.proofs.lemmas.Bool.{eqb-true}
use Rattle.tiger_base.specs.declared.tenancy.Want.{Want}
use Rattle.tiger_base.specs.declared.tenancy.Tenancy.{Tenancy}
use Rattle.slot_plan.specs.declared.params.Params.{Params}
use Rattle.run_facts.specs.Events.{Dated}
use Rattle.run_facts.specs.Order.{Noted, beat_of, order_of}
use Rattle.run_claims.specs.Deliveries.{got_by, sent_in, got_in}
use Rattle.run_claims.specs.Turns.{IsGotBefore, AreInTurn}
use Rattle.proof_schedule.specs.Facts.{Facts}
use Rattle.proof_pieces.specs.PieceFacts.{PieceFacts}
use Rattle.proof_service.specs.ServiceFacts.{ServiceFacts}
use Rattle.lists.specs.Elements.{In}
use Rattle.proof_moments.specs.Ties.{StandsIn}
use Rattle.lists.proofs.Elements.{chosen, from_flat_map}
use Rattle.lists.proofs.Each.{all_by}
use Rattle.proof_moments.proofs.Bridge as bridge
use Rattle.proof_moments.specs.ParcelTies.{viewers}
use Rattle.proof_moments.specs.RecordedParcels.{Evidence, AreParcelsRecordedBut}
use Rattle.proof_moments.proofs.Notes.{got_is}
use Rattle.proof_moments.proofs.Sends as sends
use Rattle.proof_moments.proofs.Visits as visits

module _ (p : Params) (a : Evidence) (r : Facts) (q : PieceFacts) (w : ServiceFacts) (end : ℕ)
    {Excused : Tenancy → ℕ → Type 0}
    (g : AreParcelsRecordedBut p a r q w end Excused) (beats : ℕ) where
  -- what the viewers got
  got_of : (z : Noted) (x : Dated Want) → In x (if z.node == viewers p then got_by (beat_of z) z.entry.what else [])
      → (z.node ≡ viewers p) × In x (got_by (beat_of z) z.entry.what)
  got_of z x i = chosen (λ (l : List (Dated Want)). In x l → (z.node ≡ viewers p)
      × In x (got_by (beat_of z) z.entry.what)) (z.node == viewers p) (got_by (beat_of z) z.entry.what) []
      (λ t k. (eqb-true _ _ t, k))
      (λ f k. absurd k)
      i

  in_turn : (x y : Dated Want) → In x (got_in p (order_of beats a.journals))
      → In y (sent_in (order_of beats a.journals)) → IsGotBefore x y
  in_turn x y i k instance later =
      let z = from_flat_map (λ (v : Noted). if v.node == viewers p then got_by (beat_of v) v.entry.what else []) x
      (order_of beats a.journals) i in
      let o = got_of z.0 x z.2 in
      let e = got_is (beat_of z.0) z.0.entry.what x o.1 in
      let s : StandsIn a.journals (viewers p) z.0.entry =
      subst (λ (n : ℕ). StandsIn a.journals n z.0.entry) o.0 (bridge.stands p r a.orders a.journals g.schedule beats
      z.0 z.1) in
      let one = sends.was_served p a r q w end g z.0.entry e.1.link e.1.note x.item s e.1.says e.1.carries in
      let two = visits.served_in p a r q w end g beats y k in
      let t = one.served.tenancy in
      let u = two.tenancy in
      let same : u.instance.0 ≡ t.instance.0 =
      ap (λ (v : Want). v.instance.0) (sym two.wanted) ∙ ap (λ v. v.0) (sym instance)
      ∙ ap (λ (v : Want). v.instance.0) one.served.wanted in
      let order = g.blocks.order one.node two.node x.item.visit y.item.visit x.item.piece y.item.piece
      one.entry.stamp.beat y.beat t u later one.served.serves two.serves same in
      let soon = one.soon in
      let beat : x.beat ≡ z.0.entry.stamp.beat = e.0 in
      omega arith

  pub are_in_turn : AreInTurn p (order_of beats a.journals)
  are_in_turn = all_by (λ x. AllByRecursion (IsGotBefore x) (sent_in (order_of beats a.journals)))
      (got_in p (order_of beats a.journals))
      (λ x i. all_by (IsGotBefore x) (sent_in (order_of beats a.journals)) (λ y k. in_turn x y i k))
