-- A visit of a slot is of one instance, each read is asked for once, and a piece only after a death; and what is
-- sent is sent in time.
use Rattle.std.proofs.Common.{◌≡◌, ℕ, ◌+◌, ◌≤◌, List, ◌∷◌, ◌++◌, true, Some, refl, sym, ap, subst, ◌∙◌, arith, inl, inr, ⊎_elim}
use Rattle.std.specs.List.{AllByRecursion}
use Rattle.tiger_base.specs.declared.number.LinkNo.{LinkNo}
use Rattle.tiger_base.specs.declared.part.Span.{Span}
use Rattle.tiger_base.specs.declared.tenancy.Tenancy.{Tenancy}
use Rattle.tiger_base.specs.declared.tenancy.Want.{Want}
use Rattle.tiger_base.specs.declared.message.Note.TheVariants as note
use Rattle.slot_plan.specs.declared.params.Params.{Params}
use Rattle.slot_plan.specs.Times.{cub_of, time_of}
use Rattle.node_kit.specs.declared.journal.What.{What}
use Rattle.node_kit.specs.declared.journal.What.TheVariants as what
use Rattle.node_kit.specs.declared.journal.Entry.{Entry}
use Rattle.run_facts.specs.Events.{Dated}
use Rattle.run_facts.specs.Order.{Noted, beat_of, journal_of, order_of}
use Rattle.run_facts.specs.Timed.{is_died}
use Rattle.run_model.specs.Moments.{moment_at}
use Rattle.run_model.specs.Served.{want_of_visit}
use Rattle.run_model.proofs.Moments.{each_is_each_entry}
use Rattle.run_claims.specs.Deliveries.{sent_by, sent_in}
use Rattle.run_claims.specs.Visits.{AreOfOne, asks_same, IsOnlyAsk, IsAskForDead, AreServedOnce}
use Rattle.proof_schedule.specs.Facts.{Facts}
use Rattle.proof_pieces.specs.PieceFacts.{NothingIsSpared, PieceFacts}
use Rattle.proof_service.specs.ServiceFacts.{ServiceFacts}
use Rattle.lists.specs.Elements.{In}
use Rattle.proof_moments.specs.Ties.{StandsIn}
use Rattle.proof_moments.specs.Recorded.{ParcelsAreInTime}
use Rattle.proof_moments.proofs.Lists.{any_passes, one_passes}
use Rattle.lists.proofs.Elements.{in_left, in_right, from_flat_map}
use Rattle.lists.proofs.Each.{all_by}
use Rattle.proof_moments.proofs.Bridge as bridge
use Rattle.proof_moments.proofs.Free as free
use Rattle.proof_moments.specs.ParcelTies.{AsksDisk, IsServing, IsAsking}
use Rattle.proof_moments.specs.RecordedParcels.{Evidence, AreParcelsRecordedBut}
use Rattle.proof_moments.proofs.Notes.{sent_is, asks_same_is}
use Rattle.proof_moments.proofs.Sends as sends

module _ (p : Params) (a : Evidence) (r : Facts) (q : PieceFacts) (w : ServiceFacts) (end : ℕ)
    {Excused : Tenancy → ℕ → Type 0}
    (g : AreParcelsRecordedBut p a r q w end Excused) (beats : ℕ) where
  stands : (z : Noted) → In z (order_of beats a.journals) → StandsIn a.journals z.node z.entry
  stands z i = bridge.stands p r a.orders a.journals g.schedule beats z i

  -- what the order sends was served
  pub record IsServedIn (x : Dated Want) : Type 0 where
    pub node : ℕ
    pub tenancy : Tenancy
    pub wanted : x.item ≡ want_of_visit tenancy x.item.visit x.item.piece
    pub serves : q.Serves node tenancy x.item.visit x.item.piece x.beat

  pub served_in : (x : Dated Want) → In x (sent_in (order_of beats a.journals)) → IsServedIn x
  served_in x i =
      let z = from_flat_map (λ (y : Noted). sent_by (beat_of y) y.entry.what) x (order_of beats a.journals) i in
      let k = sent_is (beat_of z.0) z.0.entry.what x z.2 in
      let s = (sends.serving p a r q w end g z.0.node z.0.entry k.1.link k.1.note x.item (stands z.0 z.1) k.1.says
      k.1.carries).0 in
      record {
        node = z.0.node;
        tenancy = s.tenancy;
        wanted = s.wanted;
        serves = subst (λ (b : ℕ). q.Serves z.0.node s.tenancy x.item.visit x.item.piece b) (sym k.0) s.serves;
      }

  of_one : (x y : Dated Want) → In x (sent_in (order_of beats a.journals))
      → In y (sent_in (order_of beats a.journals)) → AreOfOne x y
  of_one x y i k slot visit =
      let one = served_in x i in
      let two = served_in y k in
      let t = one.tenancy in
      let u = two.tenancy in
      let there : q.Serves two.node u x.item.visit y.item.piece y.beat = subst
      (λ (v : ℕ). q.Serves two.node u v y.item.piece y.beat) (sym visit) two.serves in
      let slots : u.slot.0 ≡ t.slot.0 = ap (λ (z : Want). z.slot.0) (sym two.wanted) ∙ ap (λ s. s.0) (sym slot)
      ∙ ap (λ (z : Want). z.slot.0) one.wanted in
      let same : u ≡ t = g.pieces.one_tenancy one.node two.node x.item.visit x.item.piece y.item.piece x.beat y.beat
      t u (inr one.serves) (inr there) slots in
      ap (λ (z : Want). z.instance) one.wanted ∙ ap (λ (z : Tenancy). z.instance) (sym same)
      ∙ ap (λ (z : Want). z.instance) (sym two.wanted)

  -- ---- asks

  asked_in : (z : Noted) (want : Want) → In z (order_of beats a.journals) → AsksDisk want z.entry
      → IsAsking q z.node want (beat_of z)
  asked_in z want i k = g.ties.tells.asks z.node z.entry want (stands z i) k

  asked_twice : (front back : List Noted) (x y : Noted) (v : Want) → front ++ x ∷ back ≡ order_of beats a.journals
      → In y back
      → asks_same v x.entry.what ≡ true → asks_same v y.entry.what ≡ true → ⊥
  asked_twice front back x y v is_log i t s =
      let x_in : In x (order_of beats a.journals) = subst (λ (l : List Noted). In x l) is_log
      (in_right x front (x ∷ back) (inl refl)) in
      let y_in : In y (order_of beats a.journals) = subst (λ (l : List Noted). In y l) is_log
      (in_right y front (x ∷ back) (inr i)) in
      let one = asks_same_is v x.entry.what t in
      let two = asks_same_is v y.entry.what s in
      let f : Want = one.other in
      let k : Want = two.other in
      let ask_one : AsksDisk f x.entry = record { link = one.link; is = one.is } in
      let ask_two : AsksDisk k y.entry = record { link = two.link; is = two.is } in
      let by_one = asked_in x f x_in ask_one in
      let by_two = asked_in y k y_in ask_two in
      let visits : k.visit ≡ f.visit = two.visit ∙ sym one.visit in
      let pieces : k.piece ≡ f.piece = two.piece ∙ sym one.piece in
      let tn = by_one.tenancy in
      let un = by_two.tenancy in
      let there : q.Asks y.node un f.visit f.piece (beat_of y) =
      subst (λ (n : ℕ). q.Asks y.node un n f.piece (beat_of y)) visits
      (subst (λ (j : ℕ). q.Asks y.node un k.visit j (beat_of y)) pieces by_two.asks) in
      let slots : un.slot.0 ≡ tn.slot.0 =
      ap (λ (z : Want). z.slot.0) (sym by_two.wanted) ∙ two.slot ∙ sym one.slot
      ∙ ap (λ (z : Want). z.slot.0) by_one.wanted in
      let o = g.pieces.one_ask x.node y.node f.visit f.piece (beat_of x) (beat_of y) tn un by_one.asks there slots in
      let same : k ≡ f =
      by_two.wanted
      ∙ ap (λ (n : ℕ). want_of_visit un n k.piece) visits
      ∙ ap (λ (j : ℕ). want_of_visit un f.visit j) pieces
      ∙ ap (λ (z : Tenancy). want_of_visit z f.visit f.piece) o.1
      ∙ sym by_one.wanted in
      let st = stands x x_in in
      let cut = bridge.journal_cut p r a.orders a.journals g.schedule beats front (x ∷ back) is_log x.node
      st.journal st.at in
      let tail : List Entry = journal_of x.node back ++ cut.0 in
      let whole : journal_of x.node front ++ x.entry ∷ tail ≡ st.journal =
      ap (λ (l : List Entry). journal_of x.node front ++ (l ++ cut.0)) (sym (bridge.own_first x back)) ∙ cut.1 in
      let behind : In y.entry tail = in_left y.entry (journal_of x.node back) cut.0
      (bridge.in_journal x.node back y i o.0) in
      let later = g.ties.keeps.one_ask f x.node (journal_of x.node front) tail x.entry y.entry (st.at
      ∙ ap (λ (l : List Entry). Some l) (sym whole)) behind
      ask_one (subst (λ (z : Want). AsksDisk z y.entry) same ask_two) in
      let beat = o.2 in
      omega arith

  only_ask : (v : What) → IsOnlyAsk (order_of beats a.journals) v
  only_ask (what.Sent link (note.ReadAsk want)) =
      one_passes (λ (x : Noted). asks_same want x.entry.what) (order_of beats a.journals)
      (λ front back x y is i t s. asked_twice front back x y want is i t s)
  only_ask other = tt

  -- ---- deaths

  module _ (front : List Noted) (x : Noted) (back : List Noted) (is_log : front ++ x ∷ back ≡ order_of beats
      a.journals) where
    here : In x (order_of beats a.journals)
    here = free.here p r a.orders a.journals g.schedule beats front x back is_log

    ask_for_dead : NothingIsSpared q → (v : What) → x.entry.what ≡ v → IsAskForDead p (moment_at front) v
    unfolding moment_at
    ask_for_dead none (what.Sent link (note.ReadAsk want)) is = λ some.
        let k = asked_in x want here (record { link = link; is = is }) in
        let long = ⊎_elim
        (λ h. h)
        (λ h. absurd (none (cub_of p want.visit) k.tenancy want.visit h.beat h.spared))
        (g.pieces.asked_dead x.node want.visit want.piece (beat_of x) k.tenancy k.asks some) in
        let l = long.long in
        let by = long.died.by in
        let high = bridge.below p r a.orders a.journals g.schedule beats x here in
        let d : ℕ = cub_of p want.visit in
        let y = bridge.logged p r a.orders a.journals g.schedule beats d long.died.beat (λ e. e.what ≡ what.Died)
        (g.schedule.logged.died d long.died.beat long.died.died) (omega arith) in
        let yb = y.beat in
        let there = free.lower p r a.orders a.journals g.schedule beats front x back is_log y.entry y.there
        (omega arith) in
        any_passes (λ (e : Entry). is_died e.what) _ y.entry.entry (bridge.in_journal d front y.entry there y.node)
        (ap is_died y.is)
    ask_for_dead none other is = tt

  -- What leaves for the viewers of a visit of a slot is of one instance.
  pub visits_of_one : AllByRecursion (λ x. AllByRecursion (AreOfOne x) (sent_in (order_of beats a.journals)))
      (sent_in (order_of beats a.journals))
  visits_of_one = all_by (λ x. AllByRecursion (AreOfOne x) (sent_in (order_of beats a.journals)))
      (sent_in (order_of beats a.journals))
      (λ x i. all_by (AreOfOne x) (sent_in (order_of beats a.journals)) (λ y k. of_one x y i k))

  -- Each piece of a visit, and each whole block, is asked of a disk at most once.
  pub asks_once : AllByRecursion (λ (x : Noted). IsOnlyAsk (order_of beats a.journals) x.entry.what)
      (order_of beats a.journals)
  asks_once = all_by (λ (x : Noted). IsOnlyAsk (order_of beats a.journals) x.entry.what) (order_of beats a.journals)
      (λ x i. only_ask x.entry.what)

  pub served_once : NothingIsSpared q → AreServedOnce p (order_of beats a.journals)
  served_once none = record {
    instance = visits_of_one;
    ask = asks_once;
    dead = (each_is_each_entry (λ m x. IsAskForDead p m x.entry.what) (order_of beats a.journals)).1
        (λ front x back is_log. ask_for_dead front x back is_log none x.entry.what refl);
  }

pub in_time : (p : Params) (a : Evidence) (r : Facts) (q : PieceFacts) (w : ServiceFacts) (end : ℕ)
    {Excused : Tenancy → ℕ → Type 0} → AreParcelsRecordedBut p a r q w end Excused → ParcelsAreInTime p r a.journals
in_time p a r q w end g = record {
  whole = λ n e link want sent part z s is gone.
      after n e want z (sends.serving p a r q w end g n e link (note.Whole want sent part) want s is
      (record { sent = sent; part = part; is = inl refl })).0 gone;
  piece = λ n e link want sent part z s is gone.
      after n e want z (sends.serving p a r q w end g n e link (note.Piece want sent part) want s is
      (record { sent = sent; part = part; is = inr refl })).0 gone;
}
  where
    after : (n : ℕ) (e : Entry) (want : Want) (z : ℕ) {link : LinkNo} {sent : ℕ} {part : Span}
        → IsServing p q w n link want sent part e.stamp.beat → r.Gone want.instance.0 z
        → time_of p e.stamp.beat ≤ time_of p z + p.play
    after n e want z s gone =
        g.pieces.late n want.visit want.piece e.stamp.beat z s.tenancy (inr s.serves) (subst (λ (v : ℕ). r.Gone v z)
        (ap (λ (x : Want). x.instance.0) s.wanted) gone)
