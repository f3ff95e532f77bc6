-- What the cubs of a ring whose disks may die add meets its laws, if they know the deaths of their disks.
use Rattle.std.proofs.Common.{◌≡◌, ℕ, ◌+◌, ◌/◌, ◌<◌, ◌≤◌, true, false, get_or, List, Option, None, sym, ap, ◌∙◌, arith, ⊎_elim, inl, inr}
use Rattle.std.specs.Prelude.{◌⊎◌}
use Rattle.tiger_base.specs.declared.tenancy.Tenancy.{Tenancy}
use Rattle.tiger_base.specs.declared.message.Msg.{Msg}
use Rattle.slot_plan.specs.declared.params.Params.{Params}
use Rattle.slot_plan.specs.Conditions.{IsPlan}
use Rattle.slot_plan.specs.Times.{cub_of, disk_of}
use Rattle.node_kit.specs.declared.course.Order.{Order}
use Rattle.node_kit.specs.Steps.{stamp_of}
use Rattle.run_facts.specs.Histories.{History, beat}
use Rattle.disk_core.specs.State.{DiskState}
use Rattle.spare_ring.specs.declared.nodes.SpareNode.{SpareNode}
use Rattle.spare_ring.specs.Nodes.{spare_node_step}
use Rattle.proof_schedule.specs.Facts.{Entered, Facts}
use Rattle.proof_pieces.specs.PieceFacts.{PieceFacts, Uses}
use Rattle.proof_pieces.specs.PieceLaws.{MirrorSince}
use Rattle.proof_service.specs.Spares.{SpareLaws}
use Rattle.proof_lives.specs.Facts.{EnteredAt, TickAt}
use Rattle.proof_lives.specs.FactsBy.{Beyond}
use Rattle.proof_lives.specs.HoldsHere.{AreAllFormed}
use Rattle.proof_lives.specs.InOrder.{AreInOrder}
use Rattle.proof_lives.specs.Lives.{AreLives, Lives, cut_in}
use Rattle.proof_lives.specs.TwoLifeRun.WhichLife.{First, Later}
use Rattle.proof_lives.proofs.TwoLives.{beat_in, within_run}
use Rattle.proof_facts.specs.Beside.{Additions, beside_by}
use Rattle.proof_facts.specs.Facts.{beyond_with, facts_of, pieces_beside}
use Rattle.proof_facts.specs.Laws.{BesideLaws}
use Rattle.proof_facts.specs.Lives.{later_lives_of, lives_of}
use Rattle.proof_facts.specs.Pieces.{SplitAt, piece}
use Rattle.proof_facts.specs.Rings.{IsRingWith, node_count}
use Rattle.proof_facts.specs.TwoLives.{BesideFacts}
use Rattle.proof_ring.proofs.Below.{AreAdditionsKnown, AsksAreKnown, SendsAreKnown, cubs_are_told_in_order, disks_answer_asks, fits, history_first_asks, history_known, killed_by_link, of_split, sent_was_read, splits_off_none}
use Rattle.proof_ring.proofs.Histories.{apart, cubs_laws, in_order, no_ask_added, ring_laws, split_died}
use Rattle.proof_spare.specs.Added.{added_in}
use Rattle.proof_spare.specs.Laws.{AreDeathsKnown, SpareRingsMeetTheLaws}
use Rattle.proof_spare.specs.Rings.{IsSpareRing}
use Rattle.proof_spare.proofs.Beside.{AreTold, due_is_split, kill_reached, kills, mirrors, mirrors_due, spares, x}
use Rattle.proof_spare.proofs.Rings.{first_whole, none_later, spare_rings_are_histories}
use Rattle.proof_spare.proofs.Unread.{unread}

module _ {G : Type 0} {p : Params} {orders : List Order} {disk_at : ℕ → DiskState} {deaths : ℕ → List (Option ℕ)} {h : History Msg (SpareNode G)}
    (plan : IsPlan p) (ring : IsSpareRing p orders disk_at deaths h) where
  abbrev added : Additions
  added = added_in p deaths h

  pub with_added : IsRingWith spare_node_step p orders disk_at (added_in p deaths h) h
  with_added = spare_rings_are_histories G p orders disk_at deaths h plan ring

  abbrev lives : Lives
  lives = lives_of h

  abbrev pub R : Facts
  R = facts_of p orders h

  abbrev Q : PieceFacts
  Q = pieces_beside p (added_in p deaths h) h

  abbrev B : Beyond
  B = beyond_with p orders (added_in p deaths h) h

  order : AreInOrder p (lives_of h) (beyond_with p orders (added_in p deaths h) h) orders
  order = in_order spare_node_step p orders disk_at (added_in p deaths h) h plan with_added First

  lived : AreLives p (lives_of h)
  lived = order.lived

  formed : AreAllFormed p (lives_of h)
  formed = order.formed

  whole : (c i : ℕ) → c < p.cubs → i < (lives_of h).count c → cut_in (lives_of h) c i ≡ None
  whole c i small low = first_whole ring c small i low

  -- Nobody dies.
  pub calm : (d b : ℕ) → ¬ R.Died d b
  calm d b died =
      let small = died.small in
      let z : true ≡ false = sym died.death ∙ ring.alive d died.at (omega arith) died.done in
      absurd (cc)

  -- Nobody returns, so what is told is told of first lives.
  entered_first : {c n b : ℕ} {t : Tenancy} → Entered R c t n b → EnteredAt p (lives_of h) c t n b
  entered_first e = ⊎_elim
      (λ w. inl (⊎_elim (λ v. v) (λ v. absurd (none_later ring v.done.at v.done.done v.done.small)) w))
      (λ w. inr (⊎_elim (λ v. v) (λ v. absurd (none_later ring v.done.at v.done.done v.done.small)) w))
      e

  told : AreTold p (lives_of h) R
  told = record {
    run = (ring_laws spare_node_step p orders disk_at (added_in p deaths h) h plan with_added).run;
    shown = λ s. (cubs_laws spare_node_step p orders disk_at (added_in p deaths h) h plan with_added).states.shows s;
    ticked = λ w. inl w;
    ticks = λ w. ⊎_elim (λ v. v) (λ v. absurd (none_later ring v.at v.done v.small)) w;
    reaches = λ w. inl w;
    reached = λ w. ⊎_elim (λ v. v) (λ v. absurd (none_later ring v.took.at v.took.done v.took.small)) w;
    shows = λ w. inl w;
    entered = λ e. entered_first e;
    calm = calm;
  }

  abbrev beside : BesideFacts
  beside = x p plan (lives_of h) lived formed whole deaths

  -- No visit is split by the rules, since nobody is believed dead.
  none_split : (a n b : ℕ) (t : Tenancy) → SplitAt p (lives_of h) a t n b ⊎ SplitAt p (later_lives_of h) a t n b → ⊥
  none_split a n b t w =
      let died = ⊎_elim
      (λ k. split_died spare_node_step p orders disk_at (added_in p deaths h) h plan with_added First k)
      (λ k. split_died spare_node_step p orders disk_at (added_in p deaths h) h plan with_added Later k) w in
      calm died.0 died.1 died.2

  additions : AreAdditionsKnown p (lives_of h) (later_lives_of h) (added_in p deaths h)
  additions = record {
    few = with_added.rules.few;
    number = λ w. (mirrors p plan (lives_of h) lived formed whole deaths w).1.0;
    apart = λ {a} {c} {k} {t} {u} {n} {m} {j} {x} {b} split w. none_split a n x t split;
  }

  known : SendsAreKnown p (beyond_with p orders (added_in p deaths h) h) (pieces_beside p (added_in p deaths h) h)
  known = history_known p orders (added_in p deaths h) h (fits plan with_added First) (fits plan with_added Later) additions

  -- Each mirror state goes as many steps ahead as its piece's number says.
  all_go : (a k : ℕ) (t : Tenancy) (n j b : ℕ) → Q.MirrorSent a k t n j b → j ≡ k + 0
  all_go a k t n j b w = ⊎_elim
      (λ v. ⊎_elim
      (λ d. absurd (none_split a n b t (inl (of_split p (lives_of h) a d.did).split)))
      (λ d. absurd (none_later ring d.did.at d.did.done d.did.small))
      v)
      (λ d. let e = (mirrors p plan (lives_of h) lived formed whole deaths d).1.0 in omega arith)
      w

  killed : {a k c : ℕ} {t : Tenancy} {n y z b : ℕ}
      → beside.Spared a t n y → Q.KillSent a k t.instance.0 t.slot.0 n z → c ≡ cub_of p (a + k)
      → Uses Q c t n k b → z + p.delay ≤ b → MirrorSince Q a k t n k z
  killed {a} {k} {c} {t} {n} {y} {z} {b} spared kill to uses late =
      let small : c < p.cubs = ⊎_elim
      (λ u. ⊎_elim (λ d. d.tick.small) (λ d. absurd (none_later ring d.tick.at d.tick.done d.tick.small)) u)
      (λ u. ⊎_elim (λ d. d.sends.tick.small) (λ d. absurd (none_later ring d.sends.tick.at d.sends.tick.done d.sends.tick.small)) u)
      uses in
      killed_by_link p plan (lives_of h) lived formed B (fits plan with_added First)
      (cubs_are_told_in_order (SpareNode G) spare_node_step p orders disk_at (added_in p deaths h) h plan with_added First) Q known
      0 all_go (known.kill_sent kill) to (let e : k ≡ k + 0 = omega arith in e)
      (splits_off_none p (lives_of h) c (piece t n k) small (λ u m x w. none_split c m x u (inl w)) (λ i low. whole c i small low))
      (⊎_elim
      (λ u. ⊎_elim (λ d. inl d) (λ d. absurd (none_later ring d.tick.at d.tick.done d.tick.small)) u)
      (λ u. ⊎_elim (λ d. inr d) (λ d. absurd (none_later ring d.sends.tick.at d.sends.tick.done d.sends.tick.small)) u)
      uses)
      late

  -- ---- with the deaths of the disks

  module _ {death : ℕ → Option ℕ} (dies : AreDeathsKnown p disk_at deaths death h) where
    asks : AsksAreKnown p (lives_of h) (beyond_with p orders (added_in p deaths h) h)
    asks =
        history_first_asks p plan orders (added_in p deaths h) h
        (no_ask_added spare_node_step p orders disk_at (added_in p deaths h) h plan with_added) lived
        (apart spare_node_step p orders disk_at (added_in p deaths h) h plan with_added)

    early : (c b l : ℕ) → TickAt p (lives_of h) c b l → b < dies.until
    early c b l w =
        let small = w.small in
        let inside : c < node_count p = omega arith in
        let done = within_run ring.run c inside First w.at w.done in
        let when : beat h c w.at ≡ b = beat_in h First c w.at ∙ ap (λ i. (stamp_of i).beat) w.is in
        let low = dies.early c w.at inside done in
        omega arith

    not_served : {c d n y b : ℕ} {t : Tenancy} → beside.Spared c t n y → Q.Serves d t n 0 b → ⊥
    not_served {c} {d} {n} {y} {b} {t} w s = ⊎_elim
        (λ v.
        unread p plan (lives_of h) lived formed whole deaths disk_at death dies.until dies.known dies.fails with_added.rules.are_disks
        (λ e m a u part q. sent_was_read p plan (lives_of h) lived formed B asks disk_at
        (disks_answer_asks (SpareNode G) spare_node_step p orders disk_at (added_in p deaths h) h plan with_added First) q)
        early w (spares p plan (lives_of h) lived formed whole deaths R told w).own v.sends)
        (λ v. absurd (none_later ring v.sends.tick.at v.sends.tick.done v.sends.tick.small))
        s

    pub right : BesideLaws p (facts_of p orders h) (beside_by p (lives_of h) (added_in p deaths h)) (pieces_beside p (added_in p deaths h) h)
    right = record {
      spares = λ w. spares p plan (lives_of h) lived formed whole deaths R told w;
      mirrors = λ w. mirrors p plan (lives_of h) lived formed whole deaths w;
      kill_reached = λ w. kill_reached p plan (lives_of h) lived formed whole deaths R told w;
      kills = λ w reached less. kills p plan (lives_of h) lived formed whole deaths R told Q (λ a k v s n b q. inr q) w reached less;
      killed = λ w kill to uses late. killed w kill to uses late;
      unread = λ w s. not_served w s;
    }

    pub due : SpareLaws p (facts_of p orders h) (pieces_beside p (added_in p deaths h) h) death
    due = record {
      calm = calm;
      spare_due = λ {c} {t} {n} {b} {l} dead entered here ticked soon. ⊎_elim
          (λ s. inl (record { beat = s.beat; spared = inr s.spared; by = s.by }))
          (λ s. inr s)
          (due_is_split p plan (lives_of h) lived formed whole deaths R told
          (ap (λ (a : ℕ). get_or (deaths a) (disk_of p n / p.cubs) None) here ∙ dies.known n ∙ dead.dies) dead.by entered here ticked soon);
      spare_mirrors_due = λ k w low high. ⊎_elim
          (λ v. ⊎_elim (λ u. absurd u) (λ u. absurd u) v)
          (λ v. inr (mirrors_due p plan (lives_of h) lived formed whole deaths k v low high))
          w;
    }

pub spare_rings_meet_the_laws : (G : Type 0) → SpareRingsMeetTheLaws G
spare_rings_meet_the_laws G p orders disk_at deaths death h plan ring dies =
    record { added = right plan ring dies; due = due plan ring dies }
