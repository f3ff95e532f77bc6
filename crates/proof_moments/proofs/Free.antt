-- Each Put is fair: it finds its slot free, and is rightly put.
use Rattle.std.proofs.Common.{◌≡◌, ℕ, ◌+◌, ◌<◌, ◌≤◌, List, ◌∷◌, ◌++◌, true, IsTrue, Some, refl, sym, ap, subst, ◌∙◌, arith, ⊎_elim, inl, inr, append_assoc}
use Rattle.std.specs.Prelude.{◌==◌, slice_get}
use Rattle.std.specs.List.{list_any}
use Rattle.std.proofs.lemmas.Bool.{cases_eq, eq-eqb, true≢false, and_from, le-leb, lt-ltb}
use Rattle.tiger_base.specs.declared.tenancy.Tenancy.{Tenancy}
use Rattle.tiger_base.specs.declared.number.CubNo.{CubNo}
use Rattle.slot_plan.specs.declared.params.Params.{Params}
use Rattle.slot_plan.specs.Times.{due, in_window, cub_of}
use Rattle.slot_plan.proofs.Times.{cub_ahead, cub_below}
use Rattle.node_kit.specs.declared.course.Order.{Order}
use Rattle.node_kit.specs.declared.journal.What.{What}
use Rattle.node_kit.specs.declared.journal.What.TheVariants as what
use Rattle.node_kit.specs.declared.journal.Entry.{Entry}
use Rattle.run_facts.specs.Order.{Noted, beat_of, journal_of, order_of}
use Rattle.run_facts.specs.Accounts.{Rising}
use Rattle.run_facts.proofs.Rows.{rising-right}
use Rattle.run_model.specs.Schedule.{Stop, IsFreeFrom, schedule_of}
use Rattle.run_model.specs.Moments.{is_belief_of, moment_at}
use Rattle.run_model.specs.Orders.{PutIsFair, EntryIsFair, MayPut, PutsAreFair}
use Rattle.run_model.proofs.Moments.{fair_at_fronts}
use Rattle.proof_schedule.specs.Facts.{Facts, GoneBefore, BelievedBy}
use Rattle.lists.specs.Elements.{In}
use Rattle.proof_moments.specs.Recorded.{IsRecorded}
use Rattle.proof_moments.proofs.Sorted.{not_above}
use Rattle.proof_moments.proofs.Lists.{any_passes}
use Rattle.lists.proofs.Each.{all_in}
use Rattle.lists.proofs.Elements.{in_left, in_right, in_cases}
use Rattle.lists.proofs.Cuts.{cut_by}
use Rattle.proof_moments.proofs.Holders.{IsPutIn, who_has, stop_in}
use Rattle.proof_moments.proofs.Bridge as bridge

window_at : (p : Params) (now s n : ℕ) → due p s n ≤ now + p.window_a → now + p.window_b < due p s n → IsTrue (in_window p now s n)
unfolding in_window
window_at p now s n below above = and_from _ _ (le-leb _ _ below) (lt-ltb _ _ above)

belief_true : (d : ℕ) (w : What) (cub : CubNo) → w ≡ what.Believed cub → cub.0 ≡ d → is_belief_of d w ≡ true
belief_true d w cub is same = ap (is_belief_of d) is ∙ eq-eqb _ _ same

module _ (p : Params) (r : Facts) (orders : List Order) (journals : List (List Entry)) (w : IsRecorded p r orders journals) (beats : ℕ)
    (front : List Noted) (x : Noted) (back : List Noted) (is_log : front ++ x ∷ back ≡ order_of beats journals) where
  pub here : In x (order_of beats journals)
  here = subst (λ (l : List Noted). In x l) is_log (in_right x front (x ∷ back) (inl refl))

  rises : Rising beat_of (front ++ x ∷ back)
  rises = subst (λ (l : List Noted). Rising beat_of l) (sym is_log) (bridge.rising p r orders journals w beats)

  pub before : (y : Noted) → In y front → In y (order_of beats journals) × (beat_of y ≤ beat_of x)
  before y i = (subst (λ (l : List Noted). In y l) is_log (in_left y front (x ∷ back) i), not_above beat_of front (x ∷ back) y x rises i (inl refl))

  -- what is of a lower beat stands before
  pub lower : (y : Noted) → In y (order_of beats journals) → beat_of y < beat_of x → In y front
  lower y i l = ⊎_elim (λ k. k)
      (λ k. ⊎_elim
      (λ e. let q = ap beat_of e in absurd (omega arith))
      (λ j. let q = all_in (λ z. beat_of x ≤ beat_of z) y back (rising-right beat_of front (x ∷ back) rises).0 j in absurd (omega arith))
      k)
      (in_cases y front (x ∷ back) (subst (λ (q : List Noted). In y q) (sym is_log) i))

  stopped_out : (s : ℕ) (u : Tenancy) → IsPutIn front (schedule_of front) s u → GoneBefore r u.instance.0 (beat_of x) → ⊥
  stopped_out s u holds gone =
      let low = gone.before in
      let high = bridge.below p r orders journals w beats x here in
      let k = w.logged.gone u.instance.0 gone.beat gone.gone in
      let g = bridge.logged p r orders journals w beats k.0 gone.beat _ k.1 (omega arith) in
      let same = g.beat in
      let there = lower g.entry g.there (omega arith) in
      true≢false (sym (any_passes (λ (stop : Stop). stop.instance == u.instance.0) (schedule_of front).stops _ (stop_in front g.entry g.is.instance there g.is.is) (eq-eqb _ _ g.is.same)) ∙ holds.fresh)

  slot_free : (t : Tenancy) → x.entry.what ≡ what.Put t → IsFreeFrom (schedule_of front) t.slot.0 t.first
  slot_free t is u holds =
      let v : ℕ = t.instance.0 in
      let was = who_has front t.slot.0 u holds in
      let y : Noted = was.entry in
      let b = before y was.there in
      let one = w.tells.put x.node x.entry t (bridge.stands p r orders journals w beats x here) is in
      let two = w.tells.put y.node y.entry u (bridge.stands p r orders journals w beats y b.0) was.is in
      ⊎_elim
      (λ (same : u.instance.0 ≡ v).
      let cut = cut_by y front was.there in
      let at : cut.front ++ y ∷ (cut.back ++ x ∷ back) ≡ order_of beats journals = sym (append_assoc cut.front (y ∷ cut.back) (x ∷ back)) ∙ ap (λ (l : List Noted). l ++ x ∷ back) cut.is ∙ is_log in
      absurd (bridge.put_once p r orders journals w beats cut.front (cut.back ++ x ∷ back) y x u t at (in_right x cut.back (x ∷ back) (inl refl)) was.is is (sym same)))
      (λ (other : u.instance.0 ≡ v → ⊥). ⊎_elim
      (λ (ended : u.last < t.first). ended)
      (λ (gone : GoneBefore r u.instance.0 (beat_of x)). absurd (stopped_out t.slot.0 u was gone))
      (w.one.free x.node y.node (beat_of x) (beat_of y) t u one.put two.put b.1 was.slot other))
      (cases_eq u.instance.0 v)

  -- a belief of a beat up to a Put's stands before it
  belief_before : (t : Tenancy) (d : ℕ) → x.entry.what ≡ what.Put t → x.node ≡ cub_of p (d + 1) → d < p.cubs → BelievedBy r x.node (beat_of x) → list_any (λ (e : Entry). is_belief_of d e.what) (journal_of x.node front) ≡ true
  belief_before t d is next known k =
      let by = k.by in
      let g = w.logged.believed x.node d k.beat k.believed next known in
      let f : Entry = g.entry in
      let gb = g.beat in
      let cub : CubNo = g.is.0 in
      let cut = bridge.journal_cut p r orders journals w beats front (x ∷ back) is_log x.node g.stands.journal g.stands.at in
      let tail : List Entry = journal_of x.node back ++ cut.0 in
      let whole : journal_of x.node front ++ x.entry ∷ tail ≡ g.stands.journal = ap (λ (l : List Entry). journal_of x.node front ++ (l ++ cut.0)) (sym (bridge.own_first x back)) ∙ cut.1 in
      let at : slice_get journals x.node ≡ Some (journal_of x.node front ++ x.entry ∷ tail) = g.stands.at ∙ ap (λ (l : List Entry). Some l) (sym whole) in
      let there : In f (journal_of x.node front) = ⊎_elim
      (λ q. q)
      (λ q. ⊎_elim
      (λ (e : f ≡ x.entry). let both : what.Put t ≡ what.Believed cub = sym is ∙ ap (λ (z : Entry). z.what) (sym e) ∙ g.is.1 in absurd (cc))
      (λ i. let l = w.keeps.belief_first x.node (journal_of x.node front) tail x.entry f t cub at is i g.is.1 in absurd (omega arith))
      q)
      (in_cases f (journal_of x.node front) (x.entry ∷ tail) (subst (λ (l : List Entry). In f l) (sym whole) g.stands.there)) in
      any_passes (λ (e : Entry). is_belief_of d e.what) (journal_of x.node front) f there (belief_true d f.what cub g.is.1 g.is.2)

  may_put : (t : Tenancy) → x.entry.what ≡ what.Put t → MayPut p (moment_at front) x.node t.first
  unfolding moment_at
  may_put t is =
      let one = w.tells.put x.node x.entry t (bridge.stands p r orders journals w beats x here) is in
      ⊎_elim
      (λ q. inl (sym q))
      (λ q.
      let d : ℕ = cub_of p t.first in
      inr (sym q.0, belief_before t d is (q.0 ∙ sym (cub_ahead p t.first 1)) (cub_below p t.first w.plan.ranges) q.1))
      (w.one.who x.node (beat_of x) t one.put)

  put_fair : (t : Tenancy) → x.entry.what ≡ what.Put t → PutIsFair p orders (order_of beats journals) (moment_at front) x.node x.entry.stamp.reading t
  unfolding moment_at
  put_fair t is =
      let one = w.tells.put x.node x.entry t (bridge.stands p r orders journals w beats x here) is in
      let o = w.one.ordered x.node (beat_of x) t one.put in
      record {
        free = slot_free t is;
        rightly = record {
          ask = o.ask;
          ordered = w.logged.begun o.ask o.beat o.begun;
          asked = record { instance = o.asked.instance; file = o.asked.file; count = o.asked.count; disk = o.asked.disk };
          slot = one.slot;
          window = window_at p x.entry.stamp.reading t.slot.0 t.first one.below one.above;
          cub = may_put t is;
          once = bridge.one_puts p r orders journals w beats t.instance.0;
        };
      }

  entry_fair : (v : What) → x.entry.what ≡ v → EntryIsFair p orders (order_of beats journals) (moment_at front) x.node x.entry.stamp.reading v
  entry_fair (what.Put t) is = put_fair t is
  entry_fair other is = tt

pub puts_are_fair : (p : Params) (r : Facts) (orders : List Order) (journals : List (List Entry)) (beats : ℕ) → IsRecorded p r orders journals → PutsAreFair p orders (order_of beats journals)
puts_are_fair p r orders journals beats w = (fair_at_fronts p orders (order_of beats journals)).1
    (λ front x back is_log. entry_fair p r orders journals w beats front x back is_log x.entry.what refl)
