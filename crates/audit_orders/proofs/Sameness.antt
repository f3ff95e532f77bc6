-- What an entry is to the starts that are still wanted.
use Rattle.std.proofs.Common.{◌≡◌, ℕ, zero, suc, ◌≤◌, Bool, true, false, ◌&&◌, IsTrue, List, [], ◌∷◌, drop, Option, Some, None, slice_get, refl, sym, ap, subst, ◌∙◌}
use Rattle.std.specs.Prelude.{◌==◌}
use Rattle.std.proofs.lemmas.Bool.{eqb-true, eq-eqb, false≢true, both_ways}
use Rattle.run_facts.specs.Commanded.{Dispatch}
use Rattle.run_facts.specs.Events.{Dated}
use Rattle.run_model.proofs.Reflects.{and_both, and_left, and_right}
use Rattle.audit_frame.specs.Tables.{same_ask}
use Rattle.audit_frame.proofs.Asked.{one_ask, same_itself}
use Rattle.audit_orders.specs.Starts.{dated_of, dated_by, IsNotNext, Meets, is_end, same_flag, is_same}
use Rattle.audit_orders.specs.declared.starts.Meeting.TheVariants as meeting
use Rattle.audit_orders.specs.declared.starts.Start.{Start}
use Rattle.audit_orders.specs.declared.starts.Wanted.{Wanted}

-- ---- one start is another

one_flag : (a b : Bool) → IsTrue (same_flag a b) → a ≡ b
one_flag true true h = refl
one_flag true false h = absurd (false≢true h)
one_flag false true h = absurd (false≢true h)
one_flag false false h = refl

flag_itself : (a : Bool) → IsTrue (same_flag a a)
flag_itself true = refl
flag_itself false = refl

one_end : (n : ℕ) (to : Option ℕ) → IsTrue (is_end n to) → Some n ≡ to
one_end n None h = absurd (false≢true h)
one_end n (Some m) h = ap (λ (k : ℕ). Some k) (sym (eqb-true m n h))

same_start : (w : Wanted) (s : Dated Dispatch) → IsTrue (is_same w s) → dated_of w ≡ s
same_start w s h =
    let a = w.beat == s.beat in
    let b = is_end w.to s.item.to in
    let c = same_flag w.redundant s.item.redundant in
    let d = same_ask w.ask s.item.ask in
    let bcd = and_right a (b && (c && d)) h in
    let cd = and_right b (c && d) bcd in
    let beat = eqb-true w.beat s.beat (and_left a (b && (c && d)) h) in
    let to = one_end w.to s.item.to (and_left b (c && d) bcd) in
    let redundant = one_flag w.redundant s.item.redundant (and_left c d cd) in
    let ask = one_ask w.ask s.item.ask (and_right c d cd) in
    λ i. record { beat = beat i; item = record { to = to i; ask = ask i; redundant = redundant i } }

start_itself : (w : Wanted) → IsTrue (is_same w (dated_of w))
start_itself w =
    let a = w.beat == w.beat in
    let b = is_end w.to (Some w.to) in
    let c = same_flag w.redundant w.redundant in
    let d = same_ask w.ask w.ask in
    and_both a (b && (c && d)) (eq-eqb w.beat w.beat refl)
    (and_both b (c && d) (eq-eqb w.to w.to refl) (and_both c d (flag_itself w.redundant) (same_itself w.ask)))

-- ---- what a start is to those that are wanted

before_it : (wanted : List Wanted) (next : ℕ) (s : Dated Dispatch) (w : Wanted) → slice_get wanted next ≡ Some w → s.beat ≤ w.beat
    → (dated_of w ≡ s → ⊥) → IsNotNext s (drop next wanted)
before_it [] next s w at low ne = absurd (cc)
before_it (v ∷ vs) zero s w at low ne =
    let same : w ≡ v = cc in
    subst (λ (x : Wanted). (s.beat ≤ x.beat) × (dated_of x ≡ s → ⊥)) same (low, ne)
before_it (v ∷ vs) (suc n) s w at low ne = before_it vs n s w at low ne

pub met_other_start : (wanted : List Wanted) (next : ℕ) (sent : Start) (w : Wanted) (r : Bool) → slice_get wanted next ≡ Some w
    → sent.beat ≤ w.beat → r ≡ is_same w (dated_by sent) → r ≡ false → Meets wanted next sent.beat (dated_by sent ∷ []) meeting.Surplus
met_other_start wanted next sent w r at low is f = (
  dated_by sent,
  refl,
  before_it wanted next (dated_by sent) w at low
      (λ same. both_ways (is_same w (dated_by sent)) (sym is ∙ f) (subst (λ (d : Dated Dispatch). IsTrue (is_same w d)) same (start_itself w))),
)
