-- The tests of a Put are a test of the whole.
use Rattle.std.proofs.Common.{◌≡◌, ℕ, ◌<◌, ◌≤◌, Bool, false, not, ◌&&◌, IsTrue, List, sym, subst}
use Rattle.std.specs.Prelude.{◌↔◌}
use Rattle.std.proofs.lemmas.Bool.{false≢true}
use Rattle.tiger_base.specs.declared.tenancy.Tenancy.{Tenancy}
use Rattle.node_kit.specs.declared.journal.What.{What}
use Rattle.node_kit.specs.declared.journal.What.TheVariants as what
use Rattle.slot_plan.specs.declared.params.Params.{Params}
use Rattle.slot_plan.specs.Times.{in_window}
use Rattle.node_kit.specs.declared.course.Order.{Order}
use Rattle.run_model.specs.Schedule.{IsFreeFrom}
use Rattle.run_model.specs.Moments.{Moment}
use Rattle.run_model.specs.Orders.{MayPut}
use Rattle.run_model.proofs.Reflects.{and_both, and_left, and_right, negated}
use Rattle.audit_schedule.specs.Fair.{IsAskedFor, PutIsFairSoFar, WhatIsFairSoFar}

pub fair_put : (p : Params) (orders : List Order) (m : Moment) (c reading : ℕ) (t : Tenancy) (free asked within may again : Bool)
    → IsTrue free ↔ IsFreeFrom m.schedule t.slot.0 t.first → IsTrue asked ↔ IsAskedFor p orders t → t.slot.0 < p.slots
    → within ≡ in_window p reading t.slot.0 t.first → IsTrue may ↔ MayPut p m c t.first → m.put t.instance.0 ≡ again
    → IsTrue (free && (asked && (within && (may && not again)))) ↔ PutIsFairSoFar p orders m c reading t
fair_put p orders m c reading t free asked within may again f a s w q r = (
  (λ h.
      let h1 = and_right free (asked && (within && (may && not again))) h in
      let h2 = and_right asked (within && (may && not again)) h1 in
      let h3 = and_right within (may && not again) h2 in
      record {
        free = f.0 (and_left free (asked && (within && (may && not again))) h);
        asked = a.0 (and_left asked (within && (may && not again)) h1);
        slot = s;
        window = subst (λ (b : Bool). IsTrue b) w (and_left within (may && not again) h2);
        cub = q.0 (and_left may (not again) h3);
        new = subst (λ (b : Bool). b ≡ false) (sym r) ((negated again).0 (and_right may (not again) h3));
      }),
  (λ h. and_both free (asked && (within && (may && not again))) (f.1 h.free)
      (and_both asked (within && (may && not again)) (a.1 h.asked)
      (and_both within (may && not again) (subst (λ (b : Bool). IsTrue b) (sym w) h.window)
      (and_both may (not again) (q.1 h.cub) ((negated again).1 (subst (λ (b : Bool). b ≡ false) r h.new)))))),
)

-- an entry that puts a tenancy
pub put_judged : (p : Params) (orders : List Order) (m : Moment) (c reading : ℕ) (w : What) (t : Tenancy) (r : Bool) → w ≡ what.Put t
    → IsTrue r ↔ PutIsFairSoFar p orders m c reading t → IsTrue r ↔ WhatIsFairSoFar p orders m c reading w
put_judged p orders m c reading w t r is h =
    subst (λ (v : What). IsTrue r ↔ WhatIsFairSoFar p orders m c reading v) (sym is) h
