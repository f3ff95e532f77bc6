-- The seats tell which tenancy has each slot, if who was stopped is passed over.
use Rattle.std.proofs.Common.{◌≡◌, ℕ, Bool, true, false, ◌||◌, cond, Option, Some, None, refl, sym, ap, ◌∙◌}
use Rattle.std.specs.Prelude.{◌==◌}
use Rattle.std.proofs.lemmas.Bool.{both_ways}
use Rattle.tiger_base.specs.declared.tenancy.Tenancy.{Tenancy}
use Rattle.node_kit.specs.declared.journal.What.TheVariants as what
use Rattle.run_model.specs.Schedule.{Schedule, is_stopped, unless_of, changed}
use Rattle.audit_frame.specs.Tables.{Tenancies, seat_under, unless_by, seat_by}
use Rattle.audit_frame.proofs.Added.{turned}

pub put_holder : (s : Schedule) (beat : ℕ) (t : Tenancy) (gone : ℕ → Bool) (seats : Tenancies)
    → ((slot : ℕ) → s.holder slot ≡ unless_by gone (seat_under slot seats))
    → is_stopped t.instance.0 s.stops ≡ gone t.instance.0
    → (slot : ℕ) → (changed s beat (what.Put t)).holder slot ≡ unless_by gone (seat_by gone seats t slot)
put_holder s beat t gone seats has stopped slot =
    go (is_stopped t.instance.0 s.stops) (gone t.instance.0) refl stopped where
      own : (here : Bool) → gone t.instance.0 ≡ false
          → cond here (Some t) (s.holder slot) ≡ unless_by gone (cond here (Some t) (seat_under slot seats))
      own true e = rw e refl
      own false e = has slot

      go : (a b : Bool) → gone t.instance.0 ≡ b → a ≡ b
          → (cond a s (record { holder = λ k. cond (t.slot.0 == k) (Some t) (s.holder k); stops = s.stops })).holder slot
          ≡ unless_by gone (cond b (seat_under slot seats) (cond (t.slot.0 == slot) (Some t) (seat_under slot seats)))
      go true true e f = has slot
      go true false e f = absurd (both_ways true (sym (sym f)) refl)
      go false true e f = absurd (both_ways true (sym f) refl)
      go false false e f = own (t.slot.0 == slot) e

pub put_stops : (s : Schedule) (beat : ℕ) (t : Tenancy) → (changed s beat (what.Put t)).stops ≡ s.stops
put_stops s beat t = go (is_stopped t.instance.0 s.stops) where
  go : (b : Bool) → (cond b s (record { holder = λ k. cond (t.slot.0 == k) (Some t) (s.holder k); stops = s.stops })).stops ≡ s.stops
  go true = refl
  go false = refl

pub gone_seat : (v : ℕ) (gone new : ℕ → Bool) → ((n : ℕ) → new n ≡ (gone n || (v == n)))
    → (o : Option Tenancy) → unless_of v (unless_by gone o) ≡ unless_by new o
gone_seat v gone new set None = refl
gone_seat v gone new set (Some t) =
    go (gone t.instance.0) (v == t.instance.0) (turned t.instance.0 v)
    ∙ ap (λ (b : Bool). cond b None (Some t)) (sym (set t.instance.0)) where
      go : (a b : Bool) → (t.instance.0 == v) ≡ b
          → unless_of v (cond a None (Some t)) ≡ cond (a || b) None (Some t)
      go true b e = refl
      go false true e = rw e refl
      go false false e = rw e refl
