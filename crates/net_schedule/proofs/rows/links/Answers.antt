use Rattle.std.proofs.Common.{◌≡◌, ℕ, ◌==◌, Bool, true, false, cond, Some, None, Option, refl, sym, ap, subst, inl, arith}
use Rattle.net_schedule.specs.declared.ring.Entry.{Entry}
use Rattle.net_schedule.specs.declared.ring.Own.{Own}
use Rattle.net_schedule.specs.Rings.{reaches}
use Rattle.net_schedule.specs.Cubs.{is_live}
use Rattle.net_schedule.specs.Samples.{four, viewer, entry, placed}
use Rattle.net_schedule.proofs.Finds.{clash, one_some, never}
use Rattle.net_schedule.proofs.rows.links.Goals as goal

-- The entry of the row is found in both lists, or nothing is.
its_entry : (b : Bool) (o : Own) → ◌≡◌ {A = Option Own} (cond b (Some (placed 0 2 6)) None) (Some o) → ◌≡◌ {A = Option Entry} (cond b (Some (entry 0 2 6)) None) (Some o.entry)
its_entry true o f = ap (λ (z : Own). Some z.entry) (one_some (placed 0 2 6) o refl f)
its_entry false o f = absurd (never o f refl)

its_own : (b : Bool) (e : Entry) → ◌≡◌ {A = Option Entry} (cond b (Some (entry 0 2 6)) None) (Some e)
    → (◌≡◌ {A = Option Own} (cond b (Some (placed 0 2 6)) None) (Some (placed 0 2 6))) × (entry 0 2 6 ≡ e)
its_own true e f = (refl, one_some (entry 0 2 6) e refl f)
its_own false e f = absurd (never e f refl)

pub returns-clause-kept : goal.returns-clause-kept
returns-clause-kept c = record {
  told = ((λ e. record { o = placed 0 2 6; found = refl; same = refl; far = refl }), ((λ e. record { o = placed 0 2 6; found = refl; held = inl refl }), tt));
  placed = λ v o f p far. its_entry (0 == v.0) o f;
  asked = λ v e f. let w = its_own (0 == v.0) e f in record { o = placed 0 2 6; found = w.0; same = w.1; far = subst (λ (y : Entry). reaches four y.at ≡ true) w.1 refl };
}

pub returns-clause-not_kept : goal.returns-clause-not_kept
returns-clause-not_kept c = λ h. never (entry 0 2 6) (h.placed (viewer 0) (placed 0 2 6) refl refl refl) refl

pub returns-clause-other_rate : goal.returns-clause-other_rate
returns-clause-other_rate c = λ h.
    let one = one_some (entry 0 2 5) (entry 0 2 6) refl (h.placed (viewer 0) (placed 0 2 6) refl refl refl) in
    let rate : ◌≡◌ {A = ℕ} 5 6 = ap (λ (e : Entry). e.rate) one in
    omega (arith, rate)

pub returns-clause-released : goal.returns-clause-released
returns-clause-released c = λ h.
    let w = h.told.0 refl in
    let one = one_some (placed 0 2 6) w.o refl w.found in
    clash (ap (λ (o : Own). is_live o.state) (sym one)) w.ended
