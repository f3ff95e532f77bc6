-- Numbers that are a plan have no false condition, and its ranges are three parts.
use Rattle.std.proofs.Common.{◌≡◌, false, IsTrue, Some, None, refl}
use Rattle.std.proofs.lemmas.Bool.{lt-ltb, le-leb}
use Rattle.slot_plan.specs.declared.params.Params.{Params}
use Rattle.slot_plan.specs.declared.params.PlanFault.{PlanFault}
use Rattle.slot_plan.specs.Conditions.{IsInRange, IsPlan, plan_fault}
use Rattle.audit_read.specs.Drafts.{SizesInRange, WindowsInRange, LeadsInRange}

pub in_range : (p : Params) → SizesInRange p → WindowsInRange p → LeadsInRange p → IsInRange p
in_range p a b c = record {
  cubs = a.0;
  disks = a.1;
  slots = a.2;
  play = a.3;
  pieces = a.4;
  block = a.5;
  beat = b.0;
  delay = b.1;
  skew = b.2;
  window_a = b.3;
  window_b = b.4;
  read_lead = b.5;
  min_lead = c.0;
  max_lead = c.1;
  batch = c.2;
  heart = c.3;
  deadman = c.4;
  hold = c.5;
}

pub none_false : (p : Params) → IsPlan p → plan_fault p ≡ None
unfolding plan_fault
none_false p h =
    rw (lt-ltb _ _ h.c1, le-leb _ _ h.c2, le-leb _ _ h.c3, le-leb _ _ h.c4, le-leb _ _ h.c5, le-leb _ _ h.c6, le-leb _ _ h.c7, le-leb _ _ h.c8, le-leb _ _ h.c9, le-leb _ _ h.c10, le-leb _ _ h.c11, le-leb _ _ h.c12) refl

pub no_plan : (p : Params) (f : PlanFault) → plan_fault p ≡ Some f → (IsTrue false → IsPlan p) × (IsPlan p → IsTrue false)
no_plan p f e = (λ t. absurd (cc), λ h. let none : plan_fault p ≡ None = none_false p h in absurd (cc))
