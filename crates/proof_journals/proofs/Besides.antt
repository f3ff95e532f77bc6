-- What the moments need beside one schedule, from the laws.
use Rattle.std.proofs.Common.{ℕ, ◌<◌, ◌≤◌, ⊎_elim, inl, inr, arith}
use Rattle.std.specs.Prelude.{◌⊎◌}
use Rattle.tiger_base.specs.declared.tenancy.Ask.{Ask}
use Rattle.tiger_base.specs.declared.tenancy.Tenancy.{Tenancy}
use Rattle.slot_plan.specs.declared.params.Params.{Params}
use Rattle.slot_plan.specs.Conditions.{IsPlan}
use Rattle.slot_plan.specs.Times.{time_of, due}
use Rattle.slot_plan.proofs.Times.{time_next}
use Rattle.proof_schedule.specs.Facts.{Facts, IsFirstLife, PutBy, ReachedBy}
use Rattle.proof_schedule.specs.Laws.{Laws}
use Rattle.proof_schedule.specs.StartLaws.{Waits, IsInWindow}
use Rattle.proof_schedule.proofs.Follows.{runs}
use Rattle.proof_schedule.proofs.Room.{room_of}
use Rattle.proof_schedule.proofs.Soon.{placed}
use Rattle.proof_moments.specs.Ties.{Besides, IsHeldAt}
use Rattle.proof_facts.specs.Facts.{facts_of}
use Rattle.proof_facts.specs.Laws.{CubLaws, ShowsSlot}
use Rattle.proof_journals.specs.Journals.{LawsGiveBesides}
use Rattle.proof_journals.proofs.Ending.{tick_below_death}

-- Whatever the facts are: a tick of a first life has to be in a lower beat than the death.
module _ (p : Params) (r : Facts) (plan : IsPlan p) (law : Laws p r) (cubs : CubLaws p r) where
  held_at : (c s n b : ℕ) → ShowsSlot r c s n b → IsHeldAt p r c s n b
  held_at c s n b k =
      let q = (runs p r plan law).shown c n b k.holder k.shows in
      let next = time_next p b in
      let beat = plan.ranges.beat.0 in
      record {
        taken = record {
          holder = k.holder;
          slot = k.slot;
          held = q.0;
          recent = λ z gone. let l = q.1 z gone in omega arith;
        };
        shows = k.shows;
      }

  waits_at : (c y b l s n : ℕ) (ask : Ask) → Waits p r c ask n y b → y ≤ b → r.Ticked c b l → IsFirstLife r c b
      → s < p.slots → IsInWindow p l s n
      → IsHeldAt p r c s n b ⊎ (PutBy r ask.instance.0 b ⊎ ReachedBy r c ask.instance.0 b)
  waits_at c y b l s n ask k le w first slot window = ⊎_elim
      (λ a. inl (held_at c s n b a))
      (λ o. inr (⊎_elim (λ a. inl (placed p (room_of p plan) r law a)) (λ a. inr a) o))
      (cubs.rest.waits_shown s n k le w first slot window)

  undue : (c n b : ℕ) (t : Tenancy) → r.Shows c t n b → time_of p b < due p t.slot.0 n
  undue c n b t s =
      let k = law.states.shows s in
      let low = (law.run.reads k.ticked).0 in
      let u = k.undue in
      omega arith

  pub besides : ((c b l a : ℕ) → r.Ticked c b l → IsFirstLife r c b → r.Died c a → b < a) → Besides p r
  besides ended = record {
    ended = ended;
    returned = λ c w back. law.run.returned back;
    apart = λ c d a b died other next. law.run.apart died other next;
    put = λ c x a t i d. let k = law.states.inserts i in law.run.last k.tick.came d k.first;
    reads = λ c b l w. law.run.reads w;
    undue = undue;
    waits = waits_at;
  }

pub laws_give_besides : (S : Type 0) → LawsGiveBesides S
laws_give_besides S step p orders disk_at added h plan ring law cubs =
    besides p (facts_of p orders h) plan law cubs (tick_below_death ring)
