-- What is asked of a kept run as a whole: its order, and that it is carried and timed.
use Rattle.std.specs.Prelude.{ℕ, ◌<◌, Bool, true, false, ◌≡◌, List, Option, Some, None, slice_get}
use Rattle.std.specs.List.{fold}
use Rattle.node_kit.specs.declared.course.Kept.{Kept}
use Rattle.node_kit.specs.declared.journal.Entry.{Entry}
use Rattle.node_kit.specs.Courses.{reading_of}
use Rattle.node_kit.specs.Life.{Lifetime, lifetime_of, acts, back_of, ends_in}
use Rattle.run_facts.specs.Carried.{AreCarried}
use Rattle.run_facts.specs.Timed.{is_died, death_within, AreReturned, AreTimed, DieApart}
use Rattle.run_facts.specs.Order.{Noted, order_of}
use Rattle.run_model.specs.Orders.{IsNotPassedOver, end_of_tick}

-- all entries of the run's beats
abbrev pub order_in : Kept → List Noted
order_in k = order_of k.course.beats k.journals

-- what was sent was got, where the deaths are those of the course
abbrev pub IsCarriedRun : Kept → Type 0
IsCarriedRun k = AreCarried k.course.plan.params k.course.beats (lifetime_of k.course) k.journals

-- whether the last entry of a journal is a death
abbrev pub ends_dead : List Entry → Bool
ends_dead journal = fold (λ died e. is_died e.what) false journal

-- a journal tells its node's return, if it has one, in the beat of it: Returned is exactly the entry behind Died, and if
-- the run comes to that beat, Died is not the last entry
pub record TellsReturn (beats : ℕ) (back : Option ℕ) (journal : List Entry) : Type 0 where
  pub behind : AreReturned back false journal
  pub comes : ends_dead journal ≡ true → death_within beats back ≡ None

-- each entry was written at its time, each death and each return is the course's, and no two cubs side by side die
pub record IsTimedRun (k : Kept) : Type 0 where
  pub timed : AreTimed k.course.plan.params k.course.beats (lifetime_of k.course) k.journals
  pub apart : DieApart k.course.plan.params (lifetime_of k.course)
  pub returns : (n : ℕ) (journal : List Entry) → slice_get k.journals n ≡ Some journal
      → TellsReturn k.course.beats (back_of k.course n) journal

-- a node with this life ends a beat by a whole tick: it acts in the beat, and its death does not come in an event of it
abbrev pub EndsBeat : Lifetime → ℕ → Type 0
EndsBeat life beat = (acts life beat ≡ true) × (ends_in life beat ≡ false)

-- no start is passed over at a whole tick of a cub
abbrev pub NoneIsPassedOver : Kept → Type 0
NoneIsPassedOver k = (c beat : ℕ) → c < k.course.plan.params.cubs → beat < k.course.beats
    → EndsBeat (lifetime_of k.course c) beat
    → IsNotPassedOver k.course.plan.params k.orders (end_of_tick beat c (order_in k)) c beat (reading_of k.course c beat)
