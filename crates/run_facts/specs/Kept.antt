-- What a course says of a history: when events happen, what the links bring, and in which order.
use Rattle.std.specs.Prelude.{◌≡◌, ℕ, ◌<◌, ◌≤◌, List, Some, length}
use Rattle.tiger_base.specs.declared.number.Stamp.{Stamp}
use Rattle.tiger_base.specs.declared.number.LinkNo.{LinkNo}
use Rattle.tiger_base.specs.declared.message.Note.{Note}
use Rattle.link_timing.specs.Clock.{new_clock}
use Rattle.node_kit.specs.declared.course.Course.{Course}
use Rattle.node_kit.specs.declared.journal.Entry.{Entry}
use Rattle.node_kit.specs.Courses.{reading_of}
use Rattle.node_kit.specs.Life.{lifetime_of}
use Rattle.node_kit.specs.Links.{links_of, ends_of}
use Rattle.node_kit.specs.Steps.{Input, Deed}
use Rattle.run_facts.specs.Histories.{History, HaveHistory, TakesAt, HasCut, beat, reading, sent, taken}
use Rattle.run_facts.specs.Paced.{ArePacedOn}

-- A history keeps its course if each event happens at the reading that its node's clock shows in that
-- beat; if on each link exactly those messages are taken that the link's clock brings to a living
-- receiver within the run's beats, each in the beat in which it is brought, and it missed only what had
-- not had its turn when its death came; and if of two messages that a node takes in one beat the first
-- came on no higher link.
pub record KeepsCourse {M S : Type 0} (note : M → Note) (step : S → Input M → Deed M S)
    (c : Course) (nodes : ℕ) (h : History M S) : Type 0 where
  pub stamped : (n i : ℕ) → n < nodes → i < h.count n → reading h n i ≡ reading_of c n (beat h n i)
  pub on_links : (l from to : ℕ) → from < nodes → to < nodes
      → ends_of (links_of c.plan.params) l ≡ Some (from, to)
      → ArePacedOn (new_clock l c.delay c.plan.params.delay) (lifetime_of c to) c.beats (HasCut l h to)
      (sent note step l h from (h.count from)) (taken l h to (h.count to))
  pub in_turn : (n i j : ℕ) (a b : Stamp) (k l : LinkNo) (m o : M)
      → n < nodes → i < j → j < h.count n
      → TakesAt (h.event n i) a k m → TakesAt (h.event n j) b l o
      → a.beat ≡ b.beat → k.0 ≤ l.0

-- The nodes given have lived, by their own steps, through a history that keeps its course, and each of
-- them has a journal and is given back.
pub record HaveKept {M S : Type 0} (note : M → Note) (step : S → Input M → Deed M S)
    (c : Course) (given nodes : List S) (journals : List (List Entry)) : Type 0 where
  pub lived : HaveHistory note step c.plan.params (lifetime_of c) c.beats given nodes journals
  pub keeps : KeepsCourse note step c (length given) lived.history
  pub each_has_journal : length journals ≡ length given
  pub each_is_back : length nodes ≡ length given
