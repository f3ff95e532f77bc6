-- What is sent is got: on each link the notes got are a front of the notes sent, each in time.
use Rattle.std.specs.Prelude.{◌≡◌, ℕ, ◌+◌, ◌≤◌, ◌==◌, List, [], ◌∷◌, Option, Some, None, slice_get, ◌⊎◌, if◌then◌else◌}
use Rattle.std.specs.Prelude.{◌<◌, nat_lt, nat_le, filter}
use Rattle.std.specs.List.{AllByRecursion, flat_map}
use Rattle.tiger_base.specs.declared.message.Note.{Note}
use Rattle.slot_plan.specs.declared.params.Params.{Params}
use Rattle.node_kit.specs.declared.journal.What.{What}
use Rattle.node_kit.specs.declared.journal.What.TheVariants as what
use Rattle.node_kit.specs.declared.journal.Entry.{Entry}
use Rattle.node_kit.specs.Life.{Lifetime}
use Rattle.node_kit.specs.Links.{links_of, ends_of, IsInLink, IsOutLink}
use Rattle.run_facts.specs.Events.{Dated}

-- what an entry says was sent, or was got, on a link
abbrev pub sent_by : ℕ → ℕ → What → List (Dated Note)
sent_by l beat (what.Sent link note) = if link.0 == l then (record { beat = beat; item = note }) ∷ [] else []
sent_by l beat other = []

abbrev pub got_by : ℕ → ℕ → What → List (Dated Note)
got_by l beat (what.Got link note) = if link.0 == l then (record { beat = beat; item = note }) ∷ [] else []
got_by l beat other = []

-- the notes that a journal says were sent, or were got, on a link
unfoldable pub sent_on : ℕ → List Entry → List (Dated Note)
sent_on l journal = flat_map (λ e. sent_by l e.stamp.beat e.what) journal

unfoldable pub got_on : ℕ → List Entry → List (Dated Note)
got_on l journal = flat_map (λ e. got_by l e.stamp.beat e.what) journal

-- a node with this death died in a beat or before
abbrev pub DiedBy : Option ℕ → ℕ → Type 0
DiedBy None beat = ⊥
DiedBy (Some death) beat = death ≤ beat

-- a node with this return had not returned in a beat or before
abbrev pub NotBackBy : Option ℕ → ℕ → Type 0
NotBackBy None beat = Unit {0}
NotBackBy (Some back) beat = beat < back

-- a note sent in a beat may be lost: the run's beats end by the last beat in which it may arrive, or its receiver
-- died by then and had not returned by the beat in which it was sent
abbrev pub MayBeLost : ℕ → ℕ → Lifetime → ℕ → Type 0
MayBeLost most beats life sent = (beats ≤ sent + most) ⊎ (DiedBy life.death (sent + most) × NotBackBy life.back sent)

-- the notes got are a front of those sent, each from one beat to the greatest delay later, and the rest may be lost
abbrev pub AreFrontOn : ℕ → ℕ → Lifetime → List (Dated Note) → List (Dated Note) → Type 0
AreFrontOn most beats life [] [] = Unit {0}
AreFrontOn most beats life [] (g ∷ gs) = ⊥
AreFrontOn most beats life (s ∷ ss) [] = MayBeLost most beats life s.beat × AreFrontOn most beats life ss []
AreFrontOn most beats life (s ∷ ss) (g ∷ gs) =
    (g.item ≡ s.item) × (s.beat + 1 ≤ g.beat) × (g.beat ≤ s.beat + most) × AreFrontOn most beats life ss gs

-- those of the beats below one, and those of the others
abbrev pub until : {X : Type 0} → ℕ → List (Dated X) → List (Dated X)
until back ds = filter (λ d. nat_lt d.beat back) ds

abbrev pub since : {X : Type 0} → ℕ → List (Dated X) → List (Dated X)
since back ds = filter (λ d. nat_le back d.beat) ds

-- so it is of all, or, if the receiver returns, of those of the beats below its return and apart from that of the
-- others
abbrev pub AreCarriedBy : ℕ → ℕ → Lifetime → Option ℕ → List (Dated Note) → List (Dated Note) → Type 0
AreCarriedBy most beats life None sent got = AreFrontOn most beats life sent got
AreCarriedBy most beats life (Some back) sent got =
    AreFrontOn most beats life (until back sent) (until back got) × AreFrontOn most beats life (since back sent)
    (since back got)

abbrev pub AreCarriedOn : ℕ → ℕ → Lifetime → List (Dated Note) → List (Dated Note) → Type 0
AreCarriedOn most beats life sent got = AreCarriedBy most beats life life.back sent got

-- a Got stands at its link's receiver, and a Sent at its sender
abbrev pub IsAtItsEnd : Params → ℕ → What → Type 0
IsAtItsEnd p n (what.Got link note) = IsInLink p n link.0
IsAtItsEnd p n (what.Sent link note) = IsOutLink p n link.0
IsAtItsEnd p n other = Unit {0}

-- so it is on each link between the nodes of these journals, which have these lives
pub record AreCarried (p : Params) (beats : ℕ) (lives : ℕ → Lifetime) (journals : List (List Entry)) : Type 0 where
  pub on_links : (l from to : ℕ) (sender receiver : List Entry) → ends_of (links_of p) l ≡ Some (from, to)
      → slice_get journals from ≡ Some sender → slice_get journals to ≡ Some receiver
      → AreCarriedOn p.delay beats (lives to) (sent_on l sender) (got_on l receiver)
  pub at_ends : (n : ℕ) (journal : List Entry) → slice_get journals n ≡ Some journal
      → AllByRecursion (λ e. IsAtItsEnd p n e.what) journal
