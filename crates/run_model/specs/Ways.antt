-- What is left to compare along a link.
use Rattle.std.specs.Prelude.{◌≡◌, ℕ, ◌+◌, ◌≤◌, Bool, true, false, nat_lt, nat_le, List, ◌∷◌, length, drop, filter, Some}
use Rattle.std.specs.Prelude.{slice_get}
use Rattle.tiger_base.specs.declared.message.Note.{Note}
use Rattle.node_kit.specs.declared.course.Kept.{Kept}
use Rattle.node_kit.specs.declared.journal.Entry.{Entry}
use Rattle.node_kit.specs.Life.{Lifetime, lifetime_of}
use Rattle.node_kit.specs.Links.{links_of, ends_of}
use Rattle.run_facts.specs.Events.{Dated}
use Rattle.run_facts.specs.Carried.{sent_by, sent_on, got_by, got_on, AreFrontOn, AreCarriedOn}
use Rattle.run_model.specs.declared.carrying.Half.{Half}
use Rattle.run_model.specs.declared.carrying.Half.TheVariants.{All, Until, Since}
use Rattle.run_model.specs.declared.carrying.Way.{Way}
use Rattle.run_model.specs.declared.carrying.Arrival.{Arrival}

-- the life of the node that the way leads to
abbrev pub life_by : Way → Lifetime
life_by way = record { death = way.death; left = way.left; back = way.back; over = false }

-- whether a beat is one of those
abbrev pub is_of : Half → ℕ → Bool
is_of All beat = true
is_of (Until back) beat = nat_lt beat back
is_of (Since back) beat = nat_le back beat

-- of what was sent, or got, that in the beats that are compared
abbrev pub halved : Way → List (Dated Note) → List (Dated Note)
halved way ds = filter (λ d. is_of way.half d.beat) ds

-- what an entry says was sent, or got, in those beats on the link
abbrev pub sent_in : Way → Entry → List (Dated Note)
sent_in way e = halved way (sent_by way.link.0 e.stamp.beat e.what)

abbrev pub got_in : Way → Entry → List (Dated Note)
got_in way e = halved way (got_by way.link.0 e.stamp.beat e.what)

-- the notes got are a front of those sent
abbrev pub CarriesOn : Way → List (Dated Note) → List (Dated Note) → Type 0
CarriesOn way sent got = AreFrontOn way.most way.beats (life_by way) sent got

-- those of a way's beats in whole journals
abbrev pub HalfCarries : Way → List Entry → List Entry → Type 0
HalfCarries way sender receiver =
    CarriesOn way (halved way (sent_on way.link.0 sender)) (halved way (got_on way.link.0 receiver))

-- those of the beats below the return, and those of the others
abbrev pub BothCarry : Way → ℕ → List Entry → List Entry → Type 0
BothCarry way back sender receiver =
    HalfCarries (record way { half = Until back }) sender receiver
    × HalfCarries (record way { half = Since back }) sender receiver

-- and those of all beats
abbrev pub WayCarries : Way → List Entry → List Entry → Type 0
WayCarries way sender receiver =
    AreCarriedOn way.most way.beats (life_by way) (sent_on way.link.0 sender) (got_on way.link.0 receiver)

-- what is left of a receiver's journal from an entry on
abbrev pub got_from : Way → ℕ → List Entry → List (Dated Note)
got_from way next receiver = halved way (got_on way.link.0 (drop next receiver))

-- the first note got there, and where the journal goes on behind it
pub record IsNext (way : Way) (next : ℕ) (receiver : List Entry) (a : Arrival) : Type 0 where
  pub inside : a.next ≤ length receiver
  pub first : got_from way next receiver ≡ (record { beat = a.beat; item = a.note }) ∷ got_from way a.next receiver

-- what was got is what was sent, from one beat to the greatest delay later
abbrev pub IsInTime : Way → ℕ → Note → Arrival → Type 0
IsInTime way sent note a = (a.note ≡ note) × (sent + 1 ≤ a.beat) × (a.beat ≤ sent + way.most)

-- a link of a kept run carries, if the journals of both its nodes are there
abbrev pub LinkCarries : Kept → ℕ → Type 0
LinkCarries k l = (from to : ℕ) (sender receiver : List Entry) → ends_of (links_of k.course.plan.params) l ≡ Some (from, to)
    → slice_get k.journals from ≡ Some sender → slice_get k.journals to ≡ Some receiver
    → AreCarriedOn k.course.plan.params.delay k.course.beats (lifetime_of k.course to) (sent_on l sender) (got_on l receiver)
