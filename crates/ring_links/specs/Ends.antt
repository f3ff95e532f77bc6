-- What a clause sees of an end: which link it is of, its own list, and up to which beat it is closed; and what an end keeps.
use base.Stored.{Coded, coded×, coded_ℕ, coded_list, coded_via}
use Rattle.std.specs.Prelude.{◌≡◌, ℕ, ◌≤◌, Bool, true, false, List, [], ◌∷◌, ◌++◌, length, drop}
use Rattle.std.specs.List.{AllByRecursion}
use Rattle.atomic_table.specs.Seated.{TableId, table_id_coded}
use Rattle.run_facts.specs.declared.mail.Flight.{Flight}
use Rattle.ring_links.specs.declared.line.Side.{Side}
use Rattle.ring_links.specs.declared.board.Knows.{Knows}
use Rattle.ring_links.specs.Flights.{IsOrdered, AllFrom}
use Rattle.ring_links.specs.Linked.{most}
use Rattle.ring_links.specs.Marked.{given_by, below_of}

-- the name of a link: of its queue and of its word
abbrev pub LineId : Type 0
LineId = (ℕ × ℕ) × TableId

pub record End (M : Type 0) : Type 0 where
  pub line : LineId
  pub flights : List (Flight M)
  pub closed : ℕ

abbrev pub end_coded : {M : Type 0} → Coded (Flight M) → Coded (End M)
end_coded {M} c =
    coded_via (coded× (coded× (coded× coded_ℕ coded_ℕ) table_id_coded) (coded× (coded_list c) coded_ℕ))
    (λ (e : End M). (e.line, (e.flights, e.closed)))
    (λ x y e i. record { line = (e i).0; flights = (e i).1.0; closed = (e i).1.1 })

module _ {M : Type 0} where
  -- both ends are of one link, on which nothing was sent and no beat is closed
  pub record AreOfNewLink (out into : End M) : Type 0 where
    pub line : out.line ≡ into.line
    pub sent : out.flights ≡ []
    pub received : into.flights ≡ []
    pub out_closed : out.closed ≡ 0
    pub in_closed : into.closed ≡ 0

  abbrev pub AreNewLinks : List (End M × End M) → Type 0
  AreNewLinks links = AllByRecursion (λ (e : End M × End M). AreOfNewLink e.0 e.1) links

  -- a word of the link is true of what was sent: the messages behind those that it counts were sent in no beat that it closes
  abbrev pub IsTrueOf : List (Flight M) → ℕ → ℕ → Type 0
  IsTrueOf sent closed word =
      (given_by word ≤ length sent) × (below_of word ≤ closed) × AllFrom (below_of word) (drop (given_by word) sent)

  pub record IsSender (v : Side M) (k : Knows) (count closed : ℕ) : Type 0 where
    pub sends : v.sends ≡ true
    pub takes : v.takes ≡ false
    pub got : v.got ≡ []
    pub count_is : count ≡ length v.sent
    pub within : count ≤ most
    pub ordered : IsOrdered v.sent
    pub writes : k.writes ≡ true
    pub honest : AllByRecursion (IsTrueOf v.sent closed) k.marks

  pub record IsReceiver (v : Side M) (k : Knows) (count closed : ℕ) (spoilt : Bool) : Type 0 where
    pub sends : v.sends ≡ false
    pub takes : v.takes ≡ true
    pub sent : v.sent ≡ []
    pub all : spoilt ≡ false → count ≡ length v.got
    pub within : count ≤ length v.got
    pub short : length v.got ≤ most
    pub ordered : IsOrdered v.got
    pub writes : k.writes ≡ false
    pub word : ℕ
    pub front : List ℕ
    pub back : List ℕ
    pub known : k.marks ≡ front ++ word ∷ back
    pub reached : given_by word ≤ count
    pub closed_is : closed ≡ below_of word
    pub lost : spoilt ≡ true → AllFrom closed (drop count v.got) → ⊥
