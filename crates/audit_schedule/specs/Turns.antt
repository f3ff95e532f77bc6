-- The order in which viewers are served, said of an entry and of those before it, and what a walk keeps for that.
use Rattle.std.specs.Prelude.{◌≡◌, ℕ, ◌≤◌, Bool, true, false, ◌==◌, nat_le, nat_lt, List, [], ◌∷◌, ◌++◌, Option, Some, None, if◌then◌else◌}
use Rattle.std.specs.List.{AllByRecursion}
use Rattle.tiger_base.specs.declared.tenancy.Want.{Want}
use Rattle.slot_plan.specs.declared.params.Params.{Params}
use Rattle.node_kit.specs.Links.{links_of, viewers_of}
use Rattle.run_facts.specs.Events.{Dated}
use Rattle.run_facts.specs.Order.{Noted, beat_of}
use Rattle.run_model.specs.Fronts.{AnyByRecursion}
use Rattle.run_claims.specs.Deliveries.{sent_by, got_by, sent_in, got_in}
use Rattle.run_claims.specs.Turns.{IsGotBefore}
use Rattle.audit_frame.specs.Tables.{MarkNumbers, mark_under}

-- what an entry sends to the viewers, and what they get in it
abbrev pub sent_here : Noted → List (Dated Want)
sent_here x = sent_by (beat_of x) x.entry.what

abbrev pub got_here : Params → Noted → List (Dated Want)
got_here p x = if x.node == viewers_of (links_of p) then got_by (beat_of x) x.entry.what else []

-- what an entry sends was preceded by what the viewers got of earlier visits, and nothing was sent of visits later than
-- that of which they get something in it
pub record IsInTurnHere (p : Params) (front : List Noted) (x : Noted) : Type 0 where
  pub sent : AllByRecursion (λ s. AllByRecursion (λ g. IsGotBefore g s) (got_in p front)) (sent_here x)
  pub got : AllByRecursion (λ g. AllByRecursion (IsGotBefore g) (sent_in front)) (got_here p x)

-- a log with one more entry
abbrev pub with_entry : List Noted → Noted → List Noted
with_entry front x = front ++ x ∷ []

-- what is carried, if anything is, dated with a beat
abbrev pub dated_if : ℕ → Option Want → List (Dated Want)
dated_if beat None = []
dated_if beat (Some want) = (record { beat = beat; item = want }) ∷ []

-- ---- what a walk keeps

abbrev pub IsOfInstance : ℕ → Dated Want → Type 0
IsOfInstance v d = d.item.instance.0 ≡ v

-- of what was sent for an instance, the latest visit
abbrev pub IsLatestVisit : ℕ → List (Dated Want) → Option ℕ → Type 0
IsLatestVisit v sent None = AllByRecursion (λ s. IsOfInstance v s → ⊥) sent
IsLatestVisit v sent (Some visit) =
    AllByRecursion (λ s. IsOfInstance v s → s.item.visit ≤ visit) sent
    × AnyByRecursion (λ s. IsOfInstance v s × (s.item.visit ≡ visit)) sent

-- of what was got for an instance, the last beat, and the earliest visit of which something was got in it
abbrev pub IsNotBehind : ℕ → ℕ → ℕ → Dated Want → Type 0
IsNotBehind v beat visit g = IsOfInstance v g → (g.beat ≤ beat) × (g.beat ≡ beat → visit ≤ g.item.visit)

abbrev pub IsExactly : ℕ → ℕ → ℕ → Dated Want → Type 0
IsExactly v beat visit g = IsOfInstance v g × ((g.beat ≡ beat) × (g.item.visit ≡ visit))

abbrev pub IsLastGot : ℕ → List (Dated Want) → Option ℕ → Option ℕ → Type 0
IsLastGot v got None visit = AllByRecursion (λ g. IsOfInstance v g → ⊥) got
IsLastGot v got (Some beat) None = ⊥
IsLastGot v got (Some beat) (Some visit) =
    AllByRecursion (IsNotBehind v beat visit) got × AnyByRecursion (IsExactly v beat visit) got

-- three tables of marks by instance tell both
pub record TellsTurns (p : Params) (latest last lowest : MarkNumbers) (front : List Noted) : Type 0 where
  pub sent : (v : ℕ) → IsLatestVisit v (sent_in front) (mark_under v latest)
  pub got : (v : ℕ) → IsLastGot v (got_in p front) (mark_under v last) (mark_under v lowest)

-- ---- how it is judged by, and kept

abbrev pub is_beat : Option ℕ → ℕ → Bool
is_beat None beat = false
is_beat (Some other) beat = other == beat

abbrev pub is_low : Option ℕ → ℕ → Bool
is_low None visit = true
is_low (Some lowest) visit = nat_le visit lowest

abbrev pub is_latest : Option ℕ → ℕ → Bool
is_latest None visit = true
is_latest (Some latest) visit = nat_le latest visit

abbrev pub later_of : Option ℕ → ℕ → ℕ
later_of None visit = visit
later_of (Some latest) visit = if nat_lt latest visit then visit else latest

abbrev pub lower_of : Option ℕ → ℕ → ℕ
lower_of None visit = visit
lower_of (Some lowest) visit = if nat_lt visit lowest then visit else lowest

-- the lower of two visits, if both were got in one beat, and else the new one
abbrev pub lowest_of : Bool → Option ℕ → ℕ → ℕ
lowest_of again lowest visit = if again then lower_of lowest visit else visit

-- the marks of an instance after what an entry sends, and after what the viewers get in it: one thing at most
abbrev pub latest_with : Option ℕ → ℕ → List (Dated Want) → Option ℕ
latest_with latest v [] = latest
latest_with latest v (s ∷ ss) = if s.item.instance.0 == v then Some (later_of latest s.item.visit) else latest

abbrev pub last_with : Option ℕ → ℕ → List (Dated Want) → Option ℕ
last_with last v [] = last
last_with last v (g ∷ gs) = if g.item.instance.0 == v then Some g.beat else last

abbrev pub lowest_with : Option ℕ → Option ℕ → ℕ → List (Dated Want) → Option ℕ
lowest_with last lowest v [] = lowest
lowest_with last lowest v (g ∷ gs) =
    if g.item.instance.0 == v then Some (lowest_of (is_beat last g.beat) lowest g.item.visit) else lowest
