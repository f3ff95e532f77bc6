-- The messages that a journal says were got are the takes of the events that wrote it, with their numbers.
use Rattle.std.proofs.Common.{◌≡◌, ℕ, ◌+◌, ◌<◌, ◌≤◌, List, [], ◌∷◌, ◌++◌, map, length, true, false, Option, Some, None, refl, ap, sym, ◌∙◌, subst, arith, append_assoc, append-nil, length-append, cond, ⊎_elim}
use Rattle.std.specs.Prelude.{◌⊎◌, ◌==◌, ◌&&◌, nat_le, nat_lt}
use Rattle.std.specs.List.{AllByRecursion}
use Rattle.std.proofs.lemmas.Bool.{cases_Bool, and_parts}
use Rattle.std.proofs.lemmas.Bool.Decides.{nat_tests}
use Rattle.std.proofs.lemmas.List.{length-map}
use Rattle.std.proofs.lemmas.List.Elements.{filter-append}
use Rattle.tiger_base.specs.declared.number.Stamp.{Stamp}
use Rattle.tiger_base.specs.declared.message.Note.{Note}
use Rattle.slot_plan.specs.declared.params.Params.{Params}
use Rattle.node_kit.specs.declared.course.Course.{Course}
use Rattle.node_kit.specs.declared.journal.Entry.{Entry}
use Rattle.node_kit.specs.declared.journal.What.{What}
use Rattle.node_kit.specs.declared.journal.What.TheVariants as what
use Rattle.node_kit.specs.declared.outbox.Out.{Out}
use Rattle.node_kit.specs.declared.outbox.Out.TheVariants as out
use Rattle.node_kit.specs.Outputs.{with_death}
use Rattle.node_kit.specs.Steps.{Input, Deed, IsAllowed, IsOwnEntry, entry_of}
use Rattle.node_kit.specs.Steps.Input.{Take, Tick}
use Rattle.node_kit.specs.Life.{back_of, ends_in, lifetime_of}
use Rattle.node_kit.specs.Links.{IsInLink}
use Rattle.run_facts.specs.Carried.{got_on, since, until}
use Rattle.run_facts.specs.Accounts.{AreHere, IsLed}
use Rattle.run_facts.specs.Events.{NodeEvent, Past, Dated, after, kept_outs, left_outs, outs_of, AreFair, is_return, entries_at, stamp_at, written, take_on, noted_as}
use Rattle.run_facts.specs.Events.NodeEvent.{Does, Ends, Dies, Returns}
use Rattle.run_facts.proofs.Along.{got_on-append, got-written}
use Rattle.run_facts.proofs.Rows.{all-weaker, filter-all}
use Rattle.ring_world.specs.declared.event.Act.{Act}
use Rattle.ring_world.specs.declared.event.Act.TheVariants as act
use Rattle.ring_world.specs.declared.event.Last.TheVariants as last
use Rattle.ring_world.specs.Merging.{place_along}
use Rattle.ring_world.proofs.Ways.{place-append, place-one}
use Rattle.kept_worlds.specs.Events.{said_in, sends_said, behind_take, is_none, is_last_take, message_got, get_told, get_of, gets_behind, in_life, number_told}
use Rattle.kept_worlds.proofs.Said.{death-behind, said-append}

-- what a node takes in its events, each with its beat and its number, if these happened to it before, and on each link
-- so many messages were sent below its return
abbrev pub takes_behind : {M : Type 0} → (ℕ → ℕ) → List (NodeEvent M) → List (NodeEvent M) → List (Dated Act)
takes_behind lost before [] = []
takes_behind lost before (Does (Take stamp link msg) ∷ es) =
    (record { beat = stamp.beat; item = act.Get link (place_along link.0 (lost link.0) 0 before) })
    ∷ takes_behind lost (before ++ Does (Take stamp link msg) ∷ []) es
takes_behind lost before (Does (Tick stamp) ∷ es) = takes_behind lost (before ++ Does (Tick stamp) ∷ []) es
takes_behind lost before (Ends (Take stamp link msg) sends ∷ es) =
    (record { beat = stamp.beat; item = act.DieIn (last.Get link (place_along link.0 (lost link.0) 0 before)) sends })
    ∷ takes_behind lost (before ++ Ends (Take stamp link msg) sends ∷ []) es
takes_behind lost before (Ends (Tick stamp) sends ∷ es) = takes_behind lost (before ++ Ends (Tick stamp) sends ∷ []) es
takes_behind lost before (Dies stamp ∷ es) = takes_behind lost (before ++ Dies stamp ∷ []) es
takes_behind lost before (Returns stamp ∷ es) = takes_behind lost (before ++ Returns stamp ∷ []) es

-- entries that say of no message that it was got
get-none : (c : Course) (n : ℕ) (lost : ℕ → ℕ) (b : ℕ) (before : List Entry) (w : What) (es : List Entry) → message_got w ≡ None
    → get_of c n lost b before w es ≡ []
get-none c n lost b before (what.Got link message) es h = absurd (cc)
get-none c n lost b before other es h = refl

gets-skip : (c : Course) (n : ℕ) (lost : ℕ → ℕ) (before xs ys : List Entry)
    → AllByRecursion (λ (e : Entry). message_got e.what ≡ None) xs
    → gets_behind c n lost before (xs ++ ys) ≡ gets_behind c n lost (before ++ xs) ys
gets-skip c n lost before [] ys h = ap (λ q. gets_behind c n lost q ys) (sym (append-nil before))
gets-skip c n lost before (x ∷ xs) ys h =
    rw (get-none c n lost x.stamp.beat before x.what (xs ++ ys) h.0)
    (gets-skip c n lost (before ++ x ∷ []) xs ys h.1
    ∙ ap (λ q. gets_behind c n lost q ys) (append_assoc before (x ∷ []) xs))

-- an entry of a node's own is such a one
own-none : (w : What) → IsOwnEntry w → message_got w ≡ None
own-none (what.Got link message) h = absurd h
own-none other h = refl

outs-none : {M : Type 0} (note : M → Note) (p : Params) (n : ℕ) (stamp : Stamp) (os : List (Out M))
    → AllByRecursion (IsAllowed note p n) os → AllByRecursion (λ (e : Entry). message_got e.what ≡ None) (map (entry_of note stamp) os)
outs-none note p n stamp [] h = tt
outs-none note p n stamp (out.Send link msg ∷ os) h = (refl, outs-none note p n stamp os h.1)
outs-none note p n stamp (out.Act w ∷ os) h = (own-none w h.0, outs-none note p n stamp os h.1)

died-none : {M : Type 0} (note : M → Note) (stamp : Stamp) (os : List (Out M))
    → AllByRecursion (λ (e : Entry). message_got e.what ≡ None) (map (entry_of note stamp) os)
    → AllByRecursion (λ (e : Entry). message_got e.what ≡ None) (map (entry_of note stamp) (os ++ out.Act what.Died ∷ []))
died-none note stamp [] h = (refl, tt)
died-none note stamp (o ∷ os) h = (h.0, died-none note stamp os h.1)

cut-none : {M : Type 0} (note : M → Note) (p : Params) (n : ℕ) (stamp : Stamp) (os : List (Out M))
    → AllByRecursion (IsAllowed note p n) os
    → AllByRecursion (λ (e : Entry). message_got e.what ≡ None) (map (entry_of note stamp) (with_death os))
cut-none {M} note p n stamp os h =
    subst (λ (q : List (Out M)). AllByRecursion (λ (e : Entry). message_got e.what ≡ None) (map (entry_of note stamp) q))
    (sym (death-behind note p n os h)) (died-none note stamp os (outs-none note p n stamp os h))

-- Before events of a life of node n, entries give a message on a link to it the number that the events give it.
abbrev pub AreLevel : {M : Type 0} → Course → ℕ → (told lost : ℕ → ℕ) → (ℕ → Type 0) → List Entry → List (NodeEvent M) → Type 0
AreLevel c n told lost IsOfIt earlier before =
    (b : ℕ) → IsOfIt b → (l : ℕ) → IsInLink c.plan.params n l
    → number_told c n told b l earlier ≡ place_along l (lost l) 0 before

-- a beat is of the first life, or of the later one, of a node that returns in this beat or in none
abbrev pub IsInFirst : Option ℕ → ℕ → Type 0
IsInFirst None b = Unit {0}
IsInFirst (Some back) b = b < back

abbrev pub IsInLater : Option ℕ → ℕ → Type 0
IsInLater None b = ⊥
IsInLater (Some back) b = back ≤ b

-- of messages got in one life all are of it
pub life-more : (back : Option ℕ) (IsOfIt : ℕ → Type 0)
    → (((b : ℕ) → IsOfIt b → IsInFirst back b) ⊎ ((b : ℕ) → IsOfIt b → IsInLater back b))
    → (b x : ℕ) → IsOfIt b → IsOfIt x → (ds es : List (Dated Note)) → AllByRecursion (λ (d : Dated Note). d.beat ≡ x) es
    → length (in_life back b (ds ++ es)) ≡ length (in_life back b ds) + length es
life-more None IsOfIt which b x here there ds es dated = length-append ds es
life-more (Some back) IsOfIt which b x here there ds es dated = ⊎_elim
    (λ (first : (b : ℕ) → IsOfIt b → b < back).
    let low = first b here in
    let also = first x there in
    let t : nat_le back b ≡ false = grind (arith, nat_tests, low) in
    let all = filter-all (λ (d : Dated Note). nat_lt d.beat back) es
    (all-weaker (λ (d : Dated Note). d.beat ≡ x) (λ d. nat_lt d.beat back ≡ true) es
    (λ d e. grind (arith, nat_tests, e, also)) dated) in
    rw t (ap length (filter-append (λ (d : Dated Note). nat_lt d.beat back) ds es)
    ∙ ap (λ q. length (until back ds ++ q)) all ∙ length-append (until back ds) es))
    (λ (later : (b : ℕ) → IsOfIt b → back ≤ b).
    let high = later b here in
    let also = later x there in
    let t : nat_le back b ≡ true = grind (arith, nat_tests, high) in
    let all = filter-all (λ (d : Dated Note). nat_le back d.beat) es
    (all-weaker (λ (d : Dated Note). d.beat ≡ x) (λ d. nat_le back d.beat ≡ true) es
    (λ d e. grind (arith, nat_tests, e, also)) dated) in
    rw t (ap length (filter-append (λ (d : Dated Note). nat_le back d.beat) ds es)
    ∙ ap (λ q. length (since back ds ++ q)) all ∙ length-append (since back ds) es))
    which

-- what is got in an event is got in its beat
got-dated : {M S : Type 0} (note : M → Note) (step : S → Input M → Deed M S) (l : ℕ) (e : NodeEvent M)
    → AllByRecursion (λ (d : Dated Note). d.beat ≡ (stamp_at e).beat) (map (noted_as note) (take_on l e ++ []))
got-dated note step l (Does (Take s k m)) = ⊎_elim
    (λ (t : (k.0 == l) ≡ true). rw t (refl, tt))
    (λ (t : (k.0 == l) ≡ false). rw t tt)
    (cases_Bool (k.0 == l))
got-dated note step l (Does (Tick s)) = tt
got-dated note step l (Ends (Take s k m) sends) = ⊎_elim
    (λ (t : (k.0 == l) ≡ true). rw t (refl, tt))
    (λ (t : (k.0 == l) ≡ false). rw t tt)
    (cases_Bool (k.0 == l))
got-dated note step l (Ends (Tick s) sends) = tt
got-dated note step l (Dies s) = tt
got-dated note step l (Returns s) = tt

module _ {M S : Type 0} (note : M → Note) (step : S → Input M → Deed M S) (c : Course) (n : ℕ) where
  -- a take is told as one, if these entries stand behind what the event wrote, and as one in which the death comes with so
  -- many messages if it does
  abbrev pub IsToldAs : NodeEvent M → List Entry → Past S → Type 0
  IsToldAs (Does (Take stamp link msg)) later past =
      is_last_take c n stamp.beat (note msg)
      (map (entry_of note stamp) (kept_outs step (Take stamp link msg) past) ++ later) ≡ false
  IsToldAs (Does (Tick stamp)) later past = Unit {0}
  IsToldAs (Ends (Take stamp link msg) sends) later past =
      (is_last_take c n stamp.beat (note msg)
      (map (entry_of note stamp) (with_death (left_outs step (Take stamp link msg) sends past)) ++ later) ≡ true)
      × (sends_said (said_in stamp.beat
      (map (entry_of note stamp) (with_death (left_outs step (Take stamp link msg) sends past)) ++ later)) ≡ sends)
  IsToldAs (Ends (Tick stamp) sends) later past = Unit {0}
  IsToldAs (Dies stamp) later past = Unit {0}
  IsToldAs (Returns stamp) later past = Unit {0}

  abbrev pub AreToldAs : List (NodeEvent M) → Past S → Type 0
  AreToldAs [] past = Unit {0}
  AreToldAs (e ∷ es) past =
      IsToldAs e (written note step es (after note step e past)) past × AreToldAs es (after note step e past)

  -- and so if these entries stand behind all
  abbrev pub AreToldBefore : List Entry → List (NodeEvent M) → Past S → Type 0
  AreToldBefore tail [] past = Unit {0}
  AreToldBefore tail (e ∷ es) past =
      IsToldAs e (written note step es (after note step e past) ++ tail) past × AreToldBefore tail es (after note step e past)

  module _ (tail : List Entry) (silent : (b : ℕ) → ends_in (lifetime_of c n) b ≡ true → said_in b tail ≡ []) where
    said-same : (b : ℕ) (own later : List Entry) → ends_in (lifetime_of c n) b ≡ true
        → said_in b (own ++ (later ++ tail)) ≡ said_in b (own ++ later)
    said-same b own later cut =
        said-append b own (later ++ tail)
        ∙ ap (λ q. said_in b own ++ q) (said-append b later tail ∙ ap (λ q. said_in b later ++ q) (silent b cut)
        ∙ append-nil (said_in b later))
        ∙ sym (said-append b own later)

    last-same : (b : ℕ) (message : Note) (own later : List Entry)
        → is_last_take c n b message (own ++ (later ++ tail)) ≡ is_last_take c n b message (own ++ later)
    last-same b message own later = ⊎_elim
        (λ (cut : ends_in (lifetime_of c n) b ≡ true).
        ap (λ ws. ends_in (lifetime_of c n) b && is_none (behind_take message ws)) (said-same b own later cut))
        (λ (whole : ends_in (lifetime_of c n) b ≡ false). rw whole refl)
        (cases_Bool (ends_in (lifetime_of c n) b))

    cut-of_last : (b : ℕ) (message : Note) (es : List Entry) → is_last_take c n b message es ≡ true
        → ends_in (lifetime_of c n) b ≡ true
    cut-of_last b message es t = (and_parts (ends_in (lifetime_of c n) b) (is_none (behind_take message (said_in b es))) t).0

    told-one : (e : NodeEvent M) (later : List Entry) (past : Past S) → IsToldAs e later past → IsToldAs e (later ++ tail) past
    told-one (Does (Take s l m)) later past t =
        last-same s.beat (note m) (map (entry_of note s) (kept_outs step (Take s l m) past)) later ∙ t
    told-one (Does (Tick s)) later past t = tt
    told-one (Ends (Take s l m) sends) later past t =
        let own = map (entry_of note s) (with_death (left_outs step (Take s l m) sends past)) in (
          last-same s.beat (note m) own later ∙ t.0,
          ap sends_said (said-same s.beat own later (cut-of_last s.beat (note m) (own ++ later) t.0)) ∙ t.1,
        )
    told-one (Ends (Tick s) sends) later past t = tt
    told-one (Dies s) later past t = tt
    told-one (Returns s) later past t = tt

    pub told-before : (es : List (NodeEvent M)) (past : Past S) → AreToldAs es past → AreToldBefore tail es past
    told-before [] past t = tt
    told-before (e ∷ es) past t =
        (told-one e (written note step es (after note step e past)) past t.0, told-before es (after note step e past) t.1)

module _ {M S : Type 0} (note : M → Note) (step : S → Input M → Deed M S) (c : Course) (n : ℕ)
    (numbers lost : ℕ → ℕ) (IsOfIt : ℕ → Type 0)
    (which : ((b : ℕ) → IsOfIt b → IsInFirst (back_of c n) b) ⊎ ((b : ℕ) → IsOfIt b → IsInLater (back_of c n) b)) where
  level-more : (earlier : List Entry) (before : List (NodeEvent M)) (e : NodeEvent M) (past : Past S) → is_return e ≡ false
      → IsOfIt (stamp_at e).beat → AllByRecursion (IsAllowed note c.plan.params n) (outs_of step e past)
      → AreLevel c n numbers lost IsOfIt earlier before
      → AreLevel c n numbers lost IsOfIt (earlier ++ entries_at note step e past) (before ++ e ∷ [])
  level-more earlier before e past here of_it fair level b now l led =
      let wrote = entries_at note step e past in
      let got : got_on l wrote ≡ map (noted_as note) (take_on l e ++ []) =
      ap (got_on l) (sym (append-nil wrote)) ∙ got-written note step c.plan.params n l (e ∷ []) past (fair, tt) in
      let same : length (map (noted_as note) (take_on l e ++ [])) ≡ length (take_on l e) =
      length-map (take_on l e ++ []) (noted_as note) ∙ ap length (append-nil (take_on l e)) in
      let old = level b now l led in
      let number = place_along l (lost l) 0 before in
      let one = place-one l (lost l) number e here in
      let more = life-more (back_of c n) IsOfIt which b (stamp_at e).beat now of_it (got_on l earlier)
      (map (noted_as note) (take_on l e ++ [])) (got-dated note step l e) in
      let all : in_life (back_of c n) b (got_on l (earlier ++ wrote))
      ≡ in_life (back_of c n) b (got_on l earlier ++ map (noted_as note) (take_on l e ++ [])) =
      ap (in_life (back_of c n) b) (got_on-append l earlier wrote ∙ ap (λ q. got_on l earlier ++ q) got) in
      let count = ap length all in
      (let sum : number_told c n numbers b l (earlier ++ wrote) ≡ place_along l (lost l) number (e ∷ []) =
      omega (arith, same, old, one, more, count) in sum)
      ∙ sym (place-append l (lost l) 0 before (e ∷ []))

  -- what an event writes that takes nothing is skipped
  skipped : (tail earlier : List Entry) (before : List (NodeEvent M)) (e : NodeEvent M) (es : List (NodeEvent M)) (past : Past S)
      → AllByRecursion (λ (f : Entry). message_got f.what ≡ None) (entries_at note step e past) → (taken : List (Dated Act))
      → gets_behind c n numbers (earlier ++ entries_at note step e past) (written note step es (after note step e past) ++ tail)
      ≡ taken ++ gets_behind c n numbers ((earlier ++ entries_at note step e past) ++ written note step es (after note step e past)) tail
      → gets_behind c n numbers earlier (written note step (e ∷ es) past ++ tail)
      ≡ taken ++ gets_behind c n numbers (earlier ++ written note step (e ∷ es) past) tail
  skipped tail earlier before e es past none taken rest =
      let wrote = entries_at note step e past in
      let mine = written note step es (after note step e past) in
      ap (gets_behind c n numbers earlier) (append_assoc wrote mine tail)
      ∙ gets-skip c n numbers earlier wrote (mine ++ tail) none ∙ rest
      ∙ ap (λ q. taken ++ gets_behind c n numbers q tail) (append_assoc earlier wrote mine)

  -- a message got, and then entries that say of none that it was got
  got-then : (earlier : List Entry) (first : Entry) (a : Act) (outs later : List Entry)
      → get_of c n numbers first.stamp.beat earlier first.what (outs ++ later) ≡ a ∷ []
      → AllByRecursion (λ (e : Entry). message_got e.what ≡ None) outs
      → gets_behind c n numbers earlier (first ∷ (outs ++ later))
      ≡ (record { beat = first.stamp.beat; item = a }) ∷ gets_behind c n numbers (earlier ++ first ∷ outs) later
  got-then earlier first a outs later is none =
      ap (λ taken. map (λ (x : Act). record { beat = first.stamp.beat; item = x }) taken
      ++ gets_behind c n numbers (earlier ++ first ∷ []) (outs ++ later)) is
      ∙ ap (λ q. (record { beat = first.stamp.beat; item = a }) ∷ q)
      (gets-skip c n numbers (earlier ++ first ∷ []) outs later none
      ∙ ap (λ q. gets_behind c n numbers q later) (append_assoc earlier (first ∷ []) outs))

  pub gets-written : (tail earlier : List Entry) (before es : List (NodeEvent M)) (past : Past S)
      → AreHere es → AllByRecursion (λ (e : NodeEvent M). IsOfIt (stamp_at e).beat) es → AllByRecursion (IsLed c.plan.params n) es
      → AreFair note step c.plan.params n es past → AreToldBefore note step c n tail es past
      → AreLevel c n numbers lost IsOfIt earlier before
      → gets_behind c n numbers earlier (written note step es past ++ tail)
      ≡ takes_behind lost before es ++ gets_behind c n numbers (earlier ++ written note step es past) tail
  gets-written tail earlier before [] past here its led fair told level =
      ap (λ q. gets_behind c n numbers q tail) (sym (append-nil earlier))
  gets-written tail earlier before (Does (Take stamp link msg) ∷ es) past here its led fair told level =
      let e : NodeEvent M = Does (Take stamp link msg) in
      let outs = map (entry_of note stamp) (kept_outs step (Take stamp link msg) past) in
      let first : Entry = record { stamp = stamp; what = what.Got link (note msg) } in
      let mine = written note step es (after note step e past) in
      let later = mine ++ tail in
      let number = number_told c n numbers stamp.beat link.0 earlier in
      let rest = gets-written tail (earlier ++ first ∷ outs) (before ++ e ∷ []) es (after note step e past) here.1 its.1 led.1 fair.1
      told.1 (level-more earlier before e past here.0 its.0 fair.0 level) in
      let item : get_told c n stamp.beat link (note msg) number (outs ++ later) ≡ act.Get link number =
      ap (λ b. cond b (act.DieIn (last.Get link number) (sends_said (said_in stamp.beat (outs ++ later)))) (act.Get link number)) told.0 in
      ap (λ q. gets_behind c n numbers earlier (first ∷ q)) (append_assoc outs mine tail)
      ∙ got-then earlier first (act.Get link number) outs later (ap (λ (a : Act). a ∷ []) item)
      (outs-none note c.plan.params n stamp (kept_outs step (Take stamp link msg) past) fair.0)
      ∙ ap (λ k. (record { beat = stamp.beat; item = act.Get link k }) ∷ gets_behind c n numbers (earlier ++ first ∷ outs) later)
      (level stamp.beat its.0 link.0 led.0)
      ∙ ap (λ q. (record { beat = stamp.beat; item = act.Get link (place_along link.0 (lost link.0) 0 before) }) ∷ q)
      (rest ∙ ap (λ q. takes_behind lost (before ++ e ∷ []) es ++ gets_behind c n numbers q tail)
      (append_assoc earlier (first ∷ outs) mine))
  gets-written tail earlier before (Ends (Take stamp link msg) sends ∷ es) past here its led fair told level =
      let e : NodeEvent M = Ends (Take stamp link msg) sends in
      let left = left_outs step (Take stamp link msg) sends past in
      let outs = map (entry_of note stamp) (with_death left) in
      let first : Entry = record { stamp = stamp; what = what.Got link (note msg) } in
      let mine = written note step es (after note step e past) in
      let later = mine ++ tail in
      let number = number_told c n numbers stamp.beat link.0 earlier in
      let rest = gets-written tail (earlier ++ first ∷ outs) (before ++ e ∷ []) es (after note step e past) here.1 its.1 led.1 fair.1
      told.1 (level-more earlier before e past here.0 its.0 fair.0 level) in
      let item : get_told c n stamp.beat link (note msg) number (outs ++ later) ≡ act.DieIn (last.Get link number) sends =
      ap (λ b. cond b (act.DieIn (last.Get link number) (sends_said (said_in stamp.beat (outs ++ later)))) (act.Get link number)) told.0.0
      ∙ ap (λ k. act.DieIn (last.Get link number) k) told.0.1 in
      ap (λ q. gets_behind c n numbers earlier (first ∷ q)) (append_assoc outs mine tail)
      ∙ got-then earlier first (act.DieIn (last.Get link number) sends) outs later (ap (λ (a : Act). a ∷ []) item)
      (cut-none note c.plan.params n stamp left fair.0)
      ∙ ap (λ k. (record { beat = stamp.beat; item = act.DieIn (last.Get link k) sends })
      ∷ gets_behind c n numbers (earlier ++ first ∷ outs) later) (level stamp.beat its.0 link.0 led.0)
      ∙ ap (λ q. (record { beat = stamp.beat; item = act.DieIn (last.Get link (place_along link.0 (lost link.0) 0 before)) sends }) ∷ q)
      (rest ∙ ap (λ q. takes_behind lost (before ++ e ∷ []) es ++ gets_behind c n numbers q tail)
      (append_assoc earlier (first ∷ outs) mine))
  gets-written tail earlier before (Does (Tick stamp) ∷ es) past here its led fair told level =
      let e : NodeEvent M = Does (Tick stamp) in
      let rest = gets-written tail (earlier ++ entries_at note step e past) (before ++ e ∷ []) es (after note step e past)
      here.1 its.1 led.1 fair.1 told.1 (level-more earlier before e past here.0 its.0 fair.0 level) in
      skipped tail earlier before e es past (outs-none note c.plan.params n stamp (kept_outs step (Tick stamp) past) fair.0) _ rest
  gets-written tail earlier before (Ends (Tick stamp) sends ∷ es) past here its led fair told level =
      let e : NodeEvent M = Ends (Tick stamp) sends in
      let rest = gets-written tail (earlier ++ entries_at note step e past) (before ++ e ∷ []) es (after note step e past)
      here.1 its.1 led.1 fair.1 told.1 (level-more earlier before e past here.0 its.0 fair.0 level) in
      skipped tail earlier before e es past (cut-none note c.plan.params n stamp (left_outs step (Tick stamp) sends past) fair.0) _ rest
  gets-written tail earlier before (Dies stamp ∷ es) past here its led fair told level =
      let e : NodeEvent M = Dies stamp in
      let rest = gets-written tail (earlier ++ entries_at note step e past) (before ++ e ∷ []) es (after note step e past)
      here.1 its.1 led.1 fair.1 told.1 (level-more earlier before e past here.0 its.0 fair.0 level) in
      skipped tail earlier before e es past (refl, tt) _ rest
  gets-written tail earlier before (Returns stamp ∷ es) past here its led fair told level = let q = here.0 in absurd (cc)
