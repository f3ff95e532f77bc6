-- What a node's events write: when, by which link, until which death, and at which end of a link.
use Rattle.std.proofs.Common.{◌≡◌, ℕ, ◌≤◌, List, [], ◌∷◌, ◌++◌, map, true, false, refl}
use Rattle.std.proofs.Common.{arith, ⊎_elim}
use Rattle.std.specs.List.{AllByRecursion}
use Rattle.std.proofs.lemmas.Bool.{cases_Bool}
use Rattle.tiger_base.specs.declared.number.Stamp.{Stamp}
use Rattle.tiger_base.specs.declared.number.LinkNo.{LinkNo}
use Rattle.tiger_base.specs.declared.message.Note.{Note}
use Rattle.slot_plan.specs.declared.params.Params.{Params}
use Rattle.node_kit.specs.declared.journal.What.{What}
use Rattle.node_kit.specs.declared.journal.What.TheVariants as what
use Rattle.node_kit.specs.declared.journal.Entry.{Entry}
use Rattle.node_kit.specs.declared.outbox.Out.{Out}
use Rattle.node_kit.specs.declared.outbox.Out.TheVariants as out
use Rattle.node_kit.specs.Life.{Lifetime}
use Rattle.node_kit.specs.Outputs.{with_death, ends_in_death}
use Rattle.node_kit.specs.Steps.{Input, Deed, IsAllowed, IsOwnEntry, entry_of}
use Rattle.node_kit.specs.Steps.Input.{Take, Tick}
use Rattle.run_facts.specs.Events.{NodeEvent, Past, after, kept_outs, left_outs, stamp_at, AreFair}
use Rattle.run_facts.specs.Events.{entries_at, written}
use Rattle.run_facts.specs.Events.NodeEvent.{Does, Ends, Dies, Returns}
use Rattle.run_facts.specs.Carried.{IsAtItsEnd}
use Rattle.run_facts.specs.Paced.{IsByLink, AreByLink}
pub use Rattle.run_facts.specs.Paced.{is_got}
use Rattle.run_facts.specs.Timed.{is_died}
use Rattle.run_facts.specs.Accounts.{Rising, IsLed, IsInTurn, AreInTurn, IsTimeline}
use Rattle.std.proofs.lemmas.List.{map-append}
use Rattle.run_facts.proofs.Rows.{all-append, all-weaker, all-given}

-- entries have their events' stamps
stamped-outs : {M : Type 0} (note : M → Note) (Q : Stamp → Type 0) (stamp : Stamp) (os : List (Out M)) → Q stamp
    → AllByRecursion (λ x. Q x.stamp) (map (entry_of note stamp) os)
stamped-outs note Q stamp [] h = tt
stamped-outs note Q stamp (o ∷ os) h = (h, stamped-outs note Q stamp os h)

stamped-entries : {M S : Type 0} (note : M → Note) (step : S → Input M → Deed M S) (Q : Stamp → Type 0)
    (e : NodeEvent M) (past : Past S) → Q (stamp_at e)
    → AllByRecursion (λ x. Q x.stamp) (entries_at note step e past)
stamped-entries note step Q (Does (Take stamp link msg)) past h =
    (h, stamped-outs note Q stamp (kept_outs step (Take stamp link msg) past) h)
stamped-entries note step Q (Does (Tick stamp)) past h = stamped-outs note Q stamp (kept_outs step (Tick stamp) past) h
stamped-entries note step Q (Ends (Take stamp link msg) sends) past h =
    (h, stamped-outs note Q stamp (with_death (left_outs step (Take stamp link msg) sends past)) h)
stamped-entries note step Q (Ends (Tick stamp) sends) past h =
    stamped-outs note Q stamp (with_death (left_outs step (Tick stamp) sends past)) h
stamped-entries note step Q (Dies stamp) past h = (h, tt)
stamped-entries note step Q (Returns stamp) past h = tt

pub stamped-written : {M S : Type 0} (note : M → Note) (step : S → Input M → Deed M S) (Q : Stamp → Type 0)
    (es : List (NodeEvent M)) (past : Past S)
    → AllByRecursion (λ e. Q (stamp_at e)) es → AllByRecursion (λ x. Q x.stamp) (written note step es past)
stamped-written note step Q [] past h = tt
stamped-written note step Q (e ∷ es) past h =
    all-append (λ (x : Entry). Q x.stamp) (entries_at note step e past) (written note step es (after note step e past))
    (stamped-entries note step Q e past h.0) (stamped-written note step Q es (after note step e past) h.1)

-- beats never fall
pub rising-append : {X : Type 0} (f : X → ℕ) (b : ℕ) (xs ys : List X) → AllByRecursion (λ x. f x ≡ b) xs
    → AllByRecursion (λ y. b ≤ f y) ys → Rising f ys → Rising f (xs ++ ys)
rising-append f b [] ys h g r = r
rising-append {X} f b (x ∷ xs) ys h g r =
    let same = h.0 in (
      all-append (λ (y : X). f x ≤ f y) xs ys
          (all-weaker (λ (y : X). f y ≡ b) (λ y. f x ≤ f y) xs (λ y e. omega (arith, e, same)) h.1)
          (all-weaker (λ (y : X). b ≤ f y) (λ y. f x ≤ f y) ys (λ y l. omega (arith, l, same)) g),
      rising-append f b xs ys h.1 g r,
    )

-- an entry of an output is no Got and no Died
own-plain : (w : What) → IsOwnEntry w → (is_got w ≡ false) × (is_died w ≡ false)
own-plain (what.Got link note) h = absurd h
own-plain what.Died h = absurd h
own-plain other h = (refl, refl)

own-placed : (p : Params) (n : ℕ) (w : What) → IsOwnEntry w → IsAtItsEnd p n w
own-placed p n (what.Got link note) h = absurd h
own-placed p n (what.Sent link note) h = absurd h
own-placed p n other h = tt

pub plain-outs : {M : Type 0} (note : M → Note) (p : Params) (n : ℕ) (stamp : Stamp) (os : List (Out M))
    → AllByRecursion (IsAllowed note p n) os
    → AllByRecursion (λ (x : Entry). (is_got x.what ≡ false) × (is_died x.what ≡ false)) (map (entry_of note stamp) os)
plain-outs note p n stamp [] h = tt
plain-outs note p n stamp (out.Send link msg ∷ os) h = ((refl, refl), plain-outs note p n stamp os h.1)
plain-outs note p n stamp (out.Act w ∷ os) h = (own-plain w h.0, plain-outs note p n stamp os h.1)

-- and Died behind them is no Got
pub ungot-death : {M : Type 0} (note : M → Note) (p : Params) (n : ℕ) (stamp : Stamp) (os : List (Out M))
    → AllByRecursion (IsAllowed note p n) os
    → AllByRecursion (λ (x : Entry). is_got x.what ≡ false) (map (entry_of note stamp) (with_death os))
ungot-death note p n stamp os h =
    let plain = all-weaker (λ (y : Entry). (is_got y.what ≡ false) × (is_died y.what ≡ false))
    (λ y. is_got y.what ≡ false) (map (entry_of note stamp) os) (λ y g. g.0) (plain-outs note p n stamp os h) in
    ⊎_elim
    (λ (e : ends_in_death os ≡ true). rw e plain)
    (λ (e : ends_in_death os ≡ false). rw (e, map-append (entry_of note stamp) os (out.Act what.Died ∷ []))
    (all-append (λ (x : Entry). is_got x.what ≡ false) (map (entry_of note stamp) os)
    ((record { stamp = stamp; what = what.Died }) ∷ []) plain (refl, tt)))
    (cases_Bool (ends_in_death os))

-- by link
unlinked : (b : ℕ) (w : What) (c : ℕ) (v : What) → is_got w ≡ false → IsByLink b w c v
unlinked b (what.Got link note) c v h = absurd (cc)
unlinked b other c v h = tt

unlinked-later : (b : ℕ) (w : What) (c : ℕ) (v : What) → is_got v ≡ false → IsByLink b w c v
unlinked-later b (what.Got link note) c (what.Got link' note') h = absurd (cc)
unlinked-later b (what.Got link note) c other h = tt
unlinked-later b other c v h = tt

abbrev LinksUp : Entry → Entry → Type 0
LinksUp e f = IsByLink e.stamp.beat e.what f.stamp.beat f.what

-- entries that are no Got stand before any
plain-before : (xs ys : List Entry) → AllByRecursion (λ (x : Entry). is_got x.what ≡ false) xs → AreByLink ys
    → AreByLink (xs ++ ys)
plain-before [] ys h g = g
plain-before (x ∷ xs) ys h g = (
  all-given (LinksUp x) (xs ++ ys) (λ y. unlinked x.stamp.beat x.what y.stamp.beat y.what h.0),
  plain-before xs ys h.1 g,
)

-- behind a message taken on a link
got-before : {M S : Type 0} (note : M → Note) (step : S → Input M → Deed M S) (p : Params) (n : ℕ) (stamp : Stamp)
    (link : LinkNo) (msg : M) (es : List (NodeEvent M)) (past : Past S)
    → AllByRecursion (IsInTurn (Does (Take stamp link msg))) es → AreFair note step p n es past
    → AllByRecursion (LinksUp (record { stamp = stamp; what = what.Got link (note msg) })) (written note step es past)
got-before note step p n stamp link msg [] past h fair = tt
got-before note step p n stamp link msg (Does (Take later other more) ∷ es) past h fair = (
  h.0,
  all-append (LinksUp (record { stamp = stamp; what = what.Got link (note msg) }))
      (map (entry_of note later) (kept_outs step (Take later other more) past))
      (written note step es (after note step (Does (Take later other more)) past))
      (all-weaker (λ (y : Entry). (is_got y.what ≡ false) × (is_died y.what ≡ false))
      (LinksUp (record { stamp = stamp; what = what.Got link (note msg) }))
      (map (entry_of note later) (kept_outs step (Take later other more) past))
      (λ y g. unlinked-later stamp.beat (what.Got link (note msg)) y.stamp.beat y.what g.0)
      (plain-outs note p n later (kept_outs step (Take later other more) past) fair.0))
      (got-before note step p n stamp link msg es (after note step (Does (Take later other more)) past) h.1 fair.1),
)
got-before note step p n stamp link msg (Does (Tick later) ∷ es) past h fair =
    all-append (LinksUp (record { stamp = stamp; what = what.Got link (note msg) }))
    (map (entry_of note later) (kept_outs step (Tick later) past))
    (written note step es (after note step (Does (Tick later)) past))
    (all-weaker (λ (y : Entry). (is_got y.what ≡ false) × (is_died y.what ≡ false))
    (LinksUp (record { stamp = stamp; what = what.Got link (note msg) }))
    (map (entry_of note later) (kept_outs step (Tick later) past))
    (λ y g. unlinked-later stamp.beat (what.Got link (note msg)) y.stamp.beat y.what g.0)
    (plain-outs note p n later (kept_outs step (Tick later) past) fair.0))
    (got-before note step p n stamp link msg es (after note step (Does (Tick later)) past) h.1 fair.1)
got-before note step p n stamp link msg (Ends (Take later other more) sends ∷ es) past h fair =
    let os = left_outs step (Take later other more) sends past in (
      h.0,
      all-append (LinksUp (record { stamp = stamp; what = what.Got link (note msg) }))
          (map (entry_of note later) (with_death os))
          (written note step es (after note step (Ends (Take later other more) sends) past))
          (all-weaker (λ (y : Entry). is_got y.what ≡ false)
          (LinksUp (record { stamp = stamp; what = what.Got link (note msg) }))
          (map (entry_of note later) (with_death os))
          (λ y g. unlinked-later stamp.beat (what.Got link (note msg)) y.stamp.beat y.what g)
          (ungot-death note p n later os fair.0))
          (got-before note step p n stamp link msg es (after note step (Ends (Take later other more) sends) past) h.1
          fair.1),
    )
got-before note step p n stamp link msg (Ends (Tick later) sends ∷ es) past h fair =
    let os = left_outs step (Tick later) sends past in
    all-append (LinksUp (record { stamp = stamp; what = what.Got link (note msg) }))
    (map (entry_of note later) (with_death os))
    (written note step es (after note step (Ends (Tick later) sends) past))
    (all-weaker (λ (y : Entry). is_got y.what ≡ false)
    (LinksUp (record { stamp = stamp; what = what.Got link (note msg) }))
    (map (entry_of note later) (with_death os))
    (λ y g. unlinked-later stamp.beat (what.Got link (note msg)) y.stamp.beat y.what g)
    (ungot-death note p n later os fair.0))
    (got-before note step p n stamp link msg es (after note step (Ends (Tick later) sends) past) h.1 fair.1)
got-before note step p n stamp link msg (Returns later ∷ es) past h fair =
    got-before note step p n stamp link msg es (after note step (Returns later) past) h.1 fair.1
got-before note step p n stamp link msg (Dies later ∷ es) past h fair =
    (tt, got-before note step p n stamp link msg es (after note step (Dies later) past) h.1 fair.1)

no-gots : (xs : List Entry) → AllByRecursion (λ (x : Entry). (is_got x.what ≡ false) × (is_died x.what ≡ false)) xs
    → AllByRecursion (λ (x : Entry). is_got x.what ≡ false) xs
no-gots xs h = all-weaker (λ (x : Entry). (is_got x.what ≡ false) × (is_died x.what ≡ false))
    (λ x. is_got x.what ≡ false) xs (λ x g. g.0) h

by_link-written : {M S : Type 0} (note : M → Note) (step : S → Input M → Deed M S) (p : Params) (n : ℕ)
    (es : List (NodeEvent M)) (past : Past S)
    → AreInTurn es → AreFair note step p n es past → AreByLink (written note step es past)
by_link-written note step p n [] past h fair = tt
by_link-written note step p n (Does (Take stamp link msg) ∷ es) past h fair =
    let outs = map (entry_of note stamp) (kept_outs step (Take stamp link msg) past) in
    let rest = written note step es (after note step (Does (Take stamp link msg)) past) in
    let plain = plain-outs note p n stamp (kept_outs step (Take stamp link msg) past) fair.0 in (
      all-append (LinksUp (record { stamp = stamp; what = what.Got link (note msg) })) outs rest
          (all-weaker (λ (y : Entry). (is_got y.what ≡ false) × (is_died y.what ≡ false))
          (LinksUp (record { stamp = stamp; what = what.Got link (note msg) })) outs
          (λ y g. unlinked-later stamp.beat (what.Got link (note msg)) y.stamp.beat y.what g.0) plain)
          (got-before note step p n stamp link msg es (after note step (Does (Take stamp link msg)) past) h.0 fair.1),
      plain-before outs rest (no-gots outs plain)
          (by_link-written note step p n es (after note step (Does (Take stamp link msg)) past) h.1 fair.1),
    )
by_link-written note step p n (Does (Tick stamp) ∷ es) past h fair =
    let outs = map (entry_of note stamp) (kept_outs step (Tick stamp) past) in
    plain-before outs (written note step es (after note step (Does (Tick stamp)) past))
    (no-gots outs (plain-outs note p n stamp (kept_outs step (Tick stamp) past) fair.0))
    (by_link-written note step p n es (after note step (Does (Tick stamp)) past) h.1 fair.1)
by_link-written note step p n (Ends (Take stamp link msg) sends ∷ es) past h fair =
    let os = left_outs step (Take stamp link msg) sends past in
    let outs = map (entry_of note stamp) (with_death os) in
    let rest = written note step es (after note step (Ends (Take stamp link msg) sends) past) in
    let plain = ungot-death note p n stamp os fair.0 in (
      all-append (LinksUp (record { stamp = stamp; what = what.Got link (note msg) })) outs rest
          (all-weaker (λ (y : Entry). is_got y.what ≡ false)
          (LinksUp (record { stamp = stamp; what = what.Got link (note msg) })) outs
          (λ y g. unlinked-later stamp.beat (what.Got link (note msg)) y.stamp.beat y.what g) plain)
          (got-before note step p n stamp link msg es (after note step (Ends (Take stamp link msg) sends) past) h.0
          fair.1),
      plain-before outs rest plain
          (by_link-written note step p n es (after note step (Ends (Take stamp link msg) sends) past) h.1 fair.1),
    )
by_link-written note step p n (Ends (Tick stamp) sends ∷ es) past h fair =
    plain-before (map (entry_of note stamp) (with_death (left_outs step (Tick stamp) sends past)))
    (written note step es (after note step (Ends (Tick stamp) sends) past))
    (ungot-death note p n stamp (left_outs step (Tick stamp) sends past) fair.0)
    (by_link-written note step p n es (after note step (Ends (Tick stamp) sends) past) h.1 fair.1)
by_link-written note step p n (Returns stamp ∷ es) past h fair =
    by_link-written note step p n es (after note step (Returns stamp) past) h.1 fair.1
by_link-written note step p n (Dies stamp ∷ es) past h fair =
    plain-before ((record { stamp = stamp; what = what.Died }) ∷ [])
    (written note step es (after note step (Dies stamp) past)) (refl, tt)
    (by_link-written note step p n es (after note step (Dies stamp) past) h.1 fair.1)

-- at the ends of links
placed-outs : {M : Type 0} (note : M → Note) (p : Params) (n : ℕ) (stamp : Stamp) (os : List (Out M))
    → AllByRecursion (IsAllowed note p n) os
    → AllByRecursion (λ (x : Entry). IsAtItsEnd p n x.what) (map (entry_of note stamp) os)
placed-outs note p n stamp [] h = tt
placed-outs note p n stamp (out.Send link msg ∷ os) h = (h.0.0, placed-outs note p n stamp os h.1)
placed-outs note p n stamp (out.Act w ∷ os) h = (own-placed p n w h.0, placed-outs note p n stamp os h.1)

placed-death : {M : Type 0} (note : M → Note) (p : Params) (n : ℕ) (stamp : Stamp) (os : List (Out M))
    → AllByRecursion (IsAllowed note p n) os
    → AllByRecursion (λ (x : Entry). IsAtItsEnd p n x.what) (map (entry_of note stamp) (with_death os))
placed-death note p n stamp os h = ⊎_elim
    (λ (e : ends_in_death os ≡ true). rw e (placed-outs note p n stamp os h))
    (λ (e : ends_in_death os ≡ false). rw (e, map-append (entry_of note stamp) os (out.Act what.Died ∷ []))
    (all-append (λ (x : Entry). IsAtItsEnd p n x.what) (map (entry_of note stamp) os)
    ((record { stamp = stamp; what = what.Died }) ∷ []) (placed-outs note p n stamp os h) (tt, tt)))
    (cases_Bool (ends_in_death os))

pub placed-written : {M S : Type 0} (note : M → Note) (step : S → Input M → Deed M S) (p : Params) (n : ℕ)
    (es : List (NodeEvent M)) (past : Past S)
    → AllByRecursion (IsLed p n) es → AreFair note step p n es past
    → AllByRecursion (λ (x : Entry). IsAtItsEnd p n x.what) (written note step es past)
placed-written note step p n [] past h fair = tt
placed-written note step p n (Does (Take stamp link msg) ∷ es) past h fair = (
  h.0,
  all-append (λ (x : Entry). IsAtItsEnd p n x.what)
      (map (entry_of note stamp) (kept_outs step (Take stamp link msg) past))
      (written note step es (after note step (Does (Take stamp link msg)) past))
      (placed-outs note p n stamp (kept_outs step (Take stamp link msg) past) fair.0)
      (placed-written note step p n es (after note step (Does (Take stamp link msg)) past) h.1 fair.1),
)
placed-written note step p n (Does (Tick stamp) ∷ es) past h fair =
    all-append (λ (x : Entry). IsAtItsEnd p n x.what) (map (entry_of note stamp) (kept_outs step (Tick stamp) past))
    (written note step es (after note step (Does (Tick stamp)) past))
    (placed-outs note p n stamp (kept_outs step (Tick stamp) past) fair.0)
    (placed-written note step p n es (after note step (Does (Tick stamp)) past) h.1 fair.1)
placed-written note step p n (Ends (Take stamp link msg) sends ∷ es) past h fair = (
  h.0,
  all-append (λ (x : Entry). IsAtItsEnd p n x.what)
      (map (entry_of note stamp) (with_death (left_outs step (Take stamp link msg) sends past)))
      (written note step es (after note step (Ends (Take stamp link msg) sends) past))
      (placed-death note p n stamp (left_outs step (Take stamp link msg) sends past) fair.0)
      (placed-written note step p n es (after note step (Ends (Take stamp link msg) sends) past) h.1 fair.1),
)
placed-written note step p n (Ends (Tick stamp) sends ∷ es) past h fair =
    all-append (λ (x : Entry). IsAtItsEnd p n x.what)
    (map (entry_of note stamp) (with_death (left_outs step (Tick stamp) sends past)))
    (written note step es (after note step (Ends (Tick stamp) sends) past))
    (placed-death note p n stamp (left_outs step (Tick stamp) sends past) fair.0)
    (placed-written note step p n es (after note step (Ends (Tick stamp) sends) past) h.1 fair.1)
placed-written note step p n (Returns stamp ∷ es) past h fair =
    placed-written note step p n es (after note step (Returns stamp) past) h.1 fair.1
placed-written note step p n (Dies stamp ∷ es) past h fair =
    (tt, placed-written note step p n es (after note step (Dies stamp) past) h.1 fair.1)

-- and paced within each beat
pub linked-written : {M S : Type 0} (note : M → Note) (step : S → Input M → Deed M S) (p : Params) (when : ℕ → Stamp)
    (n : ℕ) (life : Lifetime) (beats : ℕ) (es : List (NodeEvent M)) (past : Past S)
    → IsTimeline when p n life beats es → AreFair note step p n es past → AreByLink (written note step es past)
linked-written note step p when n life beats es past timeline fair =
    by_link-written note step p n es past timeline.in_turn fair
