-- A start that was ordered is at its cub the greatest delay later.
use Rattle.std.proofs.Common.{◌≡◌, ℕ, ◌+◌, ◌<◌, ◌≤◌, Bool, true, false, List, [], ◌∷◌, cond, filter, Option, Some, None, refl, sym, ap, subst, ◌∙◌, arith, ⊎_elim, inl, inr}
use Rattle.std.specs.Prelude.{◌⊎◌, ◌==◌, nat_lt, nat_le, slice_get, option_map}
use Rattle.std.specs.List.{flat_map, list_any}
use Rattle.std.proofs.lemmas.Bool.{cases_Bool, eqb-true, eq-eqb, lt-ltb, le-leb, cases_lt}
use Rattle.tiger_base.specs.declared.number.LinkNo.{LinkNo}
use Rattle.tiger_base.specs.declared.tenancy.Ask.{Ask}
use Rattle.tiger_base.specs.declared.message.Note.{Note}
use Rattle.tiger_base.specs.declared.message.Note.TheVariants as note
use Rattle.slot_plan.specs.declared.params.Params.{Params}
use Rattle.node_kit.specs.declared.course.Kept.{Kept}
use Rattle.node_kit.specs.declared.course.Order.{Order}
use Rattle.node_kit.specs.declared.course.OrderKind.TheVariants as kind
use Rattle.node_kit.specs.declared.journal.What.{What}
use Rattle.node_kit.specs.declared.journal.What.TheVariants as what
use Rattle.node_kit.specs.declared.journal.Entry.{Entry}
use Rattle.node_kit.specs.Life.{Lifetime, lifetime_of}
use Rattle.node_kit.specs.Links.{links_of, ends_of, controller_of}
use Rattle.run_facts.specs.Events.{Dated}
use Rattle.run_facts.specs.Order.{Noted, journal_of}
use Rattle.run_facts.specs.Carried.{sent_by, got_by, sent_on, got_on, DiedBy, MayBeLost, AreFrontOn, AreCarriedBy, until, since, IsAtItsEnd}
use Rattle.run_facts.specs.Timed.{is_died}
use Rattle.run_facts.specs.Commanded.{Dispatch, end_of, start_of, start_in, starts_sent, starts_for, starts_at, starts_ordered}
use Rattle.run_model.specs.Fronts.{AnyByRecursion}
use Rattle.run_model.specs.Moments.{moment_at}
use Rattle.run_model.specs.Orders.{IsOrdered, IsStartOf, HasStart, is_up_to}
use Rattle.run_model.specs.Excuses.{IsDeath}
use Rattle.run_model.specs.Runs.{order_in}
use Rattle.lists.specs.Elements.{In}
use Rattle.proof_moments.specs.Ties.{StandsIn}
use Rattle.proof_moments.proofs.Bridge.{died_is}
use Rattle.proof_moments.proofs.Lists.{any_by, any_with, any_passing}
use Rattle.lists.proofs.Elements.{in_filter, from_filter, chosen}
use Rattle.lists.proofs.Each.{all_in}
use Rattle.proof_moments.proofs.Orders.{noted_at}
use Rattle.proof_moments.proofs.Ticks.{up_to_by, up_to_parts}
use Rattle.run_promises.specs.Kept.{IsKeptWell, IsOrderedIn, after_tick}
use Rattle.run_promises.specs.Waits.{Wait, IsWaiting, LivesTo}
use Rattle.run_promises.proofs.Fronts.{in_front_journal, into_front_journal, belief_stays}
use Rattle.run_promises.proofs.Journals.{from_flat_map, into_flat_map, journal_there, in_the_order, from_the_order}
use Rattle.run_promises.proofs.Served.{death_is}

pub was_ordered : (orders : List Order) (ask : Ask) (beat : ℕ) → IsOrderedIn orders ask beat → IsOrdered orders ask
was_ordered orders ask beat h =
    let o = any_by (λ (o : Order). (o.beat ≡ beat) × (o.what ≡ kind.Begin ask)) orders h in
    any_with (λ (o : Order). o.what ≡ kind.Begin ask) orders o.0 o.1 o.2.1

-- the start of an ask on its way to a cub
abbrev start_to : ℕ → Ask → Bool → Dispatch
start_to c ask redundant = record { to = Some c; ask = ask; redundant = redundant }

-- ---- the controller sends it

is_wanted : (p : Params) (beat : ℕ) (d : Dispatch) (o : Order) → o.beat ≡ beat → In d (starts_for p o.what) → In d (starts_at p beat o)
is_wanted p beat d o e i = rw (eq-eqb o.beat beat e) i

wanted : (p : Params) (beat : ℕ) (d : Dispatch) (orders : List Order) → IsOrderedIn orders d.ask beat → In d (starts_for p (kind.Begin d.ask))
    → In d (flat_map (starts_at p beat) orders)
wanted p beat d orders h i =
    let o = any_by (λ (o : Order). (o.beat ≡ beat) × (o.what ≡ kind.Begin d.ask)) orders h in
    into_flat_map (starts_at p beat) d orders o.0 o.1
    (is_wanted p beat d o.0 o.2.0 (subst (λ w. In d (starts_for p w)) (sym o.2.1) i))

-- what sends it
sends_it : (p : Params) (w : What) (d : Dispatch) → In d (start_of p w)
    → (link : LinkNo) × (w ≡ what.Sent link (note.Start d.redundant d.ask)) × (end_of p link ≡ d.to)
sends_it p (what.Sent link (note.Start r a)) d i = ⊎_elim
    (λ (e : d ≡ record { to = end_of p link; ask = a; redundant = r }).
    let ask : d.ask ≡ a = ap (λ (d : Dispatch). d.ask) e in
    let redundant : d.redundant ≡ r = ap (λ (d : Dispatch). d.redundant) e in
    (link, rw (ask, redundant) refl, sym (ap (λ (d : Dispatch). d.to) e)))
    (λ b. absurd b)
    i
sends_it p other d i = absurd i

sent_in_beat : (p : Params) (beat : ℕ) (d : Dispatch) (e : Entry) → In d (start_in p beat e) → (e.stamp.beat ≡ beat) × In d (start_of p e.what)
sent_in_beat p beat d e i = chosen (λ (ds : List Dispatch). In d ds → (e.stamp.beat ≡ beat) × In d (start_of p e.what))
    (e.stamp.beat == beat) (start_of p e.what) [] (λ t k. (eqb-true _ _ t, k)) (λ _ k. absurd k) i

-- an entry of a journal sends the start in a beat
record IsSent (p : Params) (journal : List Entry) (beat : ℕ) (d : Dispatch) : Type 0 where
  entry : Entry
  there : In entry journal
  in_beat : entry.stamp.beat ≡ beat
  link : LinkNo
  is : entry.what ≡ what.Sent link (note.Start d.redundant d.ask)
  leads : end_of p link ≡ d.to

sent : (k : Kept) (beat : ℕ) (d : Dispatch) (journal : List Entry) → IsKeptWell k
    → slice_get k.journals (controller_of (links_of k.course.plan.params)) ≡ Some journal → beat < k.course.beats
    → IsOrderedIn k.orders d.ask beat → In d (starts_for k.course.plan.params (kind.Begin d.ask)) → IsSent k.course.plan.params journal beat d
unfolding starts_sent starts_ordered
sent k beat d journal w at early ordered i =
    let p = k.course.plan.params in
    let is : flat_map (start_in p beat) journal ≡ flat_map (starts_at p beat) k.orders =
    (w.claims.starts.commanded.controller journal at).starts beat
    ∙ ap (λ (b : Bool). cond b (flat_map (starts_at p beat) k.orders) []) (lt-ltb beat k.course.beats early) in
    let e = from_flat_map (start_in p beat) d journal (subst (λ (ds : List Dispatch). In d ds) (sym is) (wanted p beat d k.orders ordered i)) in
    let s = sent_in_beat p beat d e.0 e.2 in
    let q = sends_it p e.0.what d s.1 in
    record { entry = e.0; there = e.1; in_beat = s.0; link = q.0; is = q.1; leads = q.2 }

-- ---- the link brings it

-- what was sent was got, unless it may be lost
got_or_lost : (most beats : ℕ) (life : Lifetime) (ss gs : List (Dated Note)) (s : Dated Note) → AreFrontOn most beats life ss gs → In s ss
    → MayBeLost most beats life s.beat ⊎ ((g : Dated Note) × In g gs × (g.item ≡ s.item) × (g.beat ≤ s.beat + most))
got_or_lost most beats life [] gs s h i = absurd i
got_or_lost most beats life (x ∷ ss) [] s h i = ⊎_elim
    (λ e. inl (subst (λ (d : Dated Note). MayBeLost most beats life d.beat) (sym e) h.0))
    (λ k. ⊎_elim (λ l. inl l) (λ g. absurd g.1) (got_or_lost most beats life ss [] s h.1 k))
    i
got_or_lost most beats life (x ∷ ss) (g ∷ gs) s h i = ⊎_elim
    (λ e. inr (g, inl refl, h.0 ∙ ap (λ (d : Dated Note). d.item) (sym e), subst (λ (d : Dated Note). g.beat ≤ d.beat + most) (sym e) h.2))
    (λ k. ⊎_elim (λ l. inl l) (λ q. inr (q.0, inr q.1, q.2, q.3)) (got_or_lost most beats life ss gs s h.3 k))
    i

-- so it is if the receiver returns, too: what was sent below its return, and what was sent from there on, was got so
carried_or_lost : (most beats : ℕ) (life : Lifetime) (back : Option ℕ) (ss gs : List (Dated Note)) (s : Dated Note) → AreCarriedBy most beats life back ss gs → In s ss
    → MayBeLost most beats life s.beat ⊎ ((g : Dated Note) × In g gs × (g.item ≡ s.item) × (g.beat ≤ s.beat + most))
carried_or_lost most beats life None ss gs s h i = got_or_lost most beats life ss gs s h i
carried_or_lost most beats life (Some back) ss gs s h i =
    let below : Dated Note → Bool = λ d. nat_lt d.beat back in
    let behind : Dated Note → Bool = λ d. nat_le back d.beat in
    ⊎_elim
    (λ (l : s.beat < back). ⊎_elim (λ lost. inl lost)
    (λ g. inr (g.0, (from_filter below g.0 gs g.1).0, g.2, g.3))
    (got_or_lost most beats life (until back ss) (until back gs) s h.0 (in_filter below s ss i (lt-ltb s.beat back l))))
    (λ (l : back ≤ s.beat). ⊎_elim (λ lost. inl lost)
    (λ g. inr (g.0, (from_filter behind g.0 gs g.1).0, g.2, g.3))
    (got_or_lost most beats life (since back ss) (since back gs) s h.1 (in_filter behind s ss i (le-leb back s.beat l))))
    (cases_lt s.beat back)

-- nothing is lost that comes to a receiver before its death and before the end
not_lost : (most beats sent beat : ℕ) (life : Lifetime) → ((death : ℕ) → life.death ≡ Some death → beat < death)
    → sent + most ≤ beat → beat < beats → MayBeLost most beats life sent → ⊥
not_lost most beats sent beat life lives low high h = ⊎_elim (λ l. omega (arith, l, low, high)) (λ d. died life.death refl d.0) h
  where
    died : (death : Option ℕ) → life.death ≡ death → DiedBy death (sent + most) → ⊥
    died None e d = d
    died (Some death) e d = let l = lives death e in omega (arith, l, d, low)

sent_on_link : (l : ℕ) (e : Entry) (link : LinkNo) (n : Note) → e.what ≡ what.Sent link n → link.0 ≡ l
    → In (record { beat = e.stamp.beat; item = n }) (sent_by l e.stamp.beat e.what)
sent_on_link l e link n is same = rw (is, eq-eqb link.0 l same) (inl refl)

got_on_link : (l beat : ℕ) (w : What) (g : Dated Note) → In g (got_by l beat w) → (link : LinkNo) × (w ≡ what.Got link g.item) × (g.beat ≡ beat)
got_on_link l beat (what.Got link n) g i =
    chosen (λ (ds : List (Dated Note)). In g ds → (k : LinkNo) × (what.Got link n ≡ what.Got k g.item) × (g.beat ≡ beat))
    (link.0 == l) ((record { beat = beat; item = n }) ∷ []) []
    (λ _ k. ⊎_elim (λ e. (link, ap (λ (d : Dated Note). what.Got link d.item) (sym e), ap (λ (d : Dated Note). d.beat) e)) (λ b. absurd b) k)
    (λ _ k. absurd k) i
got_on_link l beat other g i = absurd i

other_end : (ends : Option (ℕ × ℕ)) (c from to : ℕ) → option_map (λ (e : ℕ × ℕ). e.1) ends ≡ Some c → ends ≡ Some (from, to) → to ≡ c
other_end None c from to e f = absurd (cc)
other_end (Some q) c from to e f =
    let is : q.1 ≡ c = cc in
    let pair : q ≡ (from, to) = cc in
    ap (λ (x : ℕ × ℕ). x.1) (sym pair) ∙ is

-- an entry of a journal gets the start, in a beat or before
record IsGot (journal : List Entry) (high : ℕ) (ask : Ask) (redundant : Bool) : Type 0 where
  entry : Entry
  there : In entry journal
  early : entry.stamp.beat ≤ high
  link : LinkNo
  is : entry.what ≡ what.Got link (note.Start redundant ask)

got : (k : Kept) (ordered c beat : ℕ) (ask : Ask) (redundant : Bool) (sender receiver : List Entry) → IsKeptWell k
    → slice_get k.journals (controller_of (links_of k.course.plan.params)) ≡ Some sender → slice_get k.journals c ≡ Some receiver
    → IsSent k.course.plan.params sender ordered (start_to c ask redundant) → ordered + k.course.plan.params.delay ≤ beat → beat < k.course.beats
    → LivesTo k c beat → IsGot receiver (ordered + k.course.plan.params.delay) ask redundant
unfolding sent_on got_on
got k ordered c beat ask redundant sender receiver w from to s low high lives =
    let p = k.course.plan.params in
    let here : ℕ = controller_of (links_of p) in
    let most : ℕ = p.delay in
    let life = lifetime_of k.course c in
    let message : Note = note.Start redundant ask in
    let end : IsAtItsEnd p here (what.Sent s.link message) = subst (λ (w : What). IsAtItsEnd p here w) s.is
    (all_in (λ (e : Entry). IsAtItsEnd p here e.what) s.entry sender (w.carried.at_ends here sender from) s.there) in
    let to_it : end.0 ≡ c = other_end (ends_of (links_of p) s.link.0) c here end.0 s.leads end.1 in
    let ends : ends_of (links_of p) s.link.0 ≡ Some (here, c) = end.1 ∙ ap (λ (n : ℕ). Some (here, n)) to_it in
    let item : Dated Note = record { beat = s.entry.stamp.beat; item = message } in
    let on = into_flat_map (λ (e : Entry). sent_by s.link.0 e.stamp.beat e.what) item sender s.entry s.there
    (sent_on_link s.link.0 s.entry s.link message s.is refl) in
    ⊎_elim
    (λ l. absurd (not_lost most k.course.beats ordered beat life lives low high (subst (λ (b : ℕ). MayBeLost most k.course.beats life b) s.in_beat l)))
    (λ g.
    let e = from_flat_map (λ (e : Entry). got_by s.link.0 e.stamp.beat e.what) g.0 receiver g.1 in
    let q = got_on_link s.link.0 e.0.stamp.beat e.0.what g.0 e.2 in
    let same = g.2 in
    let got_in = q.2 in
    let in_time = g.3 in
    let sent_in = s.in_beat in
    record { entry = e.0; there = e.1; early = omega arith; link = q.0; is = q.1 ∙ ap (λ (n : Note). what.Got q.0 n) same })
    (carried_or_lost most k.course.beats life life.back (sent_on s.link.0 sender) (got_on s.link.0 receiver) item
    (w.carried.on_links s.link.0 here c sender receiver ends from to) on)

-- ---- so it is there

is_start : (v : ℕ) (redundant : Bool) (ask : Ask) (w : What) (link : LinkNo) → w ≡ what.Got link (note.Start redundant ask) → ask.instance.0 ≡ v
    → IsStartOf v redundant w
is_start v redundant ask w link is same = subst (λ (z : What). IsStartOf v redundant z) (sym is) (same, refl)

start_there : (k : Kept) (a : Wait) (beat : ℕ) (redundant : Bool) → IsKeptWell k → IsWaiting k a → a.from ≤ beat → beat ≤ a.last
    → In (start_to a.cub a.ask redundant) (starts_for k.course.plan.params (kind.Begin a.ask))
    → AnyByRecursion (λ (e : Entry). IsStartOf a.ask.instance.0 redundant e.what) (journal_of a.cub (filter (is_up_to beat a.cub) (order_in k)))
start_there k a beat redundant w h low high to =
    let p = k.course.plan.params in
    let c : ℕ = a.cub in
    let log = order_in k in
    let small = h.small in
    let came = h.came in
    let ends = h.ends in
    let sender = journal_there k (controller_of (links_of p)) w (omega arith) in
    let receiver = journal_there k c w (omega arith) in
    let out = sent k a.ordered (start_to c a.ask redundant) sender.0 w sender.1 (omega arith) h.asked to in
    let g = got k a.ordered c beat a.ask redundant sender.0 receiver.0 w sender.1 receiver.1 out (omega arith) (omega arith)
    (λ death d. let l = h.lives death d in omega (arith, l, high)) in
    let early = g.early in
    let x : Noted = noted_at c g.entry in
    let there : In x log = in_the_order k c g.entry w (record { journal = receiver.0; at = receiver.1; there = g.there }) in
    let when : (g.entry.stamp.beat < beat) ⊎ ((g.entry.stamp.beat ≡ beat) × (c ≤ c)) = ⊎_elim
    (λ l. inl l)
    (λ e. let same : g.entry.stamp.beat ≡ beat = omega arith in let own : c ≤ c = omega arith in inr (same, own))
    (cases_lt g.entry.stamp.beat beat) in
    let front : In x (filter (is_up_to beat c) log) = in_filter (is_up_to beat c) x log there (up_to_by beat c x when) in
    any_with (λ (e : Entry). IsStartOf a.ask.instance.0 redundant e.what) (journal_of c (filter (is_up_to beat c) log)) g.entry
    (into_front_journal (filter (is_up_to beat c) log) c x front refl)
    (is_start a.ask.instance.0 redundant a.ask g.entry.what g.link g.is refl)

-- a cub that does not die by the end of a beat has not died at the end of any tick up to it
undead : (k : Kept) (c beat last : ℕ) → IsKeptWell k → beat ≤ last → LivesTo k c last → (after_tick k c beat).dead c ≡ false
unfolding moment_at
undead k c beat last w low lives =
    let front : List Noted = filter (is_up_to beat c) (order_in k) in
    ⊎_elim
    (λ (t : list_any (λ (e : Entry). is_died e.what) (journal_of c front) ≡ true).
    let e = any_passing (λ (e : Entry). is_died e.what) (journal_of c front) t in
    let x = in_front_journal front c e.0 e.1 in
    let f = from_filter (is_up_to beat c) x.0 (order_in k) x.1 in
    let s = subst (λ (n : ℕ). StandsIn k.journals n x.0.entry) x.2 (from_the_order k x.0 f.0) in
    let died : IsDeath x.0.entry.what = subst (λ (w : What). IsDeath w) (sym (ap (λ (y : Entry). y.what) x.3 ∙ died_is e.0.what e.2)) tt in
    let late = lives x.0.entry.stamp.beat (death_is k.course.beats (lifetime_of k.course c) _ s.journal x.0.entry (w.timed c s.journal s.at).death s.there died) in
    absurd (⊎_elim (λ l. omega (arith, l, late, low)) (λ q. let same = q.0 in omega (arith, same, late, low)) (up_to_parts beat c x.0 f.1)))
    (λ (none : list_any (λ (e : Entry). is_died e.what) (journal_of c front) ≡ false). none)
    (cases_Bool (list_any (λ (e : Entry). is_died e.what) (journal_of c front)))

-- a start that waits is at its cub at each of the ticks
pub has_start : (k : Kept) (a : Wait) (beat : ℕ) → IsKeptWell k → IsWaiting k a → a.from ≤ beat → beat ≤ a.last
    → HasStart k.course.plan.params (after_tick k a.cub beat) a.cub a.ask
unfolding moment_at
has_start k a beat w h low high = ⊎_elim
    (λ own. inl (
      own,
      (
        undead k a.cub beat a.last w high h.lives,
        start_there k a beat false w h low high (inl (ap (λ (n : ℕ). start_to n a.ask false) (sym own))),
      ),
    ))
    (λ next. inr (
      next.0,
      (
        belief_stays (order_in k) a.from beat a.cub _ low next.1,
        start_there k a beat true w h low high (inr (inl (ap (λ (n : ℕ). start_to n a.ask true) (sym next.0)))),
      ),
    ))
    h.its_cub
