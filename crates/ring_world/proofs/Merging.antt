-- A list of events that a machine accepts is its nodes' events in one order.
use Rattle.std.proofs.Common.{◌≡◌, ℕ, ◌<◌, ◌≤◌, List, [], ◌∷◌, ◌++◌, Bool, true, false, Option, Some, None, refl}
use Rattle.std.proofs.Common.{ap, sym, ◌∙◌, subst, arith, cond, ⊎_elim, append_assoc, append-nil}
use Rattle.std.specs.Prelude.{slice_get, option_map, ◌==◌}
use Rattle.std.specs.List.{AllByRecursion}
use Rattle.std.proofs.lemmas.Option.{none-some}
use Rattle.std.proofs.lemmas.Bool.{cases_Bool, eqb-true, eq-eqb, cases_eq, ne_eqb}
use Rattle.tiger_base.specs.declared.number.Stamp.{Stamp}
use Rattle.tiger_base.specs.declared.number.LinkNo.{LinkNo}
use Rattle.tiger_base.specs.declared.message.Note.{Note}
use Rattle.slot_plan.specs.declared.params.Params.{Params}
use Rattle.node_kit.specs.Links.{links_of, ends_of}
use Rattle.node_kit.specs.Steps.{Input, Deed}
use Rattle.node_kit.specs.Steps.Input.{Take, Tick}
use Rattle.run_facts.specs.Events.{is_death, IsPlain, NodeEvent, Dated, opening, after_all, sends_along, stamp_at}
use Rattle.run_facts.specs.Events.NodeEvent.{Does, Ends, Dies, Returns}
use Rattle.run_facts.specs.Accounts.{AreAlive, Rising}
use Rattle.run_facts.proofs.Along.{sends-append, sends-dated}
use Rattle.run_facts.proofs.Indexed.{all-at}
use Rattle.run_facts.proofs.Rows.{all-append, all-weaker}
use Rattle.ring_world.specs.declared.event.Act.{Act}
use Rattle.ring_world.specs.declared.event.Act.TheVariants as act
use Rattle.ring_world.specs.declared.event.Last.TheVariants as last
use Rattle.ring_world.specs.declared.event.Event.{Event}
use Rattle.ring_world.specs.declared.event.StepFault.{StepFault}
use Rattle.ring_world.specs.Machine.{oldest, undying, Machine, Way, node_of, node_event, receiver, happens}
use Rattle.ring_world.specs.Faults.{get_fault, take_fault, IsEventOf, Accepts, is_next}
use Rattle.ring_world.specs.Laws.{is_die, is_whole, HaveWholeDeaths, AreLawful, IsPlace}
use Rattle.ring_world.specs.Merging.{Happening, added, place_along, told_as, told_from, own, beat_at}
use Rattle.ring_world.proofs.Moving.{Holds, holds-moved}
use Rattle.ring_world.proofs.Ways.{IsLost, lost-front, lost-before}
use Rattle.ring_world.proofs.Accepting.{some-same, faultless, move-of}

next-is : {M : Type 0} (o : Option (Way M)) (number : ℕ) (f : StepFault) (rest : Option StepFault)
    → cond (is_next number o) rest (Some f) ≡ None → (w : Way M) × (o ≡ Some w) × (number ≡ w.gone)
next-is None number f rest h = absurd (none-some f (sym h))
next-is (Some w) number f rest h = (w, refl, by_test (number == w.gone) refl h)
  where
    by_test : (t : Bool) → (number == w.gone) ≡ t → cond t rest (Some f) ≡ None → number ≡ w.gone
    by_test true e q = eqb-true _ _ e
    by_test false e q = absurd (none-some f (sym q))

event-same : (s : Stamp) (a b : Act) → a ≡ b
    → ◌≡◌ {A = Event} (record { stamp = s; act = a }) (record { stamp = s; act = b })
event-same s a b q = rw q refl

-- what was lost on each link is known: so many messages were sent there below the return of its receiver
abbrev pub AreLost : {M S : Type 0} → (M → Note) → (S → Input M → Deed M S) → Params → (ℕ → S) → (ℕ → ℕ)
    → (ℕ → List (NodeEvent M)) → Type 0
AreLost note step p first lost es =
    (l from to : ℕ) → ends_of (links_of p) l ≡ Some (from, to)
    → IsLost (lost l) (sends_along note step l (es from) (opening (first from) undying)) (es to)

module _ {M S : Type 0} (note : M → Note) (step : S → Input M → Deed M S) (stands : S → Params → ℕ → Type 0) (p : Params)
    (nodes : ℕ) (first : ℕ → S) (m : Machine M S) (es : ℕ → List (NodeEvent M))
    (h : Holds note step stands p nodes first m es) (lost : ℕ → ℕ) (right : AreLost note step p first lost es)
    (beats : ℕ) (stamp : Stamp) where
  -- a message that is taken has as its number how many are gone
  number-is : (link : LinkNo) (number from to n : ℕ) → ends_of (links_of p) link.0 ≡ Some (from, to) → to ≡ n
      → get_fault m.ways stamp.beat link number ≡ None → number ≡ place_along link.0 (lost link.0) 0 (es n)
  number-is link number from to n ends is free =
      let next = next-is (slice_get m.ways link.0) number _ _ free in
      let mine = h.way link.0 from to ends in
      let same : mine.0 ≡ next.0 = some-same mine.0 next.0 (sym mine.1 ∙ next.1) in
      next.2 ∙ ap (λ (w : Way M). w.gone) (sym same) ∙ sym (mine.2.place (lost link.0) (right link.0 from to ends))
      ∙ ap (λ k. place_along link.0 (lost link.0) 0 (es k)) is

  -- the event of a move is told as the event that was accepted
  told-take : (a : Act) (n : ℕ) (x : NodeEvent M) (o : Option (Dated M)) (y : M → NodeEvent M)
      → option_map (λ (d : Dated M). y d.item) o ≡ Some x
      → ((msg : M) → ◌≡◌ {A = Event} (record { stamp = stamp; act = a }) (told_as lost (es n) (record { node = n; event = y msg })))
      → ◌≡◌ {A = Event} (record { stamp = stamp; act = a }) (told_as lost (es n) (record { node = n; event = x }))
  told-take a n x None y q told = absurd (none-some x q)
  told-take a n x (Some d) y q told =
      subst (λ (z : NodeEvent M). ◌≡◌ {A = Event} (record { stamp = stamp; act = a }) (told_as lost (es n) (record { node = n; event = z })))
      (some-same (y d.item) x q) (told d.item)

  told-on : (a : Act) (n : ℕ) (x y : NodeEvent M) → ◌≡◌ {A = Option (NodeEvent M)} (Some y) (Some x)
      → ◌≡◌ {A = Event} (record { stamp = stamp; act = a }) (told_as lost (es n) (record { node = n; event = y }))
      → ◌≡◌ {A = Event} (record { stamp = stamp; act = a }) (told_as lost (es n) (record { node = n; event = x }))
  told-on a n x y q told =
      subst (λ (z : NodeEvent M). ◌≡◌ {A = Event} (record { stamp = stamp; act = a }) (told_as lost (es n) (record { node = n; event = z })))
      (some-same y x q) told

  told-back : (a : Act) (n : ℕ) (x : NodeEvent M) → IsEventOf p nodes beats (record { stamp = stamp; act = a })
      → take_fault m.ways stamp.beat a ≡ None → node_of p a ≡ n → node_event m.ways stamp a ≡ Some x
      → ◌≡◌ {A = Event} (record { stamp = stamp; act = a }) (told_as lost (es n) (record { node = n; event = x }))
  told-back (act.Get link number) n x known free at event =
      let ends = known.1.2 in
      let count = number-is link number known.1.0 known.1.1 n ends (sym (ap receiver ends) ∙ at) free in
      told-take (act.Get link number) n x (oldest m.ways link.0) (λ msg. Does (Take stamp link msg)) event
      (λ msg. event-same stamp (act.Get link number) (act.Get link (place_along link.0 (lost link.0) 0 (es n)))
      (ap (λ k. act.Get link k) count))
  told-back (act.Tick node) n x known free at event =
      told-on (act.Tick node) n x (Does (Tick stamp)) event
      (event-same stamp (act.Tick node) (act.Tick (record { 0 = n })) (ap (λ k. act.Tick (record { 0 = k })) at))
  told-back (act.Die cub) n x known free at event =
      told-on (act.Die cub) n x (Dies stamp) event
      (event-same stamp (act.Die cub) (act.Die (record { 0 = n })) (ap (λ k. act.Die (record { 0 = k })) at))
  told-back (act.DieIn (last.Get link number) sends) n x known free at event =
      let ends = known.1.2 in
      let count = number-is link number known.1.0 known.1.1 n ends (sym (ap receiver ends) ∙ at) free in
      told-take (act.DieIn (last.Get link number) sends) n x (oldest m.ways link.0) (λ msg. Ends (Take stamp link msg) sends) event
      (λ msg. event-same stamp (act.DieIn (last.Get link number) sends)
      (act.DieIn (last.Get link (place_along link.0 (lost link.0) 0 (es n))) sends)
      (ap (λ k. act.DieIn (last.Get link k) sends) count))
  told-back (act.DieIn (last.Tick node) sends) n x known free at event =
      told-on (act.DieIn (last.Tick node) sends) n x (Ends (Tick stamp) sends) event
      (event-same stamp (act.DieIn (last.Tick node) sends) (act.DieIn (last.Tick (record { 0 = n })) sends)
      (ap (λ k. act.DieIn (last.Tick (record { 0 = k })) sends) at))
  told-back (act.Return cub) n x known free at event =
      told-on (act.Return cub) n x (Returns stamp) event
      (event-same stamp (act.Return cub) (act.Return (record { 0 = n })) (ap (λ k. act.Return (record { 0 = k })) at))

-- an event of which its act says so is no death, or is plain
taken-all : {M : Type 0} (P : NodeEvent M → Type 0) (o : Option (Dated M)) (y : M → NodeEvent M) (x : NodeEvent M)
    → option_map (λ (d : Dated M). y d.item) o ≡ Some x → ((msg : M) → P (y msg)) → P x
taken-all P None y x q all = absurd (none-some x q)
taken-all P (Some d) y x q all = subst P (some-same (y d.item) x q) (all d.item)

event-lives : {M : Type 0} (ways : List (Way M)) (stamp : Stamp) (a : Act) (x : NodeEvent M)
    → node_event ways stamp a ≡ Some x → is_die a ≡ false → is_death x ≡ false
event-lives {M} ways stamp (act.Get link number) x is calm =
    taken-all (λ (e : NodeEvent M). is_death e ≡ false) (oldest ways link.0) (λ msg. Does (Take stamp link msg)) x is
    (λ msg. refl)
event-lives {M} ways stamp (act.Tick node) x is calm =
    subst (λ (e : NodeEvent M). is_death e ≡ false) (some-same (Does (Tick stamp)) x is) refl
event-lives ways stamp (act.Die cub) x is calm = absurd (cc)
event-lives ways stamp (act.DieIn final sends) x is calm = absurd (cc)
event-lives {M} ways stamp (act.Return cub) x is calm =
    subst (λ (e : NodeEvent M). is_death e ≡ false) (some-same (Returns stamp) x is) refl

event-plain : {M : Type 0} (ways : List (Way M)) (stamp : Stamp) (a : Act) (x : NodeEvent M)
    → node_event ways stamp a ≡ Some x → is_whole a ≡ true → IsPlain x
event-plain {M} ways stamp (act.Get link number) x is whole =
    taken-all (λ (e : NodeEvent M). IsPlain e) (oldest ways link.0) (λ msg. Does (Take stamp link msg)) x is (λ msg. tt)
event-plain {M} ways stamp (act.Tick node) x is whole =
    subst (λ (e : NodeEvent M). IsPlain e) (some-same (Does (Tick stamp)) x is) tt
event-plain {M} ways stamp (act.Die cub) x is whole =
    subst (λ (e : NodeEvent M). IsPlain e) (some-same (Dies stamp) x is) tt
event-plain ways stamp (act.DieIn final sends) x is whole = absurd (cc)
event-plain ways stamp (act.Return cub) x is whole = absurd (cc)

all-added : {M : Type 0} (P : NodeEvent M → Type 0) (n : ℕ) (x : NodeEvent M) (es : ℕ → List (NodeEvent M))
    → ((k : ℕ) → AllByRecursion P (es k)) → P x → (k : ℕ) → AllByRecursion P (added n x es k)
all-added P n x es all one k = ⊎_elim
    (λ (t : (k == n) ≡ true). rw t (all-append P (es k) (x ∷ []) (all k) (one, tt)))
    (λ (t : (k == n) ≡ false). rw t (all k))
    (cases_Bool (k == n))

own-later : {M : Type 0} (b n : ℕ) (xs : List (Happening M)) → AllByRecursion (λ (x : Happening M). b ≤ beat_at x) xs
    → AllByRecursion (λ (e : NodeEvent M). b ≤ (stamp_at e).beat) (own n xs)
own-later b n [] h = tt
own-later b n (x ∷ xs) h = ⊎_elim
    (λ (t : (x.node == n) ≡ true). rw t (h.0, own-later b n xs h.1))
    (λ (t : (x.node == n) ≡ false). rw t (own-later b n xs h.1))
    (cases_Bool (x.node == n))

-- what becomes of a machine by a list of events that it accepts: the events of its nodes, and the list as their merge
pub record IsAhead {M S : Type 0} (note : M → Note) (step : S → Input M → Deed M S) (stands : S → Params → ℕ → Type 0)
    (p : Params) (nodes : ℕ) (first : ℕ → S) (m k : Machine M S) (es : ℕ → List (NodeEvent M)) (events : List Event) : Type 0 where
  pub merged : List (Happening M)
  pub gs : ℕ → List (NodeEvent M)
  pub holds : Holds note step stands p nodes first k gs
  pub within : AllByRecursion (λ (x : Happening M). x.node < nodes) merged
  pub later : AllByRecursion (λ (x : Happening M). m.beat ≤ beat_at x) merged
  pub rising : Rising beat_at merged
  pub same : (lost : ℕ → ℕ) → AreLost note step p first lost gs → events ≡ told_from lost es merged
  pub parts : (n : ℕ) → gs n ≡ es n ++ own n merged
  pub calm : AllByRecursion (λ e. is_die e.act ≡ false) events → ((n : ℕ) → AreAlive (es n)) → (n : ℕ) → AreAlive (gs n)
  pub plain : HaveWholeDeaths events → ((n : ℕ) → AllByRecursion IsPlain (es n)) → (n : ℕ) → AllByRecursion IsPlain (gs n)
  pub happened : k.events ≡ m.events ++ events

module _ {M S : Type 0} (note : M → Note) (step : S → Input M → Deed M S) (stands : S → Params → ℕ → Type 0) (p : Params)
    (nodes beats : ℕ) (lawful : AreLawful note step stands p) (place : IsPlace p nodes beats) (first : ℕ → S) where
  -- what is lost in the end was lost before: what is sent later is sent in no lower beat than a return before
  lost-then : (m : Machine M S) (es gs : ℕ → List (NodeEvent M)) (merged : List (Happening M)) (lost : ℕ → ℕ)
      → Holds note step stands p nodes first m es → ((n : ℕ) → gs n ≡ es n ++ own n merged)
      → AllByRecursion (λ (x : Happening M). m.beat ≤ beat_at x) merged
      → AreLost note step p first lost gs → AreLost note step p first lost es
  lost-then m es gs merged lost h parts later right l from to ends =
      let start = opening (first from) undying in
      let more = own from merged in
      let ds = sends_along note step l more (after_all note step (es from) start) in
      let sent : sends_along note step l (gs from) start ≡ sends_along note step l (es from) start ++ ds =
      ap (λ q. sends_along note step l q start) (parts from) ∙ sends-append note step l (es from) more start in
      let all = right l from to ends in
      let one = subst (λ q. IsLost (lost l) (sends_along note step l (gs from) start) q) (parts to) all in
      let two = lost-front (lost l) (sends_along note step l (gs from) start) (es to) (own to merged) one in
      let three = subst (λ q. IsLost (lost l) q (es to)) sent two in
      let low = (place.linked l from to ends).1 in
      lost-before (lost l) m.beat (sends_along note step l (es from) start) ds (es to)
      (sends-dated note step (λ b. m.beat ≤ b) l more (after_all note step (es from) start) (own-later m.beat from merged later))
      (λ i at. all-at (λ (e : NodeEvent M). (stamp_at e).beat ≤ m.beat) (es to) i at (h.node to low).2.early) three

  pub ahead-of : (m : Machine M S) (es : ℕ → List (NodeEvent M)) (events : List Event) (k : Machine M S)
      → Holds note step stands p nodes first m es → Accepts note step p nodes beats m events k
      → IsAhead note step stands p nodes first m k es events
  ahead-of m es [] k h accepts = record {
    merged = [];
    gs = es;
    holds = subst (λ (q : Machine M S). Holds note step stands p nodes first q es) (sym accepts) h;
    within = tt;
    later = tt;
    rising = tt;
    same = λ lost right. refl;
    parts = λ n. sym (append-nil (es n));
    calm = λ _ alive. alive;
    plain = λ _ all. all;
    happened = ap (λ (q : Machine M S). q.events) accepts ∙ sym (append-nil m.events);
  }
  ahead-of m es (e ∷ events) k h accepts =
      let free = faultless p m e accepts.1 in
      let mv = move-of note step stands p nodes beats lawful place first m es h e.stamp e.act accepts.0 free in
      let n = mv.n in
      let x : Happening M = record { node = n; event = mv.x } in
      let new : Holds note step stands p nodes first (happens note step p m e) (added n mv.x es) =
      subst (λ (q : Machine M S). Holds note step stands p nodes first q (added n mv.x es)) (sym mv.is)
      (holds-moved note step stands p nodes beats place first m es h e n mv.x mv.b mv.move) in
      let beat_is : (happens note step p m e).beat ≡ e.stamp.beat = ap (λ (q : Machine M S). q.beat) mv.is in
      let dated = mv.move.due.dated in
      let goes = mv.move.goes in
      let r = ahead-of (happens note step p m e) (added n mv.x es) events k new accepts.2 in
      let after : AllByRecursion (λ (y : Happening M). beat_at x ≤ beat_at y) r.merged =
      all-weaker (λ (y : Happening M). (happens note step p m e).beat ≤ beat_at y) (λ y. beat_at x ≤ beat_at y) r.merged
      (λ y g. omega (arith, g, beat_is, dated)) r.later in
      let later : AllByRecursion (λ (y : Happening M). m.beat ≤ beat_at y) (x ∷ r.merged) = (
        omega (arith, goes, dated),
        all-weaker (λ (y : Happening M). beat_at x ≤ beat_at y) (λ y. m.beat ≤ beat_at y) r.merged
            (λ y g. omega (arith, g, goes, dated)) after,
      ) in
      let parts : (j : ℕ) → r.gs j ≡ es j ++ own j (x ∷ r.merged) = λ j. (r.parts j ∙ ⊎_elim
      (λ (t : (j ≡ n)).
      let hit : (j == n) ≡ true = eq-eqb j n t in
      let back : (n == j) ≡ true = eq-eqb n j (sym t) in
      rw (hit, back) (append_assoc (es j) (mv.x ∷ []) (own j r.merged)))
      (λ (ne : j ≡ n → ⊥).
      let miss : (j == n) ≡ false = ne_eqb j n ne in
      let back : (n == j) ≡ false = ne_eqb n j (λ q. ne (sym q)) in
      rw (miss, back) refl)
      (cases_eq j n)) in
      record {
        merged = x ∷ r.merged;
        gs = r.gs;
        holds = r.holds;
        within = (mv.move.within, r.within);
        later = later;
        rising = (after, r.rising);
        same = λ lost right.
            let here = lost-then m es r.gs (x ∷ r.merged) lost h parts later right in
            let told : e ≡ told_as lost (es n) x =
            told-back note step stands p nodes first m es h lost here beats e.stamp e.act n mv.x accepts.0 free.take mv.at mv.event in
            ap (λ (q : Event). q ∷ events) told ∙ ap (λ qs. told_as lost (es n) x ∷ qs) (r.same lost right);
        calm = λ calm alive. r.calm calm.1
            (all-added (λ f. is_death f ≡ false) n mv.x es alive (event-lives m.ways e.stamp e.act mv.x mv.event calm.0));
        plain = λ whole all. r.plain whole.1
            (all-added IsPlain n mv.x es all (event-plain m.ways e.stamp e.act mv.x mv.event whole.0));
        happened = r.happened ∙ ap (λ (q : Machine M S). q.events ++ events) mv.is ∙ append_assoc m.events (e ∷ []) events;
        parts = parts;
      }
