-- What a receiver that returns gets on a link from its return on: a front of what is sent from there on.
use Rattle.std.proofs.Common.{◌≡◌, ℕ, ◌+◌, ◌<◌, ◌≤◌, List, ◌++◌, map, filter, Bool, true, false, not, ◌&&◌, ◌||◌}
use Rattle.std.proofs.Common.{Option, Some, refl, ap, sym, ◌∙◌, subst, arith, ⊎_elim}
use Rattle.std.specs.Prelude.{nat_lt, nat_le, ◌==◌, is_some}
use Rattle.std.specs.List.{AllByRecursion}
use Rattle.std.proofs.lemmas.Bool.{cases_Bool}
use Rattle.std.proofs.lemmas.Bool.Decides.{nat_tests}
use Rattle.std.proofs.lemmas.List.Elements.{filter-append}
use Rattle.node_kit.specs.Life.{Lifetime, acts, hears, ends_in}
use Rattle.run_facts.specs.Accounts.{Rising}
use Rattle.run_facts.specs.Events.{Dated}
use Rattle.run_facts.specs.Paced.{Passage, is_heard, brought, AreMissed, AreGot}
use Rattle.run_facts.proofs.Fronts.{lived}
use Rattle.run_facts.proofs.Rows.{all-weaker, filter-none, filter-same, rising-right}
use Rattle.run_lives.proofs.Halves.{TakesFront, ends-at}
use Rattle.run_lives.proofs.Picking.{filter-map, filter-twice, has-front}

heard-by : (a x y : Bool) → (a && ((x || y || true) && not (false && true))) ≡ (true && a)
heard-by true true y = refl
heard-by true false true = refl
heard-by true false false = refl
heard-by false x y = refl

lost-by : (a x y : Bool) → (a && ((x || y || true) && not (true && true))) ≡ (false && a)
lost-by true true y = refl
lost-by true false true = refl
lost-by true false false = refl
lost-by false x y = refl

module _ (d : ℕ) (left : Option ℕ) (w : ℕ) (later : d + 2 ≤ w) (beats : ℕ) where
  abbrev their_life : Lifetime
  their_life = lived (Some d) left (Some w)

  -- what is heard from the return on
  abbrev is_second : {X : Type 0} → Passage X → Bool
  is_second f = nat_le w f.sent && nat_lt f.arrival beats

  second-heard : {X : Type 0} (f : Passage X) → nat_le w f.arrival ≡ true
      → is_heard their_life beats f ≡ is_second f
  unfolding acts hears
  second-heard f from = ⊎_elim
      (λ (e : nat_le w f.sent ≡ true).
      let sent : nat_lt f.sent w ≡ false = grind (arith, nat_tests, e) in
      rw (e, from, sent)
      (heard-by (nat_lt f.arrival beats) (nat_lt f.arrival d) ((f.arrival == d) && (is_some left && true))))
      (λ (e : nat_le w f.sent ≡ false).
      let sent : nat_lt f.sent w ≡ true = grind (arith, nat_tests, e) in
      rw (e, from, sent)
      (lost-by (nat_lt f.arrival beats) (nat_lt f.arrival d) ((f.arrival == d) && (is_some left && true))))
      (cases_Bool (nat_le w f.sent))

  second-low : {X : Type 0} (f : Passage X) → f.sent < f.arrival → nat_le w f.arrival ≡ false → is_second f ≡ false
  second-low f up before =
      let e : nat_le w f.sent ≡ false = grind (arith, nat_tests, before, up) in rw e refl

  module _ {X : Type 0} (Came : Type 0) (fs : List (Passage X))
      (timely : AllByRecursion (λ (f : Passage X). f.sent < f.arrival) fs)
      (rises : Rising (λ (f : Passage X). f.arrival) fs) where
    abbrev heard : List (Passage X)
    heard = filter (is_heard their_life beats) fs

    abbrev from_then : Passage X → Bool
    from_then f = nat_le w f.arrival

    heard-then : filter from_then heard ≡ filter is_second fs
    heard-then = filter-twice from_then (is_heard their_life beats) is_second fs
        (all-weaker (λ (f : Passage X). f.sent < f.arrival)
        (λ f. (from_then f ≡ true → is_heard their_life beats f ≡ is_second f)
        × (from_then f ≡ false → is_second f ≡ false)) fs
        (λ f up. (second-heard f, second-low f up)) timely)

    -- nothing is missed from the return on
    cut-before : (f : Passage X) → ends_in their_life f.arrival ≡ true → from_then f ≡ false
    cut-before f h =
        let at = ends-at (Some d) left (Some w) f.arrival h in
        let one : Some d ≡ Some at.0 = at.1 in
        let same : d ≡ at.0 = cc in
        let there = at.2 in
        grind (arith, nat_tests, same, there, later)

    all-got : (got : List (Dated X)) → AreGot their_life Came heard got
        → filter (λ (q : Dated X). nat_le w q.beat) got ≡ map brought (filter is_second fs)
    all-got got h = ⊎_elim
        (λ (all : got ≡ map brought heard). ap (filter (λ (q : Dated X). nat_le w q.beat)) all
        ∙ filter-map (nat_le w) heard ∙ ap (map brought) heard-then)
        (λ (some : Came × AreMissed their_life heard got).
        let m = some.1 in
        let none = filter-none from_then m.missed
        (all-weaker (λ (f : Passage X). ends_in their_life f.arrival ≡ true) (λ f. from_then f ≡ false) m.missed
        cut-before m.cut_off) in
        ap (filter (λ (q : Dated X). nat_le w q.beat)) m.kept ∙ filter-map (nat_le w) (m.early ++ m.late)
        ∙ ap (map brought) (filter-append from_then m.early m.late
        ∙ ap (λ ps. filter from_then m.early ++ (ps ++ filter from_then m.late)) (sym none)
        ∙ ap (λ ps. filter from_then m.early ++ ps) (sym (filter-append from_then m.missed m.late))
        ∙ sym (filter-append from_then m.early (m.missed ++ m.late)) ∙ ap (filter from_then) (sym m.split)
        ∙ heard-then))
        h

    -- of what is sent from the return on a front is got then, and the rest arrives behind the last beat
    pub second-takes : (before rest : List (Passage X)) → fs ≡ before ++ rest
        → AllByRecursion (λ (f : Passage X). f.sent < w) before → AllByRecursion (λ (f : Passage X). w ≤ f.sent) rest
        → (got : List (Dated X)) → AreGot their_life Came heard got
        → TakesFront rest (filter (λ (q : Dated X). nat_le w q.beat) got) (λ f. beats ≤ f.arrival)
    second-takes before rest parts low high got h =
        let soon : Passage X → Bool = λ f. nat_lt f.arrival beats in
        let none = filter-none is_second before
        (all-weaker (λ (f : Passage X). f.sent < w) (λ f. is_second f ≡ false) before
        (λ f l. let e : nat_le w f.sent ≡ false = grind (arith, nat_tests, l) in rw e refl) low) in
        let same : filter is_second rest ≡ filter soon rest = filter-same is_second soon rest
        (all-weaker (λ (f : Passage X). w ≤ f.sent) (λ f. is_second f ≡ soon f) rest
        (λ f l. let e : nat_le w f.sent ≡ true = grind (arith, nat_tests, l) in rw e refl) high) in
        let all : filter is_second fs ≡ filter soon rest = ap (filter is_second) parts
        ∙ filter-append is_second before rest ∙ ap (λ ps. ps ++ filter is_second rest) none ∙ same in
        let front = has-front soon rest
        (λ f g up e. grind (arith, nat_tests, e, up))
        (rising-right (λ (f : Passage X). f.arrival) before rest
        (subst (Rising (λ (f : Passage X). f.arrival)) parts rises)) in
        record {
          early = filter soon rest;
          rest = front.rest;
          all = front.all;
          got = all-got got h ∙ ap (map brought) all;
          why = all-weaker (λ (f : Passage X). soon f ≡ false) (λ f. beats ≤ f.arrival) front.rest
              (λ f e. grind (arith, nat_tests, e)) front.none;
        }
