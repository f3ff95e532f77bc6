-- The tests of what is timed are true exactly of what is.
use Rattle.std.proofs.Common.{◌≡◌, ℕ, zero, suc, ◌+◌, ◌%◌, ◌<◌, ◌≤◌, Bool, true, false, not, ◌&&◌, IsTrue, nat_lt, nat_le, List, [], ◌∷◌, ◌++◌, Option, Some, None, is_some, slice_get, refl, sym, ap, subst, ⊎_elim, inl, inr, arith, add-zero}
use Rattle.std.specs.Prelude.{◌==◌, ◌↔◌, ◌⊎◌, if◌then◌else◌}
use Rattle.std.specs.List.{list_all, fold, AllByRecursion}
use Rattle.std.proofs.lemmas.Bool.{false≢true}
use Rattle.tiger_base.specs.declared.number.Stamp.{Stamp}
use Rattle.slot_plan.specs.declared.params.Params.{Params}
use Rattle.slot_plan.specs.Times.{time_of}
use Rattle.node_kit.specs.declared.course.Course.{Course}
use Rattle.node_kit.specs.declared.course.Kept.{Kept}
use Rattle.node_kit.specs.declared.journal.What.{What}
use Rattle.node_kit.specs.declared.journal.What.TheVariants as what
use Rattle.node_kit.specs.declared.journal.Entry.{Entry}
use Rattle.node_kit.specs.Life.{Lifetime, death_of, back_of, lifetime_of}
use Rattle.run_facts.specs.Timed.{IsRead, IsNotBelow, AreRising, is_died, is_returned, death_within, AreReturned, IsUntil, IsLater, EndsInDeath, IsDeathOf, IsTimed, AreTimed, DieApart}
use Rattle.run_model.specs.Runs.{TellsReturn, IsTimedRun}
use Rattle.run_model.specs.declared.timing.End.{End}
use Rattle.run_model.specs.Tests.{is_timed_run, each_from, all_below, is_read, rises_from, is_empty, is_until, stands_later, is_later, ends_in_death, dies_as, is_timed, timed_in, is_in_beat, may_follow, returns_as, returns_in, one_lives}
use Rattle.run_model.proofs.Reflects.{and_both, and_left, and_right, both, negated, equal, less, at_most, all, each_found, each_gives}

reads : (p : Params) (e : Entry) → IsTrue (is_read p e) ↔ IsRead p e
reads p e =
    let a = nat_le (time_of p e.stamp.beat) e.stamp.reading in
    let b = nat_le e.stamp.reading (time_of p e.stamp.beat + p.skew) in (
      (λ h. record {
        low = (at_most (time_of p e.stamp.beat) e.stamp.reading).0 (and_left a b h);
        high = (at_most e.stamp.reading (time_of p e.stamp.beat + p.skew)).0 (and_right a b h);
      }),
      (λ g. and_both a b ((at_most (time_of p e.stamp.beat) e.stamp.reading).1 g.low) ((at_most e.stamp.reading (time_of p e.stamp.beat + p.skew)).1 g.high)),
    )

-- an entry is not below a stamp
abbrev IsBehind : Stamp → Entry → Type 0
IsBehind s e = (s.beat ≤ e.stamp.beat) × (s.reading ≤ e.stamp.reading)

behind_more : (s t : Stamp) (es : List Entry) → s.beat ≤ t.beat → s.reading ≤ t.reading → AllByRecursion (IsBehind t) es → AllByRecursion (IsBehind s) es
behind_more s t [] b r h = tt
behind_more s t (e ∷ es) b r h =
    let now = h.0 in
    let nb = now.0 in
    let nr = now.1 in
    ((omega arith, omega arith), behind_more s t es b r h.1)

not_below : (e : Entry) (es : List Entry) → AllByRecursion (IsBehind e.stamp) es → AllByRecursion (IsNotBelow e) es
not_below e [] h = tt
not_below e (f ∷ fs) h = (record { beat = h.0.0; reading = h.0.1 }, not_below e fs h.1)

rises_found : (s : Stamp) (es : List Entry) → IsTrue (rises_from s es) → AllByRecursion (IsBehind s) es × AreRising es
rises_found s [] h = (tt, tt)
rises_found s (e ∷ es) h =
    let a = nat_le s.beat e.stamp.beat in
    let b = nat_le s.reading e.stamp.reading in
    let ab = and_left (a && b) (rises_from e.stamp es) h in
    let rest = rises_found e.stamp es (and_right (a && b) (rises_from e.stamp es) h) in
    let beat : s.beat ≤ e.stamp.beat = (at_most s.beat e.stamp.beat).0 (and_left a b ab) in
    let reading : s.reading ≤ e.stamp.reading = (at_most s.reading e.stamp.reading).0 (and_right a b ab) in
    (((beat, reading), behind_more s e.stamp es beat reading rest.0), (not_below e es rest.0, rest.1))

rises_gives : (s : Stamp) (es : List Entry) → AllByRecursion (IsBehind s) es → AreRising es → IsTrue (rises_from s es)
rises_gives s [] h g = refl
rises_gives s (e ∷ es) h g =
    let a = nat_le s.beat e.stamp.beat in
    let b = nat_le s.reading e.stamp.reading in
    and_both (a && b) (rises_from e.stamp es)
    (and_both a b ((at_most s.beat e.stamp.beat).1 h.0.0) ((at_most s.reading e.stamp.reading).1 h.0.1))
    (rises_gives e.stamp es (behind e es g.0) g.1)
  where
    behind : (d : Entry) (ds : List Entry) → AllByRecursion (IsNotBelow d) ds → AllByRecursion (IsBehind d.stamp) ds
    behind d [] k = tt
    behind d (f ∷ fs) k = ((k.0.beat, k.0.reading), behind d fs k.1)

from_start : (es : List Entry) → AllByRecursion (IsBehind (record { beat = 0; reading = 0 })) es
from_start [] = tt
from_start (e ∷ es) = ((omega arith, omega arith), from_start es)

rises : (es : List Entry) → IsTrue (rises_from (record { beat = 0; reading = 0 }) es) ↔ AreRising es
rises es = (
  (λ h. (rises_found (record { beat = 0; reading = 0 }) es h).1),
  (λ g. rises_gives (record { beat = 0; reading = 0 }) es (from_start es) g),
)

-- deaths
untils : (left : Option ℕ) (death beat : ℕ) → IsTrue (is_until left death beat) ↔ IsUntil left death beat
untils None death beat = less beat death
untils (Some left) death beat = at_most beat death

empties : (es : List Entry) → IsTrue (is_empty es) ↔ (es ≡ [])
empties [] = ((λ h. refl), (λ e. refl))
empties (e ∷ es) = ((λ h. absurd (false≢true h)), (λ e. absurd (cc)))

laters : (back : Option ℕ) (es : List Entry) → IsTrue (is_later back es) ↔ IsLater back es
laters None es = empties es
laters (Some back) es =
    all (λ e. (is_died e.what ≡ false) × (back ≤ e.stamp.beat)) (stands_later back)
    (λ e. both (not (is_died e.what)) (nat_le back e.stamp.beat) (is_died e.what ≡ false) (back ≤ e.stamp.beat)
    (negated (is_died e.what)) (at_most back e.stamp.beat)) es

death_said : (w : What) → IsTrue (is_died w) ↔ (w ≡ what.Died)
death_said what.Died = ((λ h. refl), (λ e. refl))
death_said other = ((λ h. absurd (false≢true h)), (λ e. absurd (cc)))

-- the end that a life has by a death
abbrev end_of : Lifetime → ℕ → End
end_of life death = record { death = death; left = life.left; back = life.back }

-- the first entry decides: it is the death, or it may stand before one
abbrev HasEnd : Lifetime → ℕ → Bool → Entry → List Entry → Type 0
HasEnd life death true e es = (e.stamp.beat ≡ death) × IsLater life.back es
HasEnd life death false e es = IsUntil life.left death e.stamp.beat × EndsInDeath life death es

end_first : (life : Lifetime) (death : ℕ) (e : Entry) (es : List Entry) (b : Bool) → is_died e.what ≡ b
    → HasEnd life death b e es → EndsInDeath life death (e ∷ es)
end_first life death e es true said h = record {
  before = [];
  last = e;
  later = es;
  all = refl;
  died = (death_said e.what).0 said;
  in_beat = h.0;
  alone = tt;
  back = h.1;
}
end_first life death e es false said h =
    let rest = h.1 in
    record {
      before = e ∷ rest.before;
      last = rest.last;
      later = rest.later;
      all = ap (λ ds. e ∷ ds) rest.all;
      died = rest.died;
      in_beat = rest.in_beat;
      alone = ((said, h.0), rest.alone);
      back = rest.back;
    }

ends_found : (life : Lifetime) (death : ℕ) (es : List Entry) → IsTrue (ends_in_death (end_of life death) es)
    → EndsInDeath life death es
ends_found life death [] h = absurd (false≢true h)
ends_found life death (e ∷ es) h = by (λ k. ends_found life death es k) (is_died e.what) refl h
  where
    by : (IsTrue (ends_in_death (end_of life death) es) → EndsInDeath life death es) → (b : Bool) → is_died e.what ≡ b
        → IsTrue (if b then (e.stamp.beat == death) && is_later life.back es
        else is_until life.left death e.stamp.beat && ends_in_death (end_of life death) es)
        → EndsInDeath life death (e ∷ es)
    by rest true said g =
        let x = e.stamp.beat == death in
        let y = is_later life.back es in
        end_first life death e es true said
        ((equal e.stamp.beat death).0 (and_left x y g), (laters life.back es).0 (and_right x y g))
    by rest false said g =
        let x = is_until life.left death e.stamp.beat in
        let y = ends_in_death (end_of life death) es in
        end_first life death e es false said
        ((untils life.left death e.stamp.beat).0 (and_left x y g), rest (and_right x y g))

ends_gives : (life : Lifetime) (death : ℕ) (before : List Entry) (last : Entry) (later : List Entry)
    → last.what ≡ what.Died → last.stamp.beat ≡ death
    → AllByRecursion (λ e. (is_died e.what ≡ false) × IsUntil life.left death e.stamp.beat) before
    → IsLater life.back later → IsTrue (ends_in_death (end_of life death) (before ++ last ∷ later))
ends_gives life death [] last later died beat h g =
    rw ((death_said last.what).1 died)
    (and_both (last.stamp.beat == death) (is_later life.back later) ((equal last.stamp.beat death).1 beat)
    ((laters life.back later).1 g))
ends_gives life death (e ∷ es) last later died beat h g =
    let now = h.0 in
    let said : is_died e.what ≡ false = now.0 in
    rw said
    (and_both (is_until life.left death e.stamp.beat) (ends_in_death (end_of life death) (es ++ last ∷ later))
    ((untils life.left death e.stamp.beat).1 now.1) (ends_gives life death es last later died beat h.1 g))

dies : (life : Lifetime) (death : Option ℕ) (es : List Entry) → IsTrue (dies_as life death es) ↔ IsDeathOf life death es
dies life None es = all (λ e. is_died e.what ≡ false) (λ e. not (is_died e.what)) (λ e. negated (is_died e.what)) es
dies life (Some death) es = (
  (λ h. ends_found life death es h),
  (λ g. rw g.all (ends_gives life death g.before g.last g.later g.died g.in_beat g.alone g.back)),
)

-- a journal is timed
times : (p : Params) (beats : ℕ) (life : Lifetime) (es : List Entry)
    → IsTrue (is_timed p beats life es) ↔ IsTimed p beats life es
unfolding is_timed
times p beats life es =
    let death = death_within beats life.death in
    let a = list_all (is_read p) es in
    let b = rises_from (record { beat = 0; reading = 0 }) es in
    let c = list_all (λ (e : Entry). nat_lt e.stamp.beat beats) es in
    let d = dies_as life death es in
    let early = all (λ (e : Entry). e.stamp.beat < beats) (λ e. nat_lt e.stamp.beat beats) (λ e. less e.stamp.beat beats) es in (
      (λ h.
          let bcd = and_right a (b && (c && d)) h in
          let cd = and_right b (c && d) bcd in
          record {
            reads = (all (IsRead p) (is_read p) (reads p) es).0 (and_left a (b && (c && d)) h);
            rising = (rises es).0 (and_left b (c && d) bcd);
            early = early.0 (and_left c d cd);
            death = (dies life death es).0 (and_right c d cd);
          }),
      (λ g. and_both a (b && (c && d)) ((all (IsRead p) (is_read p) (reads p) es).1 g.reads)
          (and_both b (c && d) ((rises es).1 g.rising)
          (and_both c d (early.1 g.early) ((dies life death es).1 g.death)))),
    )

-- a test of each element and its number
pub numbered_found : {X : Type 0} (test : ℕ → X → Bool) (n : ℕ) (xs : List X) → IsTrue (each_from test n xs)
    → (m : ℕ) (x : X) → slice_get xs m ≡ Some x → IsTrue (test (n + m) x)
numbered_found test n [] h m x e = absurd (cc)
numbered_found test n (y ∷ ys) h zero x e =
    let same : y ≡ x = cc in
    rw (add-zero n, ← same) (and_left (test n y) (each_from test (n + 1) ys) h)
numbered_found test n (y ∷ ys) h (suc m) x e =
    let far : n + 1 + m ≡ n + suc m = omega arith in
    subst (λ (k : ℕ). IsTrue (test k x)) far (numbered_found test (n + 1) ys (and_right (test n y) (each_from test (n + 1) ys) h) m x e)

pub numbered_gives : {X : Type 0} (test : ℕ → X → Bool) (n : ℕ) (xs : List X)
    → ((m : ℕ) (x : X) → slice_get xs m ≡ Some x → IsTrue (test (n + m) x)) → IsTrue (each_from test n xs)
numbered_gives test n [] g = refl
numbered_gives test n (y ∷ ys) g =
    and_both (test n y) (each_from test (n + 1) ys)
    (subst (λ (k : ℕ). IsTrue (test k y)) (add-zero n) (g 0 y refl))
    (numbered_gives test (n + 1) ys
    (λ m x e. let far : n + suc m ≡ n + 1 + m = omega arith in subst (λ (k : ℕ). IsTrue (test k x)) far (g (suc m) x e)))

all_times : (c : Course) (journals : List (List Entry))
    → IsTrue (each_from (timed_in c) 0 journals) ↔ AreTimed c.plan.params c.beats (lifetime_of c) journals
all_times c journals = (
  (λ h. λ n journal e.
      let here = numbered_found (timed_in c) 0 journals h n journal e in
      let same : 0 + n ≡ n = omega arith in
      (times c.plan.params c.beats (lifetime_of c n) journal).0 (subst (λ (k : ℕ). IsTrue (timed_in c k journal)) same here)),
  (λ g. numbered_gives (timed_in c) 0 journals
      (λ n journal e.
      let same : n ≡ 0 + n = omega arith in
      subst (λ (k : ℕ). IsTrue (timed_in c k journal)) same ((times c.plan.params c.beats (lifetime_of c n) journal).1 (g n journal e)))),
)

none_or : (a b : Option ℕ) → IsTrue (not (is_some a && is_some b)) ↔ ((a ≡ None) ⊎ (b ≡ None))
none_or None b = ((λ h. inl refl), (λ g. refl))
none_or (Some x) None = ((λ h. inr refl), (λ g. refl))
none_or (Some x) (Some y) = ((λ h. absurd (false≢true h)), (λ g. ⊎_elim (λ (e : Some x ≡ None). absurd (cc)) (λ (e : Some y ≡ None). absurd (cc)) g))

all_apart : (c : Course) → IsTrue (all_below (one_lives c) c.plan.params.cubs) ↔ DieApart c.plan.params (lifetime_of c)
all_apart c = (
  (λ h. λ n l. (none_or (death_of c n) (death_of c ((n + 1) % c.plan.params.cubs))).0 (each_found (one_lives c) c.plan.params.cubs h n l)),
  (λ g. each_gives (one_lives c) c.plan.params.cubs (λ n l. (none_or (death_of c n) (death_of c ((n + 1) % c.plan.params.cubs))).1 (g n l))),
)

-- returns
backs : (back : Option ℕ) (beat : ℕ) → IsTrue (is_in_beat back beat) ↔ (back ≡ Some beat)
backs None beat = ((λ h. absurd (false≢true h)), (λ e. absurd (cc)))
backs (Some back) beat = (
  (λ h. ap (λ (n : ℕ). Some n) ((equal back beat).0 h)),
  (λ e. let same : back ≡ beat = cc in (equal back beat).1 same),
)

-- an entry may stand behind one that is a death, or is none
abbrev pub Follows : Bool → Bool → Option ℕ → ℕ → Type 0
Follows said died back beat = (said ≡ died) × (died ≡ true → back ≡ Some beat)

pub follows : (said died : Bool) (back : Option ℕ) (beat : ℕ)
    → IsTrue (if said then died && is_in_beat back beat else not died) ↔ Follows said died back beat
follows true true back beat = ((λ h. (refl, λ t. (backs back beat).0 h)), (λ g. (backs back beat).1 (g.1 refl)))
follows true false back beat = ((λ h. absurd (false≢true h)), (λ g. absurd (false≢true (sym g.0))))
follows false true back beat = ((λ h. absurd (false≢true h)), (λ g. absurd (false≢true g.0)))
follows false false back beat = ((λ h. (refl, λ t. absurd (false≢true t))), (λ g. refl))

no_end : (died : Bool) (within : Option ℕ) → IsTrue (not (died && is_some within)) ↔ (died ≡ true → within ≡ None)
no_end true None = ((λ h t. refl), (λ g. refl))
no_end true (Some w) = ((λ h. absurd (false≢true h)), (λ g. let e : Some w ≡ None = g refl in absurd (cc)))
no_end false within = ((λ h t. absurd (false≢true t)), (λ g. refl))

-- whether the last of some entries behind one that is a death, or is none, is a death
abbrev pub ends_behind : Bool → List Entry → Bool
ends_behind died es = fold (λ d e. is_died e.what) died es

pub tells_back : (back within : Option ℕ) (died : Bool) (es : List Entry)
    → IsTrue (returns_as back within died es)
    ↔ (AreReturned back died es × (ends_behind died es ≡ true → within ≡ None))
tells_back back within died [] = ((λ h. (tt, (no_end died within).0 h)), (λ g. (no_end died within).1 g.1))
tells_back back within died (e ∷ es) =
    let a = may_follow died back e in
    let b = returns_as back within (is_died e.what) es in
    let first = follows (is_returned e.what) died back e.stamp.beat in
    let rest = tells_back back within (is_died e.what) es in (
      (λ h.
          let f = first.0 (and_left a b h) in
          let k = rest.0 (and_right a b h) in
          ((f.0, f.1, k.0), k.1)),
      (λ g. and_both a b (first.1 (g.0.0, g.0.1)) (rest.1 (g.0.2, g.1))),
    )

tells : (c : Course) (n : ℕ) (es : List Entry) → IsTrue (returns_in c n es) ↔ TellsReturn c.beats (back_of c n) es
tells c n es =
    let k = tells_back (back_of c n) (death_within c.beats (back_of c n)) false es in (
      (λ h. let g = k.0 h in record { behind = g.0; comes = g.1 }),
      (λ g. k.1 (g.behind, g.comes)),
    )

all_tell : (c : Course) (journals : List (List Entry))
    → IsTrue (each_from (returns_in c) 0 journals)
    ↔ ((n : ℕ) (journal : List Entry) → slice_get journals n ≡ Some journal → TellsReturn c.beats (back_of c n) journal)
all_tell c journals = (
  (λ h. λ n journal e.
      let here = numbered_found (returns_in c) 0 journals h n journal e in
      let same : 0 + n ≡ n = omega arith in
      (tells c n journal).0 (subst (λ (k : ℕ). IsTrue (returns_in c k journal)) same here)),
  (λ g. numbered_gives (returns_in c) 0 journals
      (λ n journal e.
      let same : n ≡ 0 + n = omega arith in
      subst (λ (k : ℕ). IsTrue (returns_in c k journal)) same ((tells c n journal).1 (g n journal e)))),
)

-- the test of a timed run is true exactly of one
pub timed : (k : Kept) → IsTrue (is_timed_run k) ↔ IsTimedRun k
timed k =
    let a = each_from (timed_in k.course) 0 k.journals in
    let b = all_below (one_lives k.course) k.course.plan.params.cubs in
    let d = each_from (returns_in k.course) 0 k.journals in (
      (λ h.
          let bd = and_right a (b && d) h in
          record {
            timed = (all_times k.course k.journals).0 (and_left a (b && d) h);
            apart = (all_apart k.course).0 (and_left b d bd);
            returns = (all_tell k.course k.journals).0 (and_right b d bd);
          }),
      (λ g. and_both a (b && d) ((all_times k.course k.journals).1 g.timed)
          (and_both b d ((all_apart k.course).1 g.apart) ((all_tell k.course k.journals).1 g.returns))),
    )
