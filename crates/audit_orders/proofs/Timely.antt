-- A journal is timed exactly if each entry may come where it stands, and the death is there at the end.
use Rattle.std.proofs.Common.{◌≡◌, ℕ, ◌+◌, ◌-◌, ◌<◌, ◌≤◌, Bool, true, false, not, ◌&&◌, ◌||◌, IsTrue, nat_lt, nat_le, cond, List, [], ◌∷◌, ◌++◌, length, take, Option, Some, None, MatchOption, refl, sym, ap, subst, ◌∙◌, append-nil, arith}
use Rattle.std.specs.Prelude.{◌==◌, ◌↔◌}
use Rattle.std.specs.List.{AllByRecursion, fold}
use Rattle.std.proofs.lemmas.Bool.{false≢true, both_ways}
use Rattle.std.proofs.lemmas.List.Sums.{fold-append}
use Rattle.std.proofs.lemmas.Nat.{mul-le}
use Rattle.tiger_base.specs.declared.number.Stamp.{Stamp}
use Rattle.slot_plan.specs.declared.params.Params.{Params}
use Rattle.slot_plan.specs.Times.{time_of}
use Rattle.node_kit.specs.declared.journal.What.{What}
use Rattle.node_kit.specs.declared.journal.What.TheVariants as what
use Rattle.node_kit.specs.declared.journal.Entry.{Entry}
use Rattle.node_kit.specs.Life.{Lifetime}
use Rattle.run_facts.specs.Timed.{IsRead, IsNotBelow, AreRising, is_died, death_within, IsUntil, IsLater, EndsInDeath, IsDeathOf, IsTimed}
use Rattle.run_model.specs.Fronts.{AtEach}
use Rattle.run_model.specs.Tests.{is_read, is_until}
use Rattle.run_model.proofs.Fronts.{at_each_more}
use Rattle.run_model.proofs.Reflects.{and_both, and_left, and_right, negated, equal, less, at_most}
use Rattle.audit_orders.specs.Breaches.{DecidesList}
use Rattle.audit_orders.specs.declared.flaw.Flaw.{Flaw}
use Rattle.audit_orders.specs.declared.flaw.Flaw.TheVariants as flaw
use Rattle.audit_orders.specs.Timing.{life_of_term, nothing_yet, next_so_far, is_behind, may_stand, may_come, may_end}
use Rattle.audit_orders.specs.declared.timing.SoFar.{SoFar}
use Rattle.audit_orders.specs.declared.timing.Term.{Term}
use Rattle.audit_orders.proofs.Walks.{GoesToAnEnd, done_here, unfinished_here}

-- an entry may come, and a journal may end
abbrev pub May : Params → ℕ → Term → SoFar → Entry → Type 0
May p beats term s e = IsTrue (may_come p beats term s e)

abbrev pub Ends : ℕ → Term → SoFar → Type 0
Ends beats term s = IsTrue (may_end (death_within beats term.death) s.died)

-- ---- what is left of a journal behind what is known

-- an entry is not below a stamp
abbrev IsBehind : Stamp → Entry → Type 0
IsBehind s e = (s.beat ≤ e.stamp.beat) × (s.reading ≤ e.stamp.reading)

abbrev IsDeathFrom : Option ℕ → Lifetime → Bool → List Entry → Type 0
IsDeathFrom None life died es = AllByRecursion (λ e. is_died e.what ≡ false) es
IsDeathFrom (Some death) life true es = IsLater life.back es
IsDeathFrom (Some death) life false es = EndsInDeath life death es

record IsTimedFrom (p : Params) (beats : ℕ) (term : Term) (s : SoFar) (es : List Entry) : Type 0 where
  reads : AllByRecursion (IsRead p) es
  behind : AllByRecursion (IsBehind s.last) es
  rising : AreRising es
  early : AllByRecursion (λ e. e.stamp.beat < beats) es
  death : IsDeathFrom (death_within beats term.death) (life_of_term term) s.died es

-- ---- stamps

behind_more : (s t : Stamp) (es : List Entry) → s.beat ≤ t.beat → s.reading ≤ t.reading → AllByRecursion (IsBehind t) es → AllByRecursion (IsBehind s) es
behind_more s t [] b r h = tt
behind_more s t (e ∷ es) b r h =
    let now = h.0 in
    let nb = now.0 in
    let nr = now.1 in
    ((omega (arith, b, nb), omega (arith, r, nr)), behind_more s t es b r h.1)

not_below : (e : Entry) (es : List Entry) → AllByRecursion (IsBehind e.stamp) es → AllByRecursion (IsNotBelow e) es
not_below e [] h = tt
not_below e (f ∷ fs) h = (record { beat = h.0.0; reading = h.0.1 }, not_below e fs h.1)

behind_it : (e : Entry) (es : List Entry) → AllByRecursion (IsNotBelow e) es → AllByRecursion (IsBehind e.stamp) es
behind_it e [] h = tt
behind_it e (f ∷ fs) h = ((h.0.beat, h.0.reading), behind_it e fs h.1)

from_zero : (es : List Entry) → AllByRecursion (IsBehind nothing_yet.last) es
from_zero [] = tt
from_zero (e ∷ es) = ((omega arith, omega arith), from_zero es)

reads : (p : Params) (e : Entry) → IsTrue (is_read p e) ↔ IsRead p e
reads p e =
    let a = nat_le (time_of p e.stamp.beat) e.stamp.reading in
    let b = nat_le e.stamp.reading (time_of p e.stamp.beat + p.skew) in (
      (λ h. record {
        low = (at_most (time_of p e.stamp.beat) e.stamp.reading).0 (and_left a b h);
        high = (at_most e.stamp.reading (time_of p e.stamp.beat + p.skew)).0 (and_right a b h);
      }),
      (λ g. and_both a b ((at_most (time_of p e.stamp.beat) e.stamp.reading).1 g.low) ((at_most e.stamp.reading (time_of p e.stamp.beat + p.skew)).1 g.high)),
    )

-- ---- deaths

untils : (left : Option ℕ) (death beat : ℕ) → IsTrue (is_until left death beat) ↔ IsUntil left death beat
untils None death beat = less beat death
untils (Some left) death beat = at_most beat death

death_said : (w : What) → IsTrue (is_died w) ↔ (w ≡ what.Died)
death_said what.Died = ((λ h. refl), (λ e. refl))
death_said other = ((λ h. absurd (false≢true h)), (λ e. absurd (cc)))

later_first : (back : Option ℕ) (e : Entry) (es : List Entry) → IsLater back (e ∷ es) → IsTrue (is_behind back e) × IsLater back es
later_first None e es h = absurd (cc)
later_first (Some back) e es h = (
  and_both (not (is_died e.what)) (nat_le back e.stamp.beat) ((negated (is_died e.what)).1 h.0.0) ((at_most back e.stamp.beat).1 h.0.1),
  h.1,
)

later_more : (back : Option ℕ) (e : Entry) (es : List Entry) → IsTrue (is_behind back e) → IsLater back es → IsLater back (e ∷ es)
later_more None e es t h = absurd (false≢true t)
later_more (Some back) e es t h = (
  (
    (negated (is_died e.what)).0 (and_left (not (is_died e.what)) (nat_le back e.stamp.beat) t),
    (at_most back e.stamp.beat).0 (and_right (not (is_died e.what)) (nat_le back e.stamp.beat) t),
  ),
  h,
)

-- the first entry of a journal that ends in a death
abbrev IsFirst : Lifetime → ℕ → Bool → Entry → List Entry → Type 0
IsFirst life death b e es =
    IsTrue (cond b (e.stamp.beat == death) (is_until life.left death e.stamp.beat)) × IsDeathFrom (Some death) life b es

end_first : (life : Lifetime) (death : ℕ) (e : Entry) (es before : List Entry) (last : Entry) (later : List Entry)
    → e ∷ es ≡ before ++ last ∷ later → last.what ≡ what.Died → last.stamp.beat ≡ death
    → AllByRecursion (λ e. (is_died e.what ≡ false) × IsUntil life.left death e.stamp.beat) before → IsLater life.back later
    → IsFirst life death (is_died e.what) e es
end_first life death e es [] last later all died beat alone back =
    let same : e ≡ last = cc in
    let rest : es ≡ later = cc in
    let said : is_died e.what ≡ true = (death_said e.what).1 (ap (λ (x : Entry). x.what) same ∙ died) in
    subst (λ (b : Bool). IsFirst life death b e es) (sym said) (
      (equal e.stamp.beat death).1 (ap (λ (x : Entry). x.stamp.beat) same ∙ beat),
      subst (λ (xs : List Entry). IsLater life.back xs) (sym rest) back,
    )
end_first life death e es (b ∷ bs) last later all died beat alone back =
    let same : e ≡ b = cc in
    let rest : es ≡ bs ++ last ∷ later = cc in
    let said : is_died e.what ≡ false = ap (λ (x : Entry). is_died x.what) same ∙ alone.0.0 in
    subst (λ (c : Bool). IsFirst life death c e es) (sym said) (
      (untils life.left death e.stamp.beat).1 (subst (λ (x : Entry). IsUntil life.left death x.stamp.beat) (sym same) alone.0.1),
      record { before = bs; last = last; later = later; all = rest; died = died; in_beat = beat; alone = alone.1; back = back },
    )

end_more : (life : Lifetime) (death : ℕ) (e : Entry) (es : List Entry) (b : Bool) → is_died e.what ≡ b → IsFirst life death b e es
    → EndsInDeath life death (e ∷ es)
end_more life death e es true said h = record {
  before = [];
  last = e;
  later = es;
  all = refl;
  died = (death_said e.what).0 said;
  in_beat = (equal e.stamp.beat death).0 h.0;
  alone = tt;
  back = h.1;
}
end_more life death e es false said h =
    let rest = h.1 in
    record {
      before = e ∷ rest.before;
      last = rest.last;
      later = rest.later;
      all = ap (λ ds. e ∷ ds) rest.all;
      died = rest.died;
      in_beat = rest.in_beat;
      alone = ((said, (untils life.left death e.stamp.beat).0 h.0), rest.alone);
      back = rest.back;
    }

death_first : (d : Option ℕ) (life : Lifetime) (died : Bool) (e : Entry) (es : List Entry) → IsDeathFrom d life died (e ∷ es)
    → IsTrue (may_stand d life.left life.back died e) × IsDeathFrom d life (died || is_died e.what) es
death_first None life died e es h = ((negated (is_died e.what)).1 h.0, h.1)
death_first (Some death) life true e es h = later_first life.back e es h
death_first (Some death) life false e es h =
    end_first life death e es h.before h.last h.later h.all h.died h.in_beat h.alone h.back

death_more : (d : Option ℕ) (life : Lifetime) (died : Bool) (e : Entry) (es : List Entry) → IsTrue (may_stand d life.left life.back died e)
    → IsDeathFrom d life (died || is_died e.what) es → IsDeathFrom d life died (e ∷ es)
death_more None life died e es t h = ((negated (is_died e.what)).0 t, h)
death_more (Some death) life true e es t h = later_more life.back e es t h
death_more (Some death) life false e es t h = end_more life death e es (is_died e.what) refl (t, h)

death_none : (d : Option ℕ) (life : Lifetime) (died : Bool) → IsDeathFrom d life died [] → IsTrue (may_end d died)
death_none None life died h = refl
death_none (Some death) life true h = refl
death_none (Some death) life false h = none h.before h.all
  where
    none : (before : List Entry) → [] ≡ before ++ h.last ∷ h.later → IsTrue false
    none [] e = absurd (cc)
    none (b ∷ bs) e = absurd (cc)

death_end : (d : Option ℕ) (life : Lifetime) (died : Bool) → IsTrue (may_end d died) → IsDeathFrom d life died []
death_end None life died h = tt
death_end (Some death) life true h = later_none life.back
  where
    later_none : (back : Option ℕ) → IsLater back []
    later_none None = refl
    later_none (Some back) = tt
death_end (Some death) life false h = absurd (false≢true h)

-- ---- one entry

-- the five tests of an entry
record Passes (p : Params) (beats : ℕ) (term : Term) (s : SoFar) (e : Entry) : Type 0 where
  read : IsRead p e
  behind : IsBehind s.last e
  early : e.stamp.beat < beats
  stands : IsTrue (may_stand (death_within beats term.death) term.left term.back s.died e)

passes : (p : Params) (beats : ℕ) (term : Term) (s : SoFar) (e : Entry) → May p beats term s e ↔ Passes p beats term s e
unfolding may_come
passes p beats term s e =
    let a = is_read p e in
    let b = nat_le s.last.beat e.stamp.beat in
    let c = nat_le s.last.reading e.stamp.reading in
    let d = nat_lt e.stamp.beat beats in
    let f = may_stand (death_within beats term.death) term.left term.back s.died e in (
      (λ h.
          let bcd = and_right a (b && (c && (d && f))) h in
          let cd = and_right b (c && (d && f)) bcd in
          let df = and_right c (d && f) cd in
          record {
            read = (reads p e).0 (and_left a (b && (c && (d && f))) h);
            behind = (
              (at_most s.last.beat e.stamp.beat).0 (and_left b (c && (d && f)) bcd),
              (at_most s.last.reading e.stamp.reading).0 (and_left c (d && f) cd),
            );
            early = (less e.stamp.beat beats).0 (and_left d f df);
            stands = and_right d f df;
          }),
      (λ g. and_both a (b && (c && (d && f))) ((reads p e).1 g.read)
          (and_both b (c && (d && f)) ((at_most s.last.beat e.stamp.beat).1 g.behind.0)
          (and_both c (d && f) ((at_most s.last.reading e.stamp.reading).1 g.behind.1)
          (and_both d f ((less e.stamp.beat beats).1 g.early) g.stands)))),
    )

first_of : (p : Params) (beats : ℕ) (term : Term) (s : SoFar) (e : Entry) (es : List Entry) → IsTimedFrom p beats term s (e ∷ es)
    → May p beats term s e × IsTimedFrom p beats term (next_so_far s e) es
first_of p beats term s e es h =
    let death = death_first (death_within beats term.death) (life_of_term term) s.died e es h.death in (
      (passes p beats term s e).1 (record { read = h.reads.0; behind = h.behind.0; early = h.early.0; stands = death.0 }),
      record { reads = h.reads.1; behind = behind_it e es h.rising.0; rising = h.rising.1; early = h.early.1; death = death.1 },
    )

one_before : (p : Params) (beats : ℕ) (term : Term) (s : SoFar) (e : Entry) (es : List Entry) → May p beats term s e
    → IsTimedFrom p beats term (next_so_far s e) es → IsTimedFrom p beats term s (e ∷ es)
one_before p beats term s e es may h =
    let now = (passes p beats term s e).0 may in
    record {
      reads = (now.read, h.reads);
      behind = (now.behind, behind_more s.last e.stamp es now.behind.0 now.behind.1 h.behind);
      rising = (not_below e es h.behind, h.rising);
      early = (now.early, h.early);
      death = death_more (death_within beats term.death) (life_of_term term) s.died e es now.stands h.death;
    }

-- ---- all entries

steps_of : (p : Params) (beats : ℕ) (term : Term) (s : SoFar) (es : List Entry) → IsTimedFrom p beats term s es
    → AtEach (May p beats term) next_so_far s es × Ends beats term (fold next_so_far s es)
steps_of p beats term s [] h = (tt, death_none (death_within beats term.death) (life_of_term term) s.died h.death)
steps_of p beats term s (e ∷ es) h =
    let now = first_of p beats term s e es h in
    let rest = steps_of p beats term (next_so_far s e) es now.1 in
    ((now.0, rest.0), rest.1)

of_steps : (p : Params) (beats : ℕ) (term : Term) (s : SoFar) (es : List Entry) → AtEach (May p beats term) next_so_far s es
    → Ends beats term (fold next_so_far s es) → IsTimedFrom p beats term s es
of_steps p beats term s [] h ends = record {
  reads = tt;
  behind = tt;
  rising = tt;
  early = tt;
  death = death_end (death_within beats term.death) (life_of_term term) s.died ends;
}
of_steps p beats term s (e ∷ es) h ends = one_before p beats term s e es h.0 (of_steps p beats term (next_so_far s e) es h.1 ends)

-- what is left behind nothing is all
abbrev deaths_are : (d : Option ℕ) (life : Lifetime) (es : List Entry) → IsDeathOf life d es ↔ IsDeathFrom d life false es
deaths_are None life es = ((λ h. h), (λ h. h))
deaths_are (Some death) life es = ((λ h. h), (λ h. h))

by_steps : (p : Params) (beats : ℕ) (term : Term) (es : List Entry)
    → IsTimed p beats (life_of_term term) es ↔ (AtEach (May p beats term) next_so_far nothing_yet es × Ends beats term (fold next_so_far nothing_yet es))
by_steps p beats term es = (
  (λ h. steps_of p beats term nothing_yet es (record {
    reads = h.reads;
    behind = from_zero es;
    rising = h.rising;
    early = h.early;
    death = (deaths_are (death_within beats term.death) (life_of_term term) es).0 h.death;
  })),
  (λ h. let all = of_steps p beats term nothing_yet es h.0 h.1 in
      record {
        reads = all.reads;
        rising = all.rising;
        early = all.early;
        death = (deaths_are (death_within beats term.death) (life_of_term term) es).1 all.death;
      }),
)

-- ---- what may come can be gone on with

-- so far a node can still die in a beat
abbrev CanDie : Params → ℕ → SoFar → Type 0
CanDie p death s = s.died ≡ false → (s.last.beat ≤ death) × (s.last.reading ≤ time_of p death + p.skew)

not_yet : (a b : Bool) → (a || b) ≡ false → (a ≡ false) × (b ≡ false)
not_yet true b h = absurd (false≢true (sym h))
not_yet false b h = (refl, h)

no_later : (p : Params) (a b : ℕ) → a ≤ b → time_of p a ≤ time_of p b
unfolding time_of
no_later p a b h = mul-le a p.beat b p.beat h (omega arith)

-- what stands before a death is in no higher beat
before_death : (left back : Option ℕ) (death : ℕ) (e : Entry) (died : Bool) → died ≡ false → is_died e.what ≡ false
    → IsTrue (may_stand (Some death) left back died e) → e.stamp.beat ≤ death
before_death left back death e true d said h = absurd (false≢true (sym d))
before_death left back death e false d said h =
    low left (subst (λ (b : Bool). IsTrue (cond b (e.stamp.beat == death) (is_until left death e.stamp.beat))) said h)
  where
    low : (o : Option ℕ) → IsTrue (is_until o death e.stamp.beat) → e.stamp.beat ≤ death
    low None t = let less = (less e.stamp.beat death).0 t in omega (arith, less)
    low (Some left) t = (at_most e.stamp.beat death).0 t

can_die_more : (p : Params) (beats death : ℕ) (term : Term) (s : SoFar) (e : Entry) → death_within beats term.death ≡ Some death
    → May p beats term s e → CanDie p death (next_so_far s e)
can_die_more p beats death term s e is may d =
    let now = (passes p beats term s e).0 may in
    let yet = not_yet s.died (is_died e.what) d in
    let low = before_death term.left term.back death e s.died yet.0 yet.1
    (subst (λ (o : Option ℕ). IsTrue (may_stand o term.left term.back s.died e)) is now.stands) in
    let high = now.read.high in
    let time = no_later p e.stamp.beat death low in
    (low, omega (arith, high, time))

can_die : (p : Params) (beats death : ℕ) (term : Term) (s : SoFar) (es : List Entry) → death_within beats term.death ≡ Some death
    → AtEach (May p beats term) next_so_far s es → CanDie p death s → CanDie p death (fold next_so_far s es)
can_die p beats death term s [] is h g = g
can_die p beats death term s (e ∷ es) is h g =
    can_die p beats death term (next_so_far s e) es is h.1 (can_die_more p beats death term s e is h.0)

-- the entry of a death that comes next
abbrev dying : Params → ℕ → SoFar → Entry
dying p death s = record {
  stamp = record { beat = death; reading = s.last.reading + (time_of p death - s.last.reading) };
  what = what.Died;
}

within_is : (beats : ℕ) (d : Option ℕ) (death : ℕ) → death_within beats d ≡ Some death → death < beats
within_is beats None death e = absurd (cc)
within_is beats (Some other) death e = by (nat_lt other beats) refl e
  where
    by : (b : Bool) → nat_lt other beats ≡ b → cond b (Some other) None ≡ Some death → death < beats
    by true t same =
        let is : other ≡ death = cc in
        let low = (less other beats).0 t in
        omega (arith, is, low)
    by false t same = absurd (cc)

may_die : (p : Params) (beats death : ℕ) (term : Term) (s : SoFar) → death_within beats term.death ≡ Some death → CanDie p death s
    → s.died ≡ false → May p beats term s (dying p death s)
may_die p beats death term s is can alive =
    let now = can alive in
    let low = now.0 in
    let high = now.1 in
    (passes p beats term s (dying p death s)).1 (record {
      read = record { low = omega arith; high = omega (arith, high) };
      behind = (low, omega arith);
      early = within_is beats term.death death is;
      stands = subst (λ (o : Option ℕ). IsTrue (may_stand o term.left term.back s.died (dying p death s))) (sym is)
          (subst (λ (b : Bool). IsTrue (may_stand (Some death) term.left term.back b (dying p death s))) (sym alive) ((equal death death).1 refl));
    })

ends_with : (beats death : ℕ) (term : Term) (died : Bool) → death_within beats term.death ≡ Some death → died ≡ true
    → IsTrue (may_end (death_within beats term.death) died)
ends_with beats death term died is d = subst (λ (o : Option ℕ). IsTrue (may_end o died)) (sym is) d

or_true : (b : Bool) → (b || true) ≡ true
or_true true = refl
or_true false = refl

go_on : (p : Params) (beats : ℕ) (term : Term) (d : Option ℕ) → death_within beats term.death ≡ d → (es : List Entry)
    → AtEach (May p beats term) next_so_far nothing_yet es
    → (rest : List Entry) × AtEach (May p beats term) next_so_far nothing_yet (es ++ rest) × Ends beats term (fold next_so_far nothing_yet (es ++ rest))
go_on p beats term None is es h = (
  [],
  subst (λ (xs : List Entry). AtEach (May p beats term) next_so_far nothing_yet xs) (sym (append-nil es)) h,
  subst (λ (o : Option ℕ). IsTrue (may_end o (fold next_so_far nothing_yet (es ++ [])).died)) (sym is) refl,
)
go_on p beats term (Some death) is es h = by (fold next_so_far nothing_yet es).died refl
  where
    by : (b : Bool) → (fold next_so_far nothing_yet es).died ≡ b
        → (rest : List Entry) × AtEach (May p beats term) next_so_far nothing_yet (es ++ rest) × Ends beats term (fold next_so_far nothing_yet (es ++ rest))
    by true d = (
      [],
      subst (λ (xs : List Entry). AtEach (May p beats term) next_so_far nothing_yet xs) (sym (append-nil es)) h,
      ends_with beats death term (fold next_so_far nothing_yet (es ++ [])).died is
          (ap (λ (xs : List Entry). (fold next_so_far nothing_yet xs).died) (append-nil es) ∙ d),
    )
    by false d =
        let s = fold next_so_far nothing_yet es in
        let can = can_die p beats death term nothing_yet es is h (λ e. (omega arith, omega arith)) in (
          dying p death s ∷ [],
          at_each_more (May p beats term) next_so_far nothing_yet es (dying p death s ∷ []) h (may_die p beats death term s is can d, tt),
          ends_with beats death term (fold next_so_far nothing_yet (es ++ dying p death s ∷ [])).died is
              (ap (λ (t : SoFar). t.died) (fold-append next_so_far nothing_yet es (dying p death s ∷ [])) ∙ or_true s.died),
        )

pub timed_goes : (p : Params) (beats : ℕ) (term : Term)
    → GoesToAnEnd (IsTimed p beats (life_of_term term)) (May p beats term) next_so_far nothing_yet (Ends beats term)
timed_goes p beats term = record {
  law = by_steps p beats term;
  can = λ es h.
      let more = go_on p beats term (death_within beats term.death) refl es h in
      (more.0, (by_steps p beats term (es ++ more.0)).1 (more.1, more.2));
}

-- the end of a walk
pub decided : (p : Params) (beats : ℕ) (term : Term) (s : SoFar) (es : List Entry) (i : ℕ) (answer : Option Flaw) → length es ≤ i
    → s ≡ fold next_so_far nothing_yet (take i es) → AtEach (May p beats term) next_so_far nothing_yet (take i es)
    → MatchOption answer (may_end (death_within beats term.death) s.died ≡ true)
    (λ found. (found ≡ flaw.Missing) × (may_end (death_within beats term.death) s.died ≡ false))
    → DecidesList (IsTimed p beats (life_of_term term)) es answer
decided p beats term s es i None over known right ends =
    done_here (IsTimed p beats (life_of_term term)) (May p beats term) next_so_far nothing_yet (Ends beats term) (timed_goes p beats term) es i over right
    (subst (λ (t : SoFar). Ends beats term t) known ends)
decided p beats term s es i (Some found) over known right ends =
    subst (λ (f : Flaw). DecidesList (IsTimed p beats (life_of_term term)) es (Some f)) (sym ends.0)
    (unfinished_here (IsTimed p beats (life_of_term term)) (May p beats term) next_so_far nothing_yet (Ends beats term) (timed_goes p beats term) es i over right
    (λ end. both_ways (may_end (death_within beats term.death) s.died) ends.1 (subst (λ (t : SoFar). Ends beats term t) (sym known) end)))
