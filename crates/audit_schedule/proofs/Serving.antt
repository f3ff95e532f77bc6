-- The order of visits is judged by the marks of an instance, and kept by them.
use Rattle.std.proofs.Common.{◌≡◌, ℕ, ◌<◌, ◌≤◌, Bool, true, false, not, ◌||◌, IsTrue, nat_lt, nat_le, cond, List, [], ◌∷◌, ◌++◌, append-nil, Option, Some, None, refl, sym, ap, subst, ⊎_elim, arith}
use Rattle.std.specs.Prelude.{◌==◌, ◌↔◌}
use Rattle.std.specs.List.{AllByRecursion}
use Rattle.std.proofs.lemmas.Bool.{eqb-true, eq-eqb, both_ways, ltb-true, cases_lt}
use Rattle.tiger_base.specs.declared.number.Instance.{Instance}
use Rattle.tiger_base.specs.declared.tenancy.Want.{Want}
use Rattle.run_facts.specs.Events.{Dated}
use Rattle.run_facts.proofs.Rows.{all-append, all-weaker}
use Rattle.run_model.specs.Fronts.{AnyByRecursion}
use Rattle.run_model.proofs.Reflects.{at_most}
use Rattle.run_claims.specs.Turns.{IsGotBefore}
use Rattle.audit_frame.proofs.Added.{any_before, any_end, meet, not_below}
use Rattle.audit_schedule.specs.Turns.{IsOfInstance, IsLatestVisit, IsNotBehind, IsExactly, IsLastGot, dated_if, is_beat, is_low, is_latest, later_of, lowest_of, latest_with, last_with, lowest_with}

abbrev pub dated : ℕ → Want → Dated Want
dated beat want = record { beat = beat; item = want }

-- ---- lists with one thing more

all_by_both : (P Q R : Dated Want → Type 0) (xs : List (Dated Want)) → ((x : Dated Want) → P x → Q x → R x)
    → AllByRecursion P xs → AllByRecursion Q xs → AllByRecursion R xs
all_by_both P Q R [] f h g = tt
all_by_both P Q R (x ∷ xs) f h g = (f x h.0 g.0, all_by_both P Q R xs f h.1 g.1)

-- ---- what is sent, judged by what was got

sent_after : (w : Want) (b : ℕ) (gs : List (Dated Want)) (beat lowest : ℕ) → beat ≡ b → w.visit ≤ lowest
    → AllByRecursion (IsNotBehind w.instance.0 beat lowest) gs → AllByRecursion (λ g. IsGotBefore g (dated b w)) gs
sent_after w b gs beat lowest is le h = all-weaker (IsNotBehind w.instance.0 beat lowest) (λ g. IsGotBefore g (dated b w)) gs
    (λ g k same lower.
    let own = k (ap (λ (i : Instance). i.0) same) in
    ⊎_elim
    (λ (l : g.beat < b). l)
    (λ (n : b ≤ g.beat).
    let upper = own.0 in
    let at : g.beat ≡ beat = omega (arith, upper, n, is) in
    let low = own.1 at in absurd (omega (arith, low, lower, le)))
    (cases_lt g.beat b)) h

sent_later : (w : Want) (b : ℕ) (gs : List (Dated Want)) (beat lowest : ℕ) → beat < b
    → AllByRecursion (IsNotBehind w.instance.0 beat lowest) gs → AllByRecursion (λ g. IsGotBefore g (dated b w)) gs
sent_later w b gs beat lowest less h = all-weaker (IsNotBehind w.instance.0 beat lowest) (λ g. IsGotBefore g (dated b w)) gs
    (λ g k same lower. let upper = (k (ap (λ (i : Instance). i.0) same)).0 in omega (arith, upper, less)) h

low_enough : (w : Want) (b : ℕ) (gs : List (Dated Want)) (beat lowest : ℕ) → beat ≡ b → AnyByRecursion (IsExactly w.instance.0 beat lowest) gs
    → AllByRecursion (λ g. IsGotBefore g (dated b w)) gs → w.visit ≤ lowest
low_enough w b gs beat lowest is some all = ⊎_elim
    (λ (l : lowest < w.visit). absurd (meet (IsExactly w.instance.0 beat lowest) (λ g. IsGotBefore g (dated b w)) ⊥ gs
    (λ g e k.
    let at = e.1.0 in
    let visit = e.1.1 in
    let instance = e.0 in
    let before = k (λ i. record { 0 = instance i }) (omega (arith, visit, l)) in
    omega (arith, before, at, is)) some all))
    (λ (g : w.visit ≤ lowest). g)
    (cases_lt lowest w.visit)

not_later : (v b : ℕ) (gs : List (Dated Want)) (beat lowest : ℕ) → AnyByRecursion (IsExactly v beat lowest) gs
    → AllByRecursion (λ g. g.beat ≤ b) gs → beat ≤ b
not_later v b gs beat lowest some early = meet (IsExactly v beat lowest) (λ g. g.beat ≤ b) (beat ≤ b) gs
    (λ g e le. let at = e.1.0 in omega (arith, at, le)) some early

pub leave_judged : (w : Want) (b : ℕ) (gs : List (Dated Want)) (last lowest : Option ℕ) → AllByRecursion (λ g. g.beat ≤ b) gs
    → IsLastGot w.instance.0 gs last lowest
    → IsTrue (not (is_beat last b) || is_low lowest w.visit) ↔ AllByRecursion (λ g. IsGotBefore g (dated b w)) gs
leave_judged w b gs None lowest early h = (
  (λ t. all-weaker (λ g. IsOfInstance w.instance.0 g → ⊥) (λ g. IsGotBefore g (dated b w)) gs
      (λ g k same lower. absurd (k (ap (λ (i : Instance). i.0) same))) h),
  (λ all. refl),
)
leave_judged w b gs (Some beat) None early h = absurd h
leave_judged w b gs (Some beat) (Some lowest) early h = go (beat == b) refl where
  below : (beat == b) ≡ false → beat < b
  below e = ⊎_elim
      (λ (l : beat < b). l)
      (λ (g : b ≤ beat).
      let le = not_later w.instance.0 b gs beat lowest h.1 early in
      absurd (both_ways (beat == b) e (eq-eqb beat b (omega (arith, g, le)))))
      (cases_lt beat b)

  go : (t : Bool) → (beat == b) ≡ t
      → IsTrue (not t || nat_le w.visit lowest) ↔ AllByRecursion (λ g. IsGotBefore g (dated b w)) gs
  go true e = (
    (λ t. sent_after w b gs beat lowest (eqb-true beat b e) ((at_most w.visit lowest).0 t) h.0),
    (λ all. (at_most w.visit lowest).1 (low_enough w b gs beat lowest (eqb-true beat b e) h.1 all)),
  )
  go false e = (
    (λ t. sent_later w b gs beat lowest (below e) h.0),
    (λ all. refl),
  )

-- ---- what is got, judged by what was sent

pub come_judged : (w : Want) (b : ℕ) (ss : List (Dated Want)) (latest : Option ℕ) → AllByRecursion (λ s. s.beat ≤ b) ss
    → IsLatestVisit w.instance.0 ss latest
    → IsTrue (is_latest latest w.visit) ↔ AllByRecursion (IsGotBefore (dated b w)) ss
come_judged w b ss None early h = (
  (λ t. all-weaker (λ s. IsOfInstance w.instance.0 s → ⊥) (IsGotBefore (dated b w)) ss
      (λ s k same lower. absurd (k (sym (ap (λ (i : Instance). i.0) same)))) h),
  (λ all. refl),
)
come_judged w b ss (Some latest) early h = (
  (λ t.
      let le = (at_most latest w.visit).0 t in
      all-weaker (λ s. IsOfInstance w.instance.0 s → s.item.visit ≤ latest) (IsGotBefore (dated b w)) ss
      (λ s k same lower. let upper = k (sym (ap (λ (i : Instance). i.0) same)) in absurd (omega (arith, upper, lower, le))) h.0),
  (λ all. (at_most latest w.visit).1 (⊎_elim
      (λ (l : w.visit < latest). absurd (meet (λ s. IsOfInstance w.instance.0 s × (s.item.visit ≡ latest))
      (λ s. (s.beat ≤ b) × IsGotBefore (dated b w) s) ⊥ ss
      (λ s e k.
      let visit = e.1 in
      let instance = e.0 in
      let before = k.1 (λ i. record { 0 = sym instance i }) (omega (arith, visit, l)) in
      let early_one = k.0 in
      omega (arith, before, early_one)) h.1
      (all_by_both (λ s. s.beat ≤ b) (IsGotBefore (dated b w)) (λ s. (s.beat ≤ b) × IsGotBefore (dated b w) s) ss (λ s a c. (a, c)) early all)))
      (λ (g : latest ≤ w.visit). g)
      (cases_lt w.visit latest))),
)

-- ---- one thing sent more

own_latest : (v b : ℕ) (w : Want) (ss : List (Dated Want)) (o : Option ℕ) → w.instance.0 ≡ v → IsLatestVisit v ss o
    → IsLatestVisit v (ss ++ dated b w ∷ []) (Some (later_of o w.visit))
own_latest v b w ss None is h = (
  all-append (λ s. IsOfInstance v s → s.item.visit ≤ w.visit) ss (dated b w ∷ [])
      (all-weaker (λ s. IsOfInstance v s → ⊥) (λ s. IsOfInstance v s → s.item.visit ≤ w.visit) ss (λ s k e. absurd (k e)) h)
      ((λ e. omega arith), tt),
  any_end (λ s. IsOfInstance v s × (s.item.visit ≡ w.visit)) ss (dated b w) (is, refl),
)
own_latest v b w ss (Some latest) is h = go (nat_lt latest w.visit) refl where
  go : (t : Bool) → nat_lt latest w.visit ≡ t → IsLatestVisit v (ss ++ dated b w ∷ []) (Some (cond t w.visit latest))
  go true t = (
    all-append (λ s. IsOfInstance v s → s.item.visit ≤ w.visit) ss (dated b w ∷ [])
        (all-weaker (λ s. IsOfInstance v s → s.item.visit ≤ latest) (λ s. IsOfInstance v s → s.item.visit ≤ w.visit) ss
        (λ s k e. let upper = k e in let less = ltb-true latest w.visit t in omega (arith, upper, less)) h.0)
        ((λ e. omega arith), tt),
    any_end (λ s. IsOfInstance v s × (s.item.visit ≡ w.visit)) ss (dated b w) (is, refl),
  )
  go false t = (
    all-append (λ s. IsOfInstance v s → s.item.visit ≤ latest) ss (dated b w ∷ []) h.0 ((λ e. not_below latest w.visit t), tt),
    any_before (λ s. IsOfInstance v s × (s.item.visit ≡ latest)) ss (dated b w ∷ []) h.1,
  )

other_latest : (v b : ℕ) (w : Want) (ss : List (Dated Want)) (o : Option ℕ) → (w.instance.0 ≡ v → ⊥) → IsLatestVisit v ss o
    → IsLatestVisit v (ss ++ dated b w ∷ []) o
other_latest v b w ss None ne h = all-append (λ s. IsOfInstance v s → ⊥) ss (dated b w ∷ []) h ((λ e. ne e), tt)
other_latest v b w ss (Some latest) ne h = (
  all-append (λ s. IsOfInstance v s → s.item.visit ≤ latest) ss (dated b w ∷ []) h.0 ((λ e. absurd (ne e)), tt),
  any_before (λ s. IsOfInstance v s × (s.item.visit ≡ latest)) ss (dated b w ∷ []) h.1,
)

pub latest_more : (v b : ℕ) (r : Option Want) (ss : List (Dated Want)) (o : Option ℕ) → IsLatestVisit v ss o
    → IsLatestVisit v (ss ++ dated_if b r) (latest_with o v (dated_if b r))
latest_more v b None ss o h = subst (λ (ts : List (Dated Want)). IsLatestVisit v ts o) (sym (append-nil ss)) h
latest_more v b (Some w) ss o h = go (w.instance.0 == v) refl where
  go : (t : Bool) → (w.instance.0 == v) ≡ t → IsLatestVisit v (ss ++ dated b w ∷ []) (cond t (Some (later_of o w.visit)) o)
  go true e = own_latest v b w ss o (eqb-true w.instance.0 v e) h
  go false e = other_latest v b w ss o (λ same. both_ways (w.instance.0 == v) e (eq-eqb w.instance.0 v same)) h

-- ---- one thing got more

new_lowest : (v b : ℕ) (w : Want) (gs : List (Dated Want)) → w.instance.0 ≡ v → AllByRecursion (IsNotBehind v b w.visit) gs
    → IsLastGot v (gs ++ dated b w ∷ []) (Some b) (Some w.visit)
new_lowest v b w gs is h = (
  all-append (IsNotBehind v b w.visit) gs (dated b w ∷ []) h ((λ e. (omega arith, λ at. omega arith)), tt),
  any_end (IsExactly v b w.visit) gs (dated b w) (is, (refl, refl)),
)

own_got : (v b : ℕ) (w : Want) (gs : List (Dated Want)) (last lowest : Option ℕ) → w.instance.0 ≡ v → AllByRecursion (λ g. g.beat ≤ b) gs
    → IsLastGot v gs last lowest → IsLastGot v (gs ++ dated b w ∷ []) (Some b) (Some (lowest_of (is_beat last b) lowest w.visit))
own_got v b w gs None lowest is early h = new_lowest v b w gs is
    (all-weaker (λ g. IsOfInstance v g → ⊥) (IsNotBehind v b w.visit) gs (λ g k e. absurd (k e)) h)
own_got v b w gs (Some beat) None is early h = absurd h
own_got v b w gs (Some beat) (Some lowest) is early h = go (beat == b) refl where
  same_beat : beat ≡ b → (t : Bool) → nat_lt w.visit lowest ≡ t
      → IsLastGot v (gs ++ dated b w ∷ []) (Some b) (Some (cond t w.visit lowest))
  same_beat at true t = new_lowest v b w gs is (all-weaker (IsNotBehind v beat lowest) (IsNotBehind v b w.visit) gs
      (λ g k e.
      let own = k e in
      let upper = own.0 in (
        omega (arith, upper, at),
        λ now. let low = own.1 (omega (arith, now, at)) in let less = ltb-true w.visit lowest t in omega (arith, low, less),
      )) h.0)
  same_beat at false t = (
    all-append (IsNotBehind v b lowest) gs (dated b w ∷ [])
        (all-weaker (IsNotBehind v beat lowest) (IsNotBehind v b lowest) gs
        (λ g k e. let own = k e in let upper = own.0 in (omega (arith, upper, at), λ now. own.1 (omega (arith, now, at)))) h.0)
        ((λ e. (omega arith, λ now. not_below w.visit lowest t)), tt),
    any_before (IsExactly v b lowest) gs (dated b w ∷ []) (subst (λ (c : ℕ). AnyByRecursion (IsExactly v c lowest) gs) at h.1),
  )

  later_beat : beat < b → IsLastGot v (gs ++ dated b w ∷ []) (Some b) (Some w.visit)
  later_beat less = new_lowest v b w gs is (all-weaker (IsNotBehind v beat lowest) (IsNotBehind v b w.visit) gs
      (λ g k e. let upper = (k e).0 in (omega (arith, upper, less), λ now. absurd (omega (arith, now, upper, less)))) h.0)

  go : (t : Bool) → (beat == b) ≡ t → IsLastGot v (gs ++ dated b w ∷ []) (Some b) (Some (lowest_of t (Some lowest) w.visit))
  go true e = same_beat (eqb-true beat b e) (nat_lt w.visit lowest) refl
  go false e = ⊎_elim
      (λ (l : beat < b). later_beat l)
      (λ (g : b ≤ beat).
      let le = not_later v b gs beat lowest h.1 early in
      absurd (both_ways (beat == b) e (eq-eqb beat b (omega (arith, g, le)))))
      (cases_lt beat b)

other_got : (v b : ℕ) (w : Want) (gs : List (Dated Want)) (last lowest : Option ℕ) → (w.instance.0 ≡ v → ⊥) → IsLastGot v gs last lowest
    → IsLastGot v (gs ++ dated b w ∷ []) last lowest
other_got v b w gs None lowest ne h = all-append (λ g. IsOfInstance v g → ⊥) gs (dated b w ∷ []) h ((λ e. ne e), tt)
other_got v b w gs (Some beat) None ne h = absurd h
other_got v b w gs (Some beat) (Some lowest) ne h = (
  all-append (IsNotBehind v beat lowest) gs (dated b w ∷ []) h.0 ((λ e. absurd (ne e)), tt),
  any_before (IsExactly v beat lowest) gs (dated b w ∷ []) h.1,
)

pub got_more_marked : (v b : ℕ) (r : Option Want) (gs : List (Dated Want)) (last lowest : Option ℕ) → AllByRecursion (λ g. g.beat ≤ b) gs
    → IsLastGot v gs last lowest
    → IsLastGot v (gs ++ dated_if b r) (last_with last v (dated_if b r)) (lowest_with last lowest v (dated_if b r))
got_more_marked v b None gs last lowest early h = subst (λ (ts : List (Dated Want)). IsLastGot v ts last lowest) (sym (append-nil gs)) h
got_more_marked v b (Some w) gs last lowest early h = go (w.instance.0 == v) refl where
  go : (t : Bool) → (w.instance.0 == v) ≡ t
      → IsLastGot v (gs ++ dated b w ∷ []) (cond t (Some b) last) (cond t (Some (lowest_of (is_beat last b) lowest w.visit)) lowest)
  go true e = own_got v b w gs last lowest (eqb-true w.instance.0 v e) early h
  go false e = other_got v b w gs last lowest (λ same. both_ways (w.instance.0 == v) e (eq-eqb w.instance.0 v same)) h
