-- Of a worked log: no start is passed over at the tick of cub 0 in beat 1; and the journals follow the orders, if the
-- controller's entries do and nobody else stops anybody.
use Rattle.std.proofs.Common.{◌≡◌, ℕ, zero, suc, ◌+◌, ◌≤◌, Bool, true, false, not, ◌&&◌, ◌||◌, IsTrue, nat_lt, List, [], ◌∷◌, length, filter, Some, if◌then◌else◌, refl, sym, subst, ◌∙◌, ⊎_elim, arith}
use Rattle.std.specs.Prelude.{◌==◌, slice_get}
use Rattle.std.specs.List.{list_all}
use Rattle.std.proofs.lemmas.Bool.{cases_Bool, or_from, eqb-true, lt-ltb, false≢true}
use Rattle.std.proofs.lemmas.Bool.{and_right as and_no}
use Rattle.tiger_base.specs.declared.tenancy.Ask.{Ask}
use Rattle.slot_plan.specs.Samples.{small}
use Rattle.node_kit.specs.declared.course.Order.{Order}
use Rattle.node_kit.specs.declared.journal.Entry.{Entry}
use Rattle.run_facts.specs.Commanded.{starts_sent, starts_ordered, gone_in, gone_before, stop_ordered, is_stopped, places_got, is_gone, is_gone_of, IsCommanded, StopsNone, AreCommanded}
use Rattle.run_facts.specs.Order.{Noted, journal_of, journals_from}
use Rattle.run_model.specs.Orders.{end_of_tick}
use Rattle.run_model.specs.Samples.{all, ask_for, begins, gone}
use Rattle.run_model.proofs.OnSamples.{only-order}
use Rattle.run_model.proofs.Reflects.{and_left, and_right, or_either, negated}
use Rattle.run_claims.specs.Patience.{NobodyIsPassedOver}
use Rattle.run_claims.specs.Samples.{once}
use Rattle.spare_claims.specs.Samples.{commands, finished, right}

-- ---- no start is passed over

pub nobody_waits : (log : List Noted) → NobodyIsPassedOver small [] (once 1 10000) log
nobody_waits log cub beat reading low t = record { taken = λ a slot visit o s p g l d w. absurd o }

pub nobody_begins : (log : List Noted) → NobodyIsPassedOver small finished (once 1 10000) log
nobody_begins log cub beat reading low t = record { taken = λ a slot visit o s p g l d w. ⊎_elim (λ e. absurd (cc)) (λ n. absurd n) o }

-- whose start was ordered was put by then
pub put_then : (ask : Ask) (log : List Noted) → (end_of_tick 1 0 log).put ask.instance.0 ≡ true
    → NobodyIsPassedOver small (begins ask) (once 1 10000) log
put_then ask log put cub beat reading low t = rw (t.0, t.1, t.2) (record {
  taken = λ a slot visit o s p g l d w.
      let same : a ≡ ask = sym (only-order ask a o) in
      let none : (end_of_tick 1 0 log).put ask.instance.0 ≡ false =
      subst (λ (x : Ask). (end_of_tick 1 0 log).put x.instance.0 ≡ false) same p in
      absurd (false≢true (sym none ∙ put));
})

-- ---- which journals there are

journal_there : (m k n : ℕ) (log : List Noted) (journal : List Entry) → slice_get (journals_from m k log) n ≡ Some journal
    → journal ≡ journal_of (m + n) log
journal_there m zero n log journal e = absurd (cc)
journal_there m (suc k) zero log journal e =
    let here : m ≡ m + 0 = omega arith in subst (λ (q : ℕ). journal ≡ journal_of q log) here (cc)
journal_there m (suc k) (suc n) log journal e =
    let here : m + 1 + n ≡ m + suc n = omega arith in
    subst (λ (q : ℕ). journal ≡ journal_of q log) here (journal_there (m + 1) k n log journal e)

journal_here : (n : ℕ) (log : List Noted) (journal : List Entry) → slice_get (all log) n ≡ Some journal → journal ≡ journal_of n log
journal_here n log journal e =
    let here : 0 + n ≡ n = omega arith in
    subst (λ (q : ℕ). journal ≡ journal_of q log) here (journal_there 0 18 n log journal e)

-- whether an entry is the controller's, or stops nobody
abbrev stops_none : Noted → Bool
stops_none x = (x.node == 16) || not (is_gone x.entry.what)

abbrev pub stop_none : List Noted → Bool
stop_none log = list_all stops_none log

stays : (n : ℕ) (x : Noted) → (n ≡ 16 → ⊥) → (x.node == n) ≡ true → IsTrue (stops_none x) → is_gone x.entry.what ≡ false
stays n x ne t h = ⊎_elim
    (λ c.
    let controller = eqb-true x.node 16 c in
    let same = eqb-true x.node n t in
    absurd (ne (sym same ∙ controller)))
    (λ g. (negated (is_gone x.entry.what)).0 g)
    (or_either (x.node == 16) (not (is_gone x.entry.what)) h)

elsewhere : (n : ℕ) (log : List Noted) → (n ≡ 16 → ⊥) → IsTrue (stop_none log) → StopsNone (journal_of n log)
elsewhere n [] ne h = refl
elsewhere n (x ∷ xs) ne h =
    let rest = elsewhere n xs ne (and_right (stops_none x) (stop_none xs) h) in
    ⊎_elim
    (λ (t : (x.node == n) ≡ true). rw t (or_from _ _ (stays n x ne t (and_left (stops_none x) (stop_none xs) h)) rest))
    (λ (f : (x.node == n) ≡ false). rw f rest)
    (cases_Bool (x.node == n))

pub commanded : (beats : ℕ) (orders : List Order) (log : List Noted) → IsTrue (stop_none log)
    → IsCommanded small beats right orders (journal_of 16 log) → AreCommanded small beats right orders (all log)
commanded beats orders log none as_ordered = record {
  controller = λ journal e. subst (IsCommanded small beats right orders) (sym (journal_here 16 log journal e)) as_ordered;
  others = λ n journal ne e. subst StopsNone (sym (journal_here n log journal e)) (elsewhere n log ne none);
}

-- ---- three controllers: an idle one, one that begins an instance in beat 0, and one that stops an instance in beat 10

both_empty : {X : Type 0} (b : Bool) (xs : List X) → xs ≡ [] → [] ≡ (if b then xs else [])
both_empty b xs e = ⊎_elim (λ t. rw t (sym e)) (λ f. rw f refl) (cases_Bool b)

neither : (b c : Bool) → c ≡ false → false ≡ (b && c)
neither b c e = sym (and_no b c e)

pub idle : (beats : ℕ) → IsCommanded small beats right [] []
unfolding starts_sent starts_ordered gone_in stop_ordered
idle beats = record {
  starts = λ beat. both_empty (nat_lt beat beats) _ refl;
  stops = λ v beat. neither (nat_lt beat beats) _ refl;
  once = λ v. omega arith;
}

-- the entries of the controller of a log
abbrev pub begun : ℕ → List Entry
begun count = (commands 0 (ask_for 0 0 count 0) false).entry ∷ (commands 1 (ask_for 0 0 count 0) true).entry ∷ []

pub beginning : (count beats : ℕ) → IsCommanded small (suc beats) right (begins (ask_for 0 0 count 0)) (begun count)
unfolding starts_sent starts_ordered gone_in stop_ordered
beginning count beats = record {
  starts = λ beat. starts beat;
  stops = λ v beat. stops v beat;
  once = λ v. omega arith;
}
  where
    starts : (beat : ℕ) → starts_sent small beat (begun count)
        ≡ (if nat_lt beat (suc beats) then starts_ordered small beat (begins (ask_for 0 0 count 0)) else [])
    starts beat = ⊎_elim
        (λ (t : (0 == beat) ≡ true).
        let zero_is : 0 ≡ beat = eqb-true 0 beat t in
        let first : nat_lt 0 (suc beats) ≡ true = lt-ltb 0 (suc beats) (omega arith) in
        subst (λ (b : ℕ). starts_sent small b (begun count)
        ≡ (if nat_lt b (suc beats) then starts_ordered small b (begins (ask_for 0 0 count 0)) else [])) zero_is (rw first refl))
        (λ (f : (0 == beat) ≡ false). rw f (both_empty (nat_lt beat (suc beats)) [] refl))
        (cases_Bool (0 == beat))

    stops : (v beat : ℕ) → gone_in (begun count) v beat
        ≡ (nat_lt beat (suc beats) && is_stopped small (begins (ask_for 0 0 count 0)) (begun count) v beat (right beat))
    stops v beat = ⊎_elim
        (λ (t : (0 == beat) ≡ true). rw t (neither (nat_lt beat (suc beats)) _ refl))
        (λ (f : (0 == beat) ≡ false). rw f (neither (nat_lt beat (suc beats)) _ refl))
        (cases_Bool (0 == beat))

-- the entries of a controller that stops instance 0 in beat 10
abbrev pub stopping : List Entry
stopping = (gone 10 0).entry ∷ []

pub stopping_then : IsCommanded small 112 right finished stopping
unfolding starts_sent starts_ordered gone_in gone_before stop_ordered places_got
stopping_then = record {
  starts = λ beat. starts beat;
  stops = λ v beat. stops v beat;
  once = λ v. once v;
}
  where
    starts : (beat : ℕ) → starts_sent small beat stopping ≡ (if nat_lt beat 112 then starts_ordered small beat finished else [])
    starts beat = ⊎_elim
        (λ (t : (10 == beat) ≡ true). rw t (both_empty (nat_lt beat 112) [] refl))
        (λ (f : (10 == beat) ≡ false). rw f (both_empty (nat_lt beat 112) [] refl))
        (cases_Bool (10 == beat))

    at_ten : (v : ℕ) → gone_in stopping v 10 ≡ (nat_lt 10 112 && is_stopped small finished stopping v 10 (right 10))
    at_ten v = ⊎_elim
        (λ (t : (0 == v) ≡ true). rw t refl)
        (λ (f : (0 == v) ≡ false). rw f refl)
        (cases_Bool (0 == v))

    stops : (v beat : ℕ) → gone_in stopping v beat ≡ (nat_lt beat 112 && is_stopped small finished stopping v beat (right beat))
    stops v beat = ⊎_elim
        (λ (t : (10 == beat) ≡ true). subst (λ (b : ℕ). gone_in stopping v b ≡ (nat_lt b 112 && is_stopped small finished stopping v b (right b))) (eqb-true 10 beat t) (at_ten v))
        (λ (f : (10 == beat) ≡ false). rw f (neither (nat_lt beat 112) _ refl))
        (cases_Bool (10 == beat))

    once : (v : ℕ) → length (filter (λ e. is_gone_of v e.what) stopping) ≤ 1
    once v = ⊎_elim
        (λ (t : (0 == v) ≡ true). rw t (omega arith))
        (λ (f : (0 == v) ≡ false). rw f (omega arith))
        (cases_Bool (0 == v))
