-- A run whose nodes send and get nothing is carried, and one of whose controller and orders there is nothing is commanded.
use Rattle.std.proofs.Common.{◌≡◌, ℕ, zero, suc, Bool, true, false, ◌&&◌, ◌||◌, ◌<◌, nat_lt, arith, List, [], ◌∷◌, ◌++◌, Option, Some, None, refl, sym, ap, subst, ◌∙◌}
use Rattle.std.specs.Prelude.{slice_get, if◌then◌else◌}
use Rattle.std.specs.List.{AllByRecursion, list_any}
use Rattle.std.proofs.lemmas.Bool.{false≢true}
use Rattle.std.proofs.lemmas.Option.{none-some, same_Some}
use Rattle.tiger_base.specs.declared.message.Note.{Note}
use Rattle.slot_plan.specs.declared.params.Params.{Params}
use Rattle.node_kit.specs.Life.{Lifetime, lifetime_of}
use Rattle.node_kit.specs.declared.course.Kept.{Kept}
use Rattle.node_kit.specs.declared.journal.Entry.{Entry}
use Rattle.node_kit.specs.declared.journal.What.{What}
use Rattle.node_kit.specs.declared.journal.What.TheVariants as what
use Rattle.run_facts.specs.Carried.{AreCarriedBy, IsAtItsEnd, sent_by, got_by, sent_on, got_on}
use Rattle.run_facts.specs.Commanded.{IsCommanded, StopsNone, is_gone, starts_sent, starts_ordered, gone_in, gone_before, stop_ordered, places_got}
use Rattle.run_facts.specs.Events.{Dated}
use Rattle.run_model.specs.Runs.{IsCarriedRun}
use Rattle.audit_verdict.specs.Clauses.{MeetsClause, number_of_clause}
use Rattle.audit_verdict.specs.declared.clause.Clause.{Clause}
use Rattle.audit_verdict.specs.declared.clause.Clause.TheVariants as clause

-- whether an entry is of a message
abbrev pub speaks : What → Bool
speaks (what.Got link note) = true
speaks (what.Sent link note) = true
speaks other = false

abbrev pub has_message : List Entry → Bool
has_message journal = list_any (λ e. speaks e.what) journal

none_sent_by : (l beat : ℕ) (w : What) → speaks w ≡ false → sent_by l beat w ≡ []
none_sent_by l beat (what.Sent link note) h = absurd (false≢true (sym h))
none_sent_by l beat other h = refl

none_got_by : (l beat : ℕ) (w : What) → speaks w ≡ false → got_by l beat w ≡ []
none_got_by l beat (what.Got link note) h = absurd (false≢true (sym h))
none_got_by l beat other h = refl

at_end_by : (p : Params) (n : ℕ) (w : What) → speaks w ≡ false → IsAtItsEnd p n w
at_end_by p n (what.Got link note) h = absurd (false≢true (sym h))
at_end_by p n (what.Sent link note) h = absurd (false≢true (sym h))
at_end_by p n other h = tt

left_false : (a b : Bool) → (a || b) ≡ false → a ≡ false
left_false true b h = absurd (false≢true (sym h))
left_false false b h = refl

right_false : (a b : Bool) → (a || b) ≡ false → b ≡ false
right_false true b h = absurd (false≢true (sym h))
right_false false b h = h

none_sent : (l : ℕ) (j : List Entry) → has_message j ≡ false → sent_on l j ≡ []
unfolding sent_on
none_sent l [] h = refl
none_sent l (e ∷ es) h =
    ap (λ (ds : List (Dated Note)). ds ++ sent_on l es) (none_sent_by l e.stamp.beat e.what (left_false (speaks e.what) (has_message es) h))
    ∙ none_sent l es (right_false (speaks e.what) (has_message es) h)

none_got : (l : ℕ) (j : List Entry) → has_message j ≡ false → got_on l j ≡ []
unfolding got_on
none_got l [] h = refl
none_got l (e ∷ es) h =
    ap (λ (ds : List (Dated Note)). ds ++ got_on l es) (none_got_by l e.stamp.beat e.what (left_false (speaks e.what) (has_message es) h))
    ∙ none_got l es (right_false (speaks e.what) (has_message es) h)

at_ends : (p : Params) (n : ℕ) (j : List Entry) → has_message j ≡ false → AllByRecursion (λ e. IsAtItsEnd p n e.what) j
at_ends p n [] h = tt
at_ends p n (e ∷ es) h = (
  at_end_by p n e.what (left_false (speaks e.what) (has_message es) h),
  at_ends p n es (right_false (speaks e.what) (has_message es) h),
)

one_silent : (js : List (List Entry)) (n : ℕ) (j : List Entry) → list_any has_message js ≡ false → slice_get js n ≡ Some j → has_message j ≡ false
one_silent [] n j h at = absurd (none-some j at)
one_silent (g ∷ js) zero j h at =
    subst (λ (l : List Entry). has_message l ≡ false) (same_Some g j at) (left_false (has_message g) (list_any has_message js) h)
one_silent (g ∷ js) (suc n) j h at = one_silent js n j (right_false (has_message g) (list_any has_message js) h) at

none_carried : (most beats : ℕ) (life : Lifetime) (back : Option ℕ) → AreCarriedBy most beats life back [] []
none_carried most beats life None = tt
none_carried most beats life (Some back) = (tt, tt)

pub silent : (k : Kept) → list_any has_message k.journals ≡ false → IsCarriedRun k
silent k h = record {
  on_links = λ l from to sender receiver ends a b.
      rw (none_sent l sender (one_silent k.journals from sender h a), none_got l receiver (one_silent k.journals to receiver h b))
      (none_carried k.course.plan.params.delay k.course.beats (lifetime_of k.course to) (lifetime_of k.course to).back);
  at_ends = λ n journal at. at_ends k.course.plan.params n journal (one_silent k.journals n journal h at);
}

-- so all clauses before the second one hold
pub carried_before : (run : Kept) → list_any has_message run.journals ≡ false → (d : Clause) → number_of_clause d < 2 → MeetsClause run d
carried_before run none clause.Carried low = silent run none
carried_before run none other low = absurd (omega (arith, low))

-- ---- orders

-- the empty journal follows no orders
pub none_ordered : (p : Params) (beats : ℕ) (reading : ℕ → ℕ) (journal : List Entry) → journal ≡ [] → IsCommanded p beats reading [] journal
unfolding starts_sent starts_ordered gone_in gone_before stop_ordered places_got
none_ordered p beats reading [] e = record {
  starts = λ beat. chosen (nat_lt beat beats);
  stops = λ v beat. none (nat_lt beat beats);
  once = λ v. omega arith;
} where
  chosen : {X : Type 0} (t : Bool) → ◌≡◌ {A = List X} [] (if t then [] else [])
  chosen true = refl
  chosen false = refl

  none : (t : Bool) → false ≡ (t && false)
  none true = refl
  none false = refl
none_ordered p beats reading (x ∷ xs) e = absurd (cc)

pub none_gone : (js : List (List Entry)) (n : ℕ) (j : List Entry) → list_any (λ g. list_any (λ e. is_gone e.what) g) js ≡ false
    → slice_get js n ≡ Some j → StopsNone j
none_gone [] n j h at = absurd (none-some j at)
none_gone (g ∷ js) zero j h at =
    subst StopsNone (same_Some g j at)
    (left_false (list_any (λ e. is_gone e.what) g) (list_any (λ f. list_any (λ e. is_gone e.what) f) js) h)
none_gone (g ∷ js) (suc n) j h at =
    none_gone js n j (right_false (list_any (λ e. is_gone e.what) g) (list_any (λ f. list_any (λ e. is_gone e.what) f) js) h) at
