-- What a node's events write: whether it tells of a message that was got, or of a death.
use Rattle.std.proofs.Common.{◌≡◌, ℕ, List, [], ◌∷◌, ◌++◌, map, false, refl, ap, sym, ◌∙◌, subst, append_assoc}
use Rattle.std.specs.List.{AllByRecursion}
use Rattle.std.proofs.lemmas.List.{map-append}
use Rattle.tiger_base.specs.declared.number.Stamp.{Stamp}
use Rattle.tiger_base.specs.declared.message.Note.{Note}
use Rattle.slot_plan.specs.declared.params.Params.{Params}
use Rattle.node_kit.specs.declared.journal.What.TheVariants as what
use Rattle.node_kit.specs.declared.journal.Entry.{Entry}
use Rattle.node_kit.specs.declared.outbox.Out.{Out}
use Rattle.node_kit.specs.declared.outbox.Out.TheVariants as out
use Rattle.node_kit.specs.Outputs.{with_death, ends_in_death, is_death}
use Rattle.node_kit.specs.Steps.{Input, Deed, IsAllowed, entry_of, entries_of, stamp_of}
use Rattle.node_kit.specs.Steps.Input.{Take, Tick}
use Rattle.run_facts.specs.Accounts.{AreAlive}
use Rattle.run_facts.specs.Events.{NodeEvent, Past, after, after_all, kept_outs, left_outs, AreFair, entries_at}
use Rattle.run_facts.specs.Events.{written}
use Rattle.run_facts.specs.Events.NodeEvent.{Does, Ends, Dies, Returns}
use Rattle.run_facts.specs.Paced.{is_got}
use Rattle.run_facts.specs.Timed.{is_died}
use Rattle.run_facts.proofs.Journals.{plain-outs}
use Rattle.run_facts.proofs.Rows.{all-append, all-weaker}

-- what was got, and what stands behind it
abbrev pub got_of : {M : Type 0} → (M → Note) → Input M → List Entry
got_of note (Take stamp link msg) = (record { stamp = stamp; what = what.Got link (note msg) }) ∷ []
got_of note (Tick stamp) = []

entries-are : {M : Type 0} (note : M → Note) (i : Input M) (os : List (Out M))
    → entries_of note i os ≡ got_of note i ++ map (entry_of note (stamp_of i)) os
entries-are note (Take stamp link msg) os = refl
entries-are note (Tick stamp) os = refl

got-undied : {M : Type 0} (note : M → Note) (i : Input M)
    → AllByRecursion (λ (x : Entry). is_died x.what ≡ false) (got_of note i)
got-undied note (Take stamp link msg) = (refl, tt)
got-undied note (Tick stamp) = tt

got-stamped : {M : Type 0} (note : M → Note) (i : Input M)
    → AllByRecursion (λ (x : Entry). x.stamp ≡ stamp_of i) (got_of note i)
got-stamped note (Take stamp link msg) = (refl, tt)
got-stamped note (Tick stamp) = tt

outs-stamped : {M : Type 0} (note : M → Note) (stamp : Stamp) (os : List (Out M))
    → AllByRecursion (λ (x : Entry). x.stamp ≡ stamp) (map (entry_of note stamp) os)
outs-stamped note stamp [] = tt
outs-stamped note stamp (o ∷ os) = (refl, outs-stamped note stamp os)

-- what a node may put out is no death, so Died goes behind it
out-alive : {M : Type 0} (note : M → Note) (p : Params) (n : ℕ) (o : Out M) → IsAllowed note p n o → is_death o ≡ false
out-alive note p n (out.Act what.Died) h = absurd h
out-alive note p n other h = refl

ends-not : {M : Type 0} (note : M → Note) (p : Params) (n : ℕ) (os : List (Out M))
    → AllByRecursion (IsAllowed note p n) os → ends_in_death os ≡ false
ends-not note p n [] h = refl
ends-not note p n (o ∷ []) h = out-alive note p n o h.0
ends-not note p n (o ∷ q ∷ qs) h = ends-not note p n (q ∷ qs) h.1

pub death-behind : {M : Type 0} (note : M → Note) (p : Params) (n : ℕ) (os : List (Out M))
    → AllByRecursion (IsAllowed note p n) os → with_death os ≡ os ++ out.Act what.Died ∷ []
death-behind note p n os h = rw (ends-not note p n os h) refl

abbrev pub died_at : Stamp → Entry
died_at stamp = record { stamp = stamp; what = what.Died }

-- an event in which the death comes writes what it took, what is left of what it put out, and the death
abbrev pub before_cut : {M S : Type 0} → (M → Note) → (S → Input M → Deed M S) → Input M → ℕ → Past S → List Entry
before_cut note step i k past = got_of note i ++ map (entry_of note (stamp_of i)) (left_outs step i k past)

pub cut-writes : {M S : Type 0} (note : M → Note) (step : S → Input M → Deed M S) (p : Params) (n : ℕ) (i : Input M)
    (k : ℕ) (past : Past S) → AllByRecursion (IsAllowed note p n) (left_outs step i k past)
    → entries_at note step (Ends i k) past ≡ before_cut note step i k past ++ died_at (stamp_of i) ∷ []
cut-writes note step p n i k past h =
    let os = left_outs step i k past in
    let outs = map (entry_of note (stamp_of i)) os in
    entries-are note i (with_death os)
    ∙ ap (λ qs. got_of note i ++ map (entry_of note (stamp_of i)) qs) (death-behind note p n os h)
    ∙ ap (λ qs. got_of note i ++ qs) (map-append (entry_of note (stamp_of i)) os (out.Act what.Died ∷ []))
    ∙ sym (append_assoc (got_of note i) outs (died_at (stamp_of i) ∷ []))

pub cut-undied : {M S : Type 0} (note : M → Note) (step : S → Input M → Deed M S) (p : Params) (n : ℕ) (i : Input M)
    (k : ℕ) (past : Past S) → AllByRecursion (IsAllowed note p n) (left_outs step i k past)
    → AllByRecursion (λ (x : Entry). is_died x.what ≡ false) (before_cut note step i k past)
cut-undied note step p n i k past h =
    let os = left_outs step i k past in
    all-append (λ (x : Entry). is_died x.what ≡ false) (got_of note i) (map (entry_of note (stamp_of i)) os)
    (got-undied note i)
    (all-weaker (λ (x : Entry). (is_got x.what ≡ false) × (is_died x.what ≡ false)) (λ x. is_died x.what ≡ false)
    (map (entry_of note (stamp_of i)) os) (λ x g. g.1) (plain-outs note p n (stamp_of i) os h))

pub cut-stamped : {M S : Type 0} (note : M → Note) (step : S → Input M → Deed M S) (i : Input M) (k : ℕ) (past : Past S)
    → AllByRecursion (λ (x : Entry). x.stamp ≡ stamp_of i) (before_cut note step i k past)
cut-stamped note step i k past =
    all-append (λ (x : Entry). x.stamp ≡ stamp_of i) (got_of note i)
    (map (entry_of note (stamp_of i)) (left_outs step i k past)) (got-stamped note i)
    (outs-stamped note (stamp_of i) (left_outs step i k past))

module _ {M S : Type 0} (note : M → Note) (step : S → Input M → Deed M S) (p : Params) (n : ℕ) where
  pub fair-left : (es fs : List (NodeEvent M)) (past : Past S) → AreFair note step p n (es ++ fs) past
      → AreFair note step p n es past
  fair-left [] fs past h = tt
  fair-left (e ∷ es) fs past h = (h.0, fair-left es fs (after note step e past) h.1)

  pub fair-right : (es fs : List (NodeEvent M)) (past : Past S) → AreFair note step p n (es ++ fs) past
      → AreFair note step p n fs (after_all note step es past)
  fair-right [] fs past h = h
  fair-right (e ∷ es) fs past h = fair-right es fs (after note step e past) h.1

  -- who is alive writes of no death
  step-undied : (i : Input M) (past : Past S) → AllByRecursion (IsAllowed note p n) (kept_outs step i past)
      → AllByRecursion (λ (x : Entry). is_died x.what ≡ false) (entries_at note step (Does i) past)
  step-undied i past h =
      let os = kept_outs step i past in
      subst (AllByRecursion (λ (x : Entry). is_died x.what ≡ false)) (sym (entries-are note i os))
      (all-append (λ (x : Entry). is_died x.what ≡ false) (got_of note i) (map (entry_of note (stamp_of i)) os)
      (got-undied note i)
      (all-weaker (λ (x : Entry). (is_got x.what ≡ false) × (is_died x.what ≡ false)) (λ x. is_died x.what ≡ false)
      (map (entry_of note (stamp_of i)) os) (λ x g. g.1) (plain-outs note p n (stamp_of i) os h)))

  pub undied-written : (es : List (NodeEvent M)) (past : Past S) → AreAlive es → AreFair note step p n es past
      → AllByRecursion (λ (x : Entry). is_died x.what ≡ false) (written note step es past)
  undied-written [] past alive fair = tt
  undied-written (Does i ∷ es) past alive fair =
      let next = after note step (Does i) past in
      all-append (λ (x : Entry). is_died x.what ≡ false) (entries_at note step (Does i) past)
      (written note step es next) (step-undied i past fair.0) (undied-written es next alive.1 fair.1)
  undied-written (Ends i k ∷ es) past alive fair = absurd (let q = alive.0 in cc)
  undied-written (Dies s ∷ es) past alive fair = absurd (let q = alive.0 in cc)
  undied-written (Returns s ∷ es) past alive fair =
      undied-written es (after note step (Returns s) past) alive.1 fair.1
