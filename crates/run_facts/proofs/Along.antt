-- Events one after another: what they write, send and take.
use Rattle.std.proofs.Common.{◌≡◌, ℕ, List, [], ◌∷◌, ◌++◌, map, true, false, Some, None, refl, ap, sym, ◌∙◌}
use Rattle.std.proofs.Common.{⊎_elim, append_assoc, append-nil}
use Rattle.std.specs.Prelude.{◌==◌}
use Rattle.std.specs.List.{AllByRecursion}
use Rattle.std.proofs.lemmas.List.{map-append}
use Rattle.std.proofs.lemmas.Grind.{flat_map-append}
use Rattle.std.proofs.lemmas.Bool.{cases_Bool, eqb-true}
use Rattle.tiger_base.specs.declared.number.Stamp.{Stamp}
use Rattle.tiger_base.specs.declared.message.Note.{Note}
use Rattle.slot_plan.specs.declared.params.Params.{Params}
use Rattle.node_kit.specs.declared.journal.What.{What}
use Rattle.node_kit.specs.declared.journal.What.TheVariants as what
use Rattle.node_kit.specs.declared.journal.Entry.{Entry}
use Rattle.node_kit.specs.declared.outbox.Out.{Out}
use Rattle.node_kit.specs.declared.outbox.Out.TheVariants as out
use Rattle.node_kit.specs.Life.{ends_in}
use Rattle.node_kit.specs.Outputs.{with_death, ends_in_death}
use Rattle.node_kit.proofs.Whole.{cut-unended}
use Rattle.node_kit.specs.Links.{links_of, ends_of}
use Rattle.node_kit.specs.Steps.{Input, Deed, IsAllowed, IsOwnEntry, entry_of, stamp_of}
use Rattle.node_kit.specs.Steps.Input.{Take, Tick}
use Rattle.run_facts.specs.Events.{NodeEvent, Past, Dated, after, after_all, after_input, after_cut, event_to}
use Rattle.run_facts.specs.Events.{event_of, kept_outs, left_outs, is_tick_input, outs_of, stamp_at, AreFair, sends_of}
use Rattle.run_facts.specs.Events.{sends_along, take_on, takes_along, entries_at, written, noted_as}
use Rattle.run_facts.specs.Events.NodeEvent.{Does, Ends, Dies, Returns}
use Rattle.run_facts.specs.Carried.{sent_by, got_by, sent_on, got_on}
use Rattle.run_facts.proofs.Rows.{all-append}

journal-at : {M S : Type 0} (note : M → Note) (step : S → Input M → Deed M S) (e : NodeEvent M) (past : Past S)
    → (after note step e past).journal ≡ past.journal ++ entries_at note step e past
unfolding after_input after_cut
journal-at note step (Does i) past = refl
journal-at note step (Ends i sends) past = refl
journal-at note step (Dies stamp) past = refl
journal-at note step (Returns stamp) past = sym (append-nil past.journal)

pub journal-after : {M S : Type 0} (note : M → Note) (step : S → Input M → Deed M S) (es : List (NodeEvent M))
    (past : Past S)
    → (after_all note step es past).journal ≡ past.journal ++ written note step es past
journal-after note step [] past = sym (append-nil past.journal)
journal-after note step (e ∷ es) past =
    journal-after note step es (after note step e past)
    ∙ ap (λ j. j ++ written note step es (after note step e past)) (journal-at note step e past)
    ∙ append_assoc past.journal (entries_at note step e past) (written note step es (after note step e past))

-- an input in a beat in which no death is to cut its node off is a whole step
pub event-unended : {M S : Type 0} (step : S → Input M → Deed M S) (i : Input M) (past : Past S)
    → ends_in past.life (stamp_of i).beat ≡ false → event_of step i past ≡ Does i
unfolding event_of
event-unended step i past h =
    ap (event_to i) (cut-unended past.life (stamp_of i) (is_tick_input i) (step past.state i).outs h)

-- events behind others
pub after_all-append : {M S : Type 0} (note : M → Note) (step : S → Input M → Deed M S) (es fs : List (NodeEvent M))
    (past : Past S)
    → after_all note step (es ++ fs) past ≡ after_all note step fs (after_all note step es past)
after_all-append note step [] fs past = refl
after_all-append note step (e ∷ es) fs past = after_all-append note step es fs (after note step e past)

pub written-append : {M S : Type 0} (note : M → Note) (step : S → Input M → Deed M S) (es fs : List (NodeEvent M))
    (past : Past S)
    → written note step (es ++ fs) past ≡ written note step es past
    ++ written note step fs (after_all note step es past)
written-append note step [] fs past = refl
written-append note step (e ∷ es) fs past =
    ap (λ j. entries_at note step e past ++ j) (written-append note step es fs (after note step e past))
    ∙ sym (append_assoc (entries_at note step e past) (written note step es (after note step e past))
    (written note step fs (after_all note step es (after note step e past))))

pub sends-append : {M S : Type 0} (note : M → Note) (step : S → Input M → Deed M S) (l : ℕ) (es fs : List (NodeEvent M))
    (past : Past S)
    → sends_along note step l (es ++ fs) past ≡ sends_along note step l es past
    ++ sends_along note step l fs (after_all note step es past)
sends-append note step l [] fs past = refl
sends-append note step l (e ∷ es) fs past =
    ap (λ ds. sends_of l (stamp_at e).beat (outs_of step e past) ++ ds)
    (sends-append note step l es fs (after note step e past))
    ∙ sym (append_assoc (sends_of l (stamp_at e).beat (outs_of step e past))
    (sends_along note step l es (after note step e past))
    (sends_along note step l fs (after_all note step es (after note step e past))))

pub takes-append : {M : Type 0} (l : ℕ) (es fs : List (NodeEvent M)) → takes_along l (es ++ fs) ≡ takes_along l es
    ++ takes_along l fs
takes-append l [] fs = refl
takes-append l (e ∷ es) fs = ap (λ ds. take_on l e ++ ds) (takes-append l es fs)
    ∙ sym (append_assoc (take_on l e) (takes_along l es) (takes_along l fs))

pub fair-append : {M S : Type 0} (note : M → Note) (step : S → Input M → Deed M S) (p : Params) (n : ℕ)
    (es fs : List (NodeEvent M)) (past : Past S)
    → AreFair note step p n es past → AreFair note step p n fs (after_all note step es past)
    → AreFair note step p n (es ++ fs) past
fair-append note step p n [] fs past h g = g
fair-append note step p n (e ∷ es) fs past h g = (h.0, fair-append note step p n es fs (after note step e past) h.1 g)

-- what is sent has the beats of the events that send it
pub sends_of-dated : {M : Type 0} (P : ℕ → Type 0) (l beat : ℕ) (os : List (Out M)) → P beat
    → AllByRecursion (λ (d : Dated M). P d.beat) (sends_of l beat os)
sends_of-dated P l beat [] h = tt
sends_of-dated P l beat (out.Send link msg ∷ os) h = ⊎_elim
    (λ (e : (link.0 == l) ≡ true). rw e (h, sends_of-dated P l beat os h))
    (λ (e : (link.0 == l) ≡ false). rw e (sends_of-dated P l beat os h))
    (cases_Bool (link.0 == l))
sends_of-dated P l beat (out.Act what ∷ os) h = sends_of-dated P l beat os h

pub sends-dated : {M S : Type 0} (note : M → Note) (step : S → Input M → Deed M S) (P : ℕ → Type 0) (l : ℕ)
    (es : List (NodeEvent M)) (past : Past S)
    → AllByRecursion (λ e. P (stamp_at e).beat) es
    → AllByRecursion (λ (d : Dated M). P d.beat) (sends_along note step l es past)
sends-dated note step P l [] past h = tt
sends-dated {M} note step P l (e ∷ es) past h =
    let next = after note step e past in
    let here = sends_of l (stamp_at e).beat (outs_of step e past) in
    all-append (λ (d : Dated M). P d.beat) here (sends_along note step l es next)
    (sends_of-dated P l (stamp_at e).beat (outs_of step e past) h.0) (sends-dated note step P l es next h.1)

-- what happens in one beat is sent in it
pub sends-in_beat : {M S : Type 0} (note : M → Note) (step : S → Input M → Deed M S) (l beat : ℕ)
    (es : List (NodeEvent M)) (past : Past S)
    → AllByRecursion (λ e. (stamp_at e).beat ≡ beat) es
    → AllByRecursion (λ (d : Dated M). d.beat ≡ beat) (sends_along note step l es past)
sends-in_beat note step l beat es past h = sends-dated note step (λ b. b ≡ beat) l es past h

-- a node sends nothing on a link that leads from another
sends-elsewhere : {M : Type 0} (note : M → Note) (p : Params) (n from to l beat : ℕ) (os : List (Out M))
    → ends_of (links_of p) l ≡ Some (from, to) → (from ≡ n → ⊥)
    → AllByRecursion (IsAllowed note p n) os → sends_of l beat os ≡ []
sends-elsewhere note p n from to l beat [] ends other h = refl
sends-elsewhere note p n from to l beat (out.Send link msg ∷ os) ends other h = ⊎_elim
    (λ (e : (link.0 == l) ≡ true).
    let same : link.0 ≡ l = eqb-true _ _ e in
    let both : Some (from, to) ≡ Some (n, h.0.0.0) = sym ends ∙ sym (ap (ends_of (links_of p)) same) ∙ h.0.0.1 in
    absurd (other (ap (λ o. (elim o as (λ _. ℕ) [ Some q ↦ q.0 | None ↦ 0 ])) both)))
    (λ (e : (link.0 == l) ≡ false). rw e (sends-elsewhere note p n from to l beat os ends other h.1))
    (cases_Bool (link.0 == l))
sends-elsewhere note p n from to l beat (out.Act what ∷ os) ends other h =
    sends-elsewhere note p n from to l beat os ends other h.1

pub sends-none : {M S : Type 0} (note : M → Note) (step : S → Input M → Deed M S) (p : Params) (n from to l : ℕ)
    (es : List (NodeEvent M)) (past : Past S)
    → ends_of (links_of p) l ≡ Some (from, to) → (from ≡ n → ⊥) → AreFair note step p n es past
    → sends_along note step l es past ≡ []
sends-none note step p n from to l [] past ends other h = refl
sends-none note step p n from to l (e ∷ es) past ends other h =
    rw (
      sends-elsewhere note p n from to l (stamp_at e).beat (outs_of step e past) ends other h.0,
      sends-none note step p n from to l es (after note step e past) ends other h.1,
    ) refl

-- an entry of a node's own tells of no message and of no death
own-sent : (l beat : ℕ) (w : What) → IsOwnEntry w → sent_by l beat w ≡ []
own-sent l beat (what.Got link note) h = absurd h
own-sent l beat (what.Sent link note) h = absurd h
own-sent l beat what.Died h = absurd h
own-sent l beat other h = refl

own-got : (l beat : ℕ) (w : What) → IsOwnEntry w → got_by l beat w ≡ []
own-got l beat (what.Got link note) h = absurd h
own-got l beat (what.Sent link note) h = absurd h
own-got l beat what.Died h = absurd h
own-got l beat other h = refl

sent-outs : {M : Type 0} (note : M → Note) (p : Params) (n l : ℕ) (stamp : Stamp) (os : List (Out M))
    → AllByRecursion (IsAllowed note p n) os
    → sent_on l (map (entry_of note stamp) os) ≡ map (noted_as note) (sends_of l stamp.beat os)
unfolding sent_on
sent-outs note p n l stamp [] h = refl
sent-outs note p n l stamp (out.Send link msg ∷ os) h = ⊎_elim
    (λ (e : (link.0 == l) ≡ true). rw e
    (ap (λ ds. (record { beat = stamp.beat; item = note msg }) ∷ ds) (sent-outs note p n l stamp os h.1)))
    (λ (e : (link.0 == l) ≡ false). rw e (sent-outs note p n l stamp os h.1))
    (cases_Bool (link.0 == l))
sent-outs note p n l stamp (out.Act w ∷ os) h = rw (own-sent l stamp.beat w h.0) (sent-outs note p n l stamp os h.1)

got-outs : {M : Type 0} (note : M → Note) (p : Params) (n l : ℕ) (stamp : Stamp) (os : List (Out M))
    → AllByRecursion (IsAllowed note p n) os
    → got_on l (map (entry_of note stamp) os) ≡ []
unfolding got_on
got-outs note p n l stamp [] h = refl
got-outs note p n l stamp (out.Send link msg ∷ os) h = got-outs note p n l stamp os h.1
got-outs note p n l stamp (out.Act w ∷ os) h = rw (own-got l stamp.beat w h.0) (got-outs note p n l stamp os h.1)

pub sent_on-append : (l : ℕ) (xs ys : List Entry) → sent_on l (xs ++ ys) ≡ sent_on l xs ++ sent_on l ys
unfolding sent_on
sent_on-append l xs ys = flat_map-append (λ e. sent_by l e.stamp.beat e.what) xs ys

pub got_on-append : (l : ℕ) (xs ys : List Entry) → got_on l (xs ++ ys) ≡ got_on l xs ++ got_on l ys
unfolding got_on
got_on-append l xs ys = flat_map-append (λ e. got_by l e.stamp.beat e.what) xs ys

-- Died behind outputs tells of no message
sent-death : {M : Type 0} (note : M → Note) (l : ℕ) (stamp : Stamp) (os : List (Out M))
    → sent_on l (map (entry_of note stamp) (with_death os)) ≡ sent_on l (map (entry_of note stamp) os)
unfolding sent_on
sent-death note l stamp os = ⊎_elim
    (λ (e : ends_in_death os ≡ true). rw e refl)
    (λ (e : ends_in_death os ≡ false). rw (e, map-append (entry_of note stamp) os (out.Act what.Died ∷ []))
    (sent_on-append l (map (entry_of note stamp) os) ((record { stamp = stamp; what = what.Died }) ∷ [])
    ∙ append-nil (sent_on l (map (entry_of note stamp) os))))
    (cases_Bool (ends_in_death os))

got-death : {M : Type 0} (note : M → Note) (l : ℕ) (stamp : Stamp) (os : List (Out M))
    → got_on l (map (entry_of note stamp) (with_death os)) ≡ got_on l (map (entry_of note stamp) os)
unfolding got_on
got-death note l stamp os = ⊎_elim
    (λ (e : ends_in_death os ≡ true). rw e refl)
    (λ (e : ends_in_death os ≡ false). rw (e, map-append (entry_of note stamp) os (out.Act what.Died ∷ []))
    (got_on-append l (map (entry_of note stamp) os) ((record { stamp = stamp; what = what.Died }) ∷ [])
    ∙ append-nil (got_on l (map (entry_of note stamp) os))))
    (cases_Bool (ends_in_death os))

sent-at : {M S : Type 0} (note : M → Note) (step : S → Input M → Deed M S) (p : Params) (n l : ℕ) (e : NodeEvent M)
    (past : Past S)
    → AllByRecursion (IsAllowed note p n) (outs_of step e past)
    → sent_on l (entries_at note step e past) ≡ map (noted_as note)
    (sends_of l (stamp_at e).beat (outs_of step e past))
unfolding sent_on
sent-at note step p n l (Does (Take stamp link msg)) past h =
    sent-outs note p n l stamp (kept_outs step (Take stamp link msg) past) h
sent-at note step p n l (Does (Tick stamp)) past h = sent-outs note p n l stamp (kept_outs step (Tick stamp) past) h
sent-at note step p n l (Ends (Take stamp link msg) sends) past h =
    let os = left_outs step (Take stamp link msg) sends past in
    sent-death note l stamp os ∙ sent-outs note p n l stamp os h
sent-at note step p n l (Ends (Tick stamp) sends) past h =
    let os = left_outs step (Tick stamp) sends past in
    sent-death note l stamp os ∙ sent-outs note p n l stamp os h
sent-at note step p n l (Dies stamp) past h = refl
sent-at note step p n l (Returns stamp) past h = refl

got-at : {M S : Type 0} (note : M → Note) (step : S → Input M → Deed M S) (p : Params) (n l : ℕ) (e : NodeEvent M)
    (past : Past S)
    → AllByRecursion (IsAllowed note p n) (outs_of step e past)
    → got_on l (entries_at note step e past) ≡ map (noted_as note) (take_on l e)
unfolding got_on
got-at note step p n l (Does (Take stamp link msg)) past h = ⊎_elim
    (λ (e : (link.0 == l) ≡ true). rw e
    (ap (λ ds. (record { beat = stamp.beat; item = note msg }) ∷ ds)
    (got-outs note p n l stamp (kept_outs step (Take stamp link msg) past) h)))
    (λ (e : (link.0 == l) ≡ false). rw e (got-outs note p n l stamp (kept_outs step (Take stamp link msg) past) h))
    (cases_Bool (link.0 == l))
got-at note step p n l (Does (Tick stamp)) past h = got-outs note p n l stamp (kept_outs step (Tick stamp) past) h
got-at note step p n l (Ends (Take stamp link msg) sends) past h =
    let os = left_outs step (Take stamp link msg) sends past in
    let none = got-death note l stamp os ∙ got-outs note p n l stamp os h in
    ⊎_elim
    (λ (e : (link.0 == l) ≡ true). rw e (ap (λ ds. (record { beat = stamp.beat; item = note msg }) ∷ ds) none))
    (λ (e : (link.0 == l) ≡ false). rw e none)
    (cases_Bool (link.0 == l))
got-at note step p n l (Ends (Tick stamp) sends) past h =
    let os = left_outs step (Tick stamp) sends past in
    got-death note l stamp os ∙ got-outs note p n l stamp os h
got-at note step p n l (Dies stamp) past h = refl
got-at note step p n l (Returns stamp) past h = refl

-- what a journal says was sent is what was sent, and so what was got
pub sent-written : {M S : Type 0} (note : M → Note) (step : S → Input M → Deed M S) (p : Params) (n l : ℕ)
    (es : List (NodeEvent M)) (past : Past S)
    → AreFair note step p n es past
    → sent_on l (written note step es past) ≡ map (noted_as note) (sends_along note step l es past)
unfolding sent_on
sent-written note step p n l [] past h = refl
sent-written note step p n l (e ∷ es) past h =
    sent_on-append l (entries_at note step e past) (written note step es (after note step e past))
    ∙ ap (λ ds. ds ++ sent_on l (written note step es (after note step e past))) (sent-at note step p n l e past h.0)
    ∙ ap (λ ds. map (noted_as note) (sends_of l (stamp_at e).beat (outs_of step e past)) ++ ds)
    (sent-written note step p n l es (after note step e past) h.1)
    ∙ sym (map-append (noted_as note) (sends_of l (stamp_at e).beat (outs_of step e past))
    (sends_along note step l es (after note step e past)))

pub got-written : {M S : Type 0} (note : M → Note) (step : S → Input M → Deed M S) (p : Params) (n l : ℕ)
    (es : List (NodeEvent M)) (past : Past S)
    → AreFair note step p n es past → got_on l (written note step es past) ≡ map (noted_as note) (takes_along l es)
unfolding got_on
got-written note step p n l [] past h = refl
got-written note step p n l (e ∷ es) past h =
    got_on-append l (entries_at note step e past) (written note step es (after note step e past))
    ∙ ap (λ ds. ds ++ got_on l (written note step es (after note step e past))) (got-at note step p n l e past h.0)
    ∙ ap (λ ds. map (noted_as note) (take_on l e) ++ ds) (got-written note step p n l es (after note step e past) h.1)
    ∙ sym (map-append (noted_as note) (take_on l e) (takes_along l es))
