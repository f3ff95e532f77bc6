-- Where a walk names a place at which a run is not carried, it is not.
use Rattle.std.proofs.Common.{◌≡◌, ℕ, zero, suc, ◌+◌, ◌*◌, ◌/◌, ◌%◌, ◌<◌, ◌≤◌, Bool, true, false, nat_le, cond, List, [], ◌∷◌, ◌++◌, length, take, drop, filter, Option, Some, None, slice_get, refl, sym, ap, subst, ◌∙◌, append_assoc, arith}
use Rattle.std.proofs.Math.Nat.{mod-lt}
use Rattle.std.proofs.lemmas.Bool.{eq-eqb, ne_eqb}
use Rattle.std.proofs.lemmas.Grind.{flat_map-append}
use Rattle.std.proofs.lemmas.List.{take-append-drop}
use Rattle.std.proofs.lemmas.Nat.{div-add-mod'}
use Rattle.tiger_base.specs.declared.message.Note.{Note}
use Rattle.node_kit.specs.declared.course.Course.{Course}
use Rattle.node_kit.specs.declared.course.Kept.{Kept}
use Rattle.node_kit.specs.declared.journal.Entry.{Entry}
use Rattle.node_kit.specs.declared.journal.What.{What}
use Rattle.node_kit.specs.declared.journal.What.TheVariants as what
use Rattle.node_kit.specs.Life.{Lifetime, back_of, lifetime_of}
use Rattle.node_kit.specs.Links.{links_of, ends_of}
use Rattle.node_kit.proofs.Ring.{from_counted, to_counted}
use Rattle.node_kit.proofs.Ways.{links_sound}
use Rattle.run_facts.specs.Events.{Dated}
use Rattle.run_facts.specs.Carried.{sent_on, got_on, AreFrontOn, IsAtItsEnd}
use Rattle.run_model.specs.Runs.{IsCarriedRun}
use Rattle.audit_orders.specs.Carrying.{half_of, back_to, stream_of, sent_at, got_at, all_sent_at, all_got_at, all_entries, entries_to, AreFirstSent, MayBeLostTo, AreAtEnds, IsLost}
use Rattle.audit_orders.specs.Verdicts.{UncarriedDenies, HasAllJournals}
use Rattle.audit_orders.specs.declared.carrying.Uncarried.TheVariants as un
use Rattle.audit_orders.proofs.Posting.{stream_is, entries_more}
use Rattle.audit_orders.proofs.Delivering.{one_of, in_half, halves_of, sent_in_link, got_in_link, lost_back}

-- ---- an entry at the wrong end

pub at_one : (c : Course) (n : ℕ) (journal : List Entry) (i : ℕ) (e : Entry) → AreAtEnds c.plan.params n journal → slice_get journal i ≡ Some e
    → IsAtItsEnd c.plan.params n e.what
at_one c n [] i e h at = absurd (cc)
at_one c n (x ∷ xs) zero e h at =
    let same : x ≡ e = cc in
    subst (λ (y : Entry). IsAtItsEnd c.plan.params n y.what) same h.0
at_one c n (x ∷ xs) (suc i) e h at = at_one c n xs i e h.1 at

-- ---- the first of what was sent

pub first_front : (most : ℕ) (ss gs hs : List (Dated Note)) → AreFirstSent most ss (gs ++ hs) → AreFirstSent most ss gs
first_front most ss [] hs h = tt
first_front most [] (g ∷ gs) hs h = absurd h
first_front most (s ∷ ss) (g ∷ gs) hs h = (h.0, h.1, h.2, first_front most ss gs hs h.3)

front_first : (most beats : ℕ) (life : Lifetime) (ss gs : List (Dated Note)) → AreFrontOn most beats life ss gs → AreFirstSent most ss gs
front_first most beats life [] [] h = tt
front_first most beats life [] (g ∷ gs) h = absurd h
front_first most beats life (s ∷ ss) [] h = tt
front_first most beats life (s ∷ ss) (g ∷ gs) h = (h.0, h.1, h.2, front_first most beats life ss gs h.3)

-- a journal is there
there_is : {X : Type 0} (xs : List X) (n : ℕ) → n < length xs → (x : X) × (slice_get xs n ≡ Some x)
there_is [] n low = absurd (omega (arith, low))
there_is (x ∷ xs) zero low = (x, refl)
there_is (x ∷ xs) (suc n) low = there_is xs n (omega (arith, low))

-- what nobody gets on a link that is none
nowhere : (c : Course) (l h : ℕ) (n : ℕ) (es : List Entry) → h ≤ 1 → ends_of (links_of c.plan.params) l ≡ None → AreAtEnds c.plan.params n es
    → all_got_at c (2 * l + h) es ≡ []
nowhere c l h n [] low none at = refl
nowhere c l h n (e ∷ es) low none at =
    ap (λ (q : List (Dated Note)). q ++ all_got_at c (2 * l + h) es) (head e.what at.0) ∙ nowhere c l h n es low none at.1
  where
    head : (w : What) → IsAtItsEnd c.plan.params n w → got_at c (2 * l + h) e.stamp.beat w ≡ []
    head (what.Got link note) there =
        ap (λ (t : Bool). cond t (one_of e.stamp.beat note) [])
        (ne_eqb (stream_of c link.0 e.stamp.beat) (2 * l + h) (λ same.
        let link_is = stream_is c link.0 l e.stamp.beat h low same in
        absurd (cc (sym none ∙ ap (ends_of (links_of c.plan.params)) (sym link_is) ∙ there.1))))
    head other there = refl

all_nowhere : (c : Course) (l h : ℕ) (journals : List (List Entry)) → h ≤ 1 → ends_of (links_of c.plan.params) l ≡ None
    → ((n : ℕ) (journal : List Entry) → slice_get journals n ≡ Some journal → all_got_at c (2 * l + h) journal ≡ [])
    → all_got_at c (2 * l + h) (all_entries journals) ≡ []
all_nowhere c l h [] low none at = refl
all_nowhere c l h (j ∷ js) low none at =
    flat_map-append (λ (e : Entry). got_at c (2 * l + h) e.stamp.beat e.what) j (all_entries js)
    ∙ ap (λ (q : List (Dated Note)). q ++ all_got_at c (2 * l + h) (all_entries js)) (at 0 j refl)
    ∙ all_nowhere c l h js low none (λ n journal there. at (suc n) journal there)

-- ---- what a carried run has of each stream

-- of each half of a link
half_front : (k : Kept) (l h from to : ℕ) (sender receiver : List Entry) → IsCarriedRun k → h ≤ 1
    → ends_of (links_of k.course.plan.params) l ≡ Some (from, to) → slice_get k.journals from ≡ Some sender → slice_get k.journals to ≡ Some receiver
    → AreFrontOn k.course.plan.params.delay k.course.beats (lifetime_of k.course to)
    (all_sent_at k.course (2 * l + h) (all_entries k.journals)) (all_got_at k.course (2 * l + h) (all_entries k.journals))
half_front k l h from to sender receiver carried low ends there here =
    let c = k.course in
    let p = c.plan.params in
    subst (λ (q : List (Dated Note)). AreFrontOn p.delay c.beats (lifetime_of c to) q (all_got_at c (2 * l + h) (all_entries k.journals)))
    (sym (sent_in_link k l h from to sender low carried.at_ends ends there))
    (subst (λ (q : List (Dated Note)). AreFrontOn p.delay c.beats (lifetime_of c to) (filter (in_half (back_of c to) h) (sent_on l sender)) q)
    (sym (got_in_link k l h from to receiver low carried.at_ends ends here))
    (halves_of p.delay c.beats (lifetime_of c to) (back_of c to) (sent_on l sender) (got_on l receiver)
    (carried.on_links l from to sender receiver ends there here) h low))

-- of a link whose nodes have journals
link_front : (k : Kept) (l h from to : ℕ) → IsCarriedRun k → HasAllJournals k → h ≤ 1 → ends_of (links_of k.course.plan.params) l ≡ Some (from, to)
    → AreFrontOn k.course.plan.params.delay k.course.beats (lifetime_of k.course to)
    (all_sent_at k.course (2 * l + h) (all_entries k.journals)) (all_got_at k.course (2 * l + h) (all_entries k.journals))
link_front k l h from to carried all low ends =
    let p = k.course.plan.params in
    let links = links_sound p k.course.plan.sound in
    let from_low = from_counted (links_of p) from to l links ends in
    let to_low = to_counted (links_of p) from to l links ends in
    let sender = there_is k.journals from (omega (arith, from_low, all)) in
    let receiver = there_is k.journals to (omega (arith, to_low, all)) in
    half_front k l h from to sender.0 receiver.0 carried low ends sender.1 receiver.1

first_of_all : (k : Kept) (l h : ℕ) → IsCarriedRun k → HasAllJournals k → h ≤ 1
    → AreFirstSent k.course.plan.params.delay (all_sent_at k.course (2 * l + h) (all_entries k.journals)) (all_got_at k.course (2 * l + h) (all_entries k.journals))
first_of_all k l h carried all low = by (ends_of (links_of k.course.plan.params) l) refl
  where
    by : (o : Option (ℕ × ℕ)) → ends_of (links_of k.course.plan.params) l ≡ o
        → AreFirstSent k.course.plan.params.delay (all_sent_at k.course (2 * l + h) (all_entries k.journals)) (all_got_at k.course (2 * l + h) (all_entries k.journals))
    by None e = subst
        (λ (q : List (Dated Note)). AreFirstSent k.course.plan.params.delay (all_sent_at k.course (2 * l + h) (all_entries k.journals)) q)
        (sym (all_nowhere k.course l h k.journals low e
        (λ n journal there. nowhere k.course l h n journal low e (carried.at_ends n journal there)))) tt
    by (Some ends) e = front_first k.course.plan.params.delay k.course.beats (lifetime_of k.course ends.1)
        (all_sent_at k.course (2 * l + h) (all_entries k.journals)) (all_got_at k.course (2 * l + h) (all_entries k.journals))
        (link_front k l h ends.0 ends.1 carried all low e)

first_in_stream : (k : Kept) (s : ℕ) → IsCarriedRun k → HasAllJournals k
    → AreFirstSent k.course.plan.params.delay (all_sent_at k.course s (all_entries k.journals)) (all_got_at k.course s (all_entries k.journals))
first_in_stream k s carried all =
    let parts = div-add-mod' s 2 in
    let rest : s % 2 < 2 = mod-lt s (omega arith) in
    let is : 2 * (s / 2) + s % 2 ≡ s = omega (arith, parts) in
    subst (λ (x : ℕ). AreFirstSent k.course.plan.params.delay (all_sent_at k.course x (all_entries k.journals)) (all_got_at k.course x (all_entries k.journals))) is
    (first_of_all k (s / 2) (s % 2) carried all (omega (arith, rest)))

-- ---- what stands behind an entry

-- the entries of all journals from a place of one of them on
abbrev pub rest_of : List (List Entry) → ℕ → List Entry → ℕ → List Entry
rest_of journals n journal i = drop i journal ++ all_entries (drop (n + 1) journals)

pub split_at : (journals : List (List Entry)) (n : ℕ) (journal : List Entry) (i : ℕ) → slice_get journals n ≡ Some journal
    → entries_to journals n journal i ++ rest_of journals n journal i ≡ all_entries journals
split_at journals n journal i here =
    let front = all_entries (take n journals) in
    let back = all_entries (drop (n + 1) journals) in
    append_assoc front (take i journal) (drop i journal ++ back)
    ∙ ap (λ (q : List Entry). front ++ q) (sym (append_assoc (take i journal) (drop i journal) back))
    ∙ ap (λ (q : List Entry). front ++ (q ++ back)) (take-append-drop i journal)
    ∙ sym (append_assoc front journal back)
    ∙ ap (λ (q : List Entry). q ++ back) (sym (entries_more journals n journal here))
    ∙ sym (flat_map-append (λ (j : List Entry). j) (take (n + 1) journals) (drop (n + 1) journals))
    ∙ ap all_entries (take-append-drop (n + 1) journals)

pub next_of : (journal : List Entry) (i : ℕ) (e : Entry) → slice_get journal i ≡ Some e → drop i journal ≡ e ∷ drop (i + 1) journal
next_of [] i e at = absurd (cc)
next_of (x ∷ xs) zero e at =
    let same : x ≡ e = cc in
    ap (λ (y : Entry). y ∷ xs) same
next_of (x ∷ xs) (suc i) e at = next_of xs i e at ∙ ap (λ (n : ℕ). e ∷ drop n (x ∷ xs)) (next i)
  where
    next : (n : ℕ) → suc (n + 1) ≡ suc n + 1
    next n = omega arith

pub behind_them : (xs : List (Dated Note)) (d : Dated Note) (ys : List (Dated Note)) → slice_get (xs ++ d ∷ ys) (length xs) ≡ Some d
behind_them [] d ys = refl
behind_them (x ∷ xs) d ys = behind_them xs d ys

-- ---- the three places

pub half_low : (back : Option ℕ) (beat : ℕ) → half_of back beat ≤ 1
half_low None beat = omega arith
half_low (Some back) beat = by (nat_le back beat)
  where
    by : (t : Bool) → cond t 1 0 ≤ 1
    by true = omega arith
    by false = omega arith

lost_denies : (k : Kept) (n i : ℕ) → HasAllJournals k → IsLost k.course k.journals n i → IsCarriedRun k → ⊥
lost_denies k n i all h carried =
    let c = k.course in
    let p = c.plan.params in
    let beat = h.entry.stamp.beat in
    let half = half_of (back_to c h.link.0) beat in
    let s = stream_of c h.link.0 beat in
    let d : Dated Note = record { beat = beat; item = h.note } in
    let at = subst (λ (w : What). IsAtItsEnd p n w) h.sends (at_one c n h.journal i h.entry (carried.at_ends n h.journal h.here) h.at) in
    let front = all_sent_at c s (entries_to k.journals n h.journal i) in
    let mine : sent_at c s beat h.entry.what ≡ d ∷ [] =
    ap (sent_at c s beat) h.sends ∙ ap (λ (t : Bool). cond t (d ∷ []) []) (eq-eqb s s refl) in
    let behind = all_sent_at c s (drop (i + 1) h.journal ++ all_entries (drop (n + 1) k.journals)) in
    let all_sent : all_sent_at c s (all_entries k.journals) ≡ front ++ d ∷ behind =
    ap (all_sent_at c s) (sym (split_at k.journals n h.journal i h.here))
    ∙ flat_map-append (λ (e : Entry). sent_at c s e.stamp.beat e.what) (entries_to k.journals n h.journal i) (rest_of k.journals n h.journal i)
    ∙ ap (λ (q : List Entry). front ++ all_sent_at c s (q ++ all_entries (drop (n + 1) k.journals))) (next_of h.journal i h.entry h.at)
    ∙ ap (λ (q : List (Dated Note)). front ++ (q ++ behind)) mine in
    h.needed (subst (λ (o : Option (ℕ × ℕ)). MayBeLostTo c o beat) (sym at.1)
    (lost_back p.delay c.beats (lifetime_of c at.0) (all_sent_at c s (all_entries k.journals)) (all_got_at c s (all_entries k.journals))
    (link_front k h.link.0 half n at.0 carried all (half_low (back_to c h.link.0) beat) at.1) (length front) d
    (ap (λ (q : List (Dated Note)). slice_get q (length front)) all_sent ∙ behind_them front d behind) h.behind))

pub uncarried_denies : UncarriedDenies
uncarried_denies k (un.Stray node i) all h carried =
    let wrong = h.here in
    wrong.stray (at_one k.course node.0 wrong.journal i wrong.entry (carried.at_ends node.0 wrong.journal wrong.here) wrong.at)
uncarried_denies k (un.Got node i) all f carried =
    let h = f.1.here in
    h.with_it (first_front k.course.plan.params.delay (all_sent_at k.course h.stream (all_entries k.journals))
    (all_got_at k.course h.stream (entries_to k.journals node.0 h.journal (i + 1)))
    (all_got_at k.course h.stream (rest_of k.journals node.0 h.journal (i + 1)))
    (subst (λ (q : List (Dated Note)). AreFirstSent k.course.plan.params.delay (all_sent_at k.course h.stream (all_entries k.journals)) q)
    (ap (all_got_at k.course h.stream) (sym (split_at k.journals node.0 h.journal (i + 1) h.here))
    ∙ flat_map-append (λ (e : Entry). got_at k.course h.stream e.stamp.beat e.what) (entries_to k.journals node.0 h.journal (i + 1))
    (rest_of k.journals node.0 h.journal (i + 1)))
    (first_in_stream k h.stream carried all)))
uncarried_denies k (un.Lost node i) all h carried = lost_denies k node.0 i all h.2.here carried
