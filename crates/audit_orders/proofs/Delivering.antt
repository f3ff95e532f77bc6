-- What the walks over all journals know is what is claimed of each link.
use Rattle.std.proofs.Common.{◌≡◌, ℕ, zero, suc, ◌+◌, ◌*◌, ◌<◌, ◌≤◌, Bool, true, false, IsTrue, nat_lt, nat_le, cond, List, [], ◌∷◌, ◌++◌, length, take, filter, Option, Some, None, slice_get, MatchOption, refl, sym, ap, subst, ◌∙◌, ⊎_elim, append-nil, arith}
use Rattle.std.specs.Prelude.{◌==◌, ◌↔◌, slice_index_or, unwrap_or}
use Rattle.std.specs.List.{flat_map}
use Rattle.std.proofs.lemmas.Bool.{eqb-true, eq-eqb, ne_eqb, ltb-true, leb-true, lt-ltb, le-leb, false≢true, both_ways, cases_eq}
use Rattle.std.proofs.lemmas.Grind.{flat_map-append}
use Rattle.std.proofs.lemmas.List.Elements.{filter-append}
use Rattle.std.proofs.lemmas.Option.{slice_get-get_or, slice_get_within}
use Rattle.tiger_base.specs.declared.message.Note.{Note}
use Rattle.slot_plan.specs.declared.params.Params.{Params}
use Rattle.node_kit.specs.declared.course.Course.{Course}
use Rattle.node_kit.specs.declared.course.Kept.{Kept}
use Rattle.node_kit.specs.declared.journal.Entry.{Entry}
use Rattle.node_kit.specs.declared.journal.What.{What}
use Rattle.node_kit.specs.declared.journal.What.TheVariants as what
use Rattle.node_kit.specs.Life.{Lifetime, back_of, lifetime_of}
use Rattle.node_kit.specs.Links.{links_of, ends_of, leads_to, leads_from}
use Rattle.run_facts.specs.Events.{Dated}
use Rattle.run_facts.specs.Carried.{sent_by, got_by, sent_on, got_on, MayBeLost, AreFrontOn, until, since, AreCarriedBy, IsAtItsEnd}
use Rattle.run_facts.proofs.Rows.{all-append}
use Rattle.run_model.specs.Runs.{IsCarriedRun}
use Rattle.run_model.specs.Tests.{at_its_end}
use Rattle.run_model.proofs.Reflects.{equal}
use Rattle.audit_orders.specs.Carrying.{half_of, back_at_end, back_to, stream_of, sent_at, got_at, all_sent_at, all_got_at, all_entries, AreFirstSent, MayBeLostTo, MayBeLostOn, StreamCounts, TellsGot, NoneIsLost, AreAtEnds, AllAtEnds, IsStrayIn, IsUncarriedAt, DecidesCarried}
use Rattle.audit_orders.specs.declared.carrying.Uncarried.{Uncarried}
use Rattle.audit_orders.proofs.Posting.{stream_is}
use Rattle.audit_orders.proofs.Walks.{one_more}

-- ---- ends of links

leads_to_is : (o : Option (ℕ × ℕ)) (n : ℕ) → IsTrue (leads_to n o) ↔ ((from : ℕ) × ◌≡◌ {A = Option (ℕ × ℕ)} o (Some (from, n)))
leads_to_is None n = ((λ h. absurd (false≢true h)), (λ g. absurd (cc (g.1))))
leads_to_is (Some ends) n = (
  (λ h. let e : ends.1 ≡ n = (equal ends.1 n).0 h in (ends.0, λ i. Some (ends.0, e i))),
  (λ g. (equal ends.1 n).1 (ap (λ (o : Option (ℕ × ℕ)). (unwrap_or o (0, 0)).1) g.1)),
)

leads_from_is : (o : Option (ℕ × ℕ)) (n : ℕ) → IsTrue (leads_from n o) ↔ ((to : ℕ) × ◌≡◌ {A = Option (ℕ × ℕ)} o (Some (n, to)))
leads_from_is None n = ((λ h. absurd (false≢true h)), (λ g. absurd (cc (g.1))))
leads_from_is (Some ends) n = (
  (λ h. let e : ends.0 ≡ n = (equal ends.0 n).0 h in (ends.1, λ i. Some (e i, ends.1))),
  (λ g. (equal ends.0 n).1 (ap (λ (o : Option (ℕ × ℕ)). (unwrap_or o (0, 0)).0) g.1)),
)

pub at_end : (p : Params) (n : ℕ) (w : What) → IsTrue (at_its_end (links_of p) n w) ↔ IsAtItsEnd p n w
at_end p n (what.Got link message) = leads_to_is (ends_of (links_of p) link.0) n
at_end p n (what.Sent link message) = leads_from_is (ends_of (links_of p) link.0) n
at_end p n other = ((λ h. tt), (λ g. refl))

pub end_more : (p : Params) (n : ℕ) (journal : List Entry) (i : ℕ) (e : Entry) → i < length journal
    → ((d : Entry) → slice_index_or journal i d ≡ e) → at_its_end (links_of p) n e.what ≡ true → AreAtEnds p n (take i journal)
    → AreAtEnds p n (take (i + 1) journal)
end_more p n journal i e low is at h =
    subst (λ (q : List Entry). AreAtEnds p n q) (sym (one_more journal i e low is))
    (all-append (λ (x : Entry). IsAtItsEnd p n x.what) (take i journal) (e ∷ []) h ((at_end p n e.what).0 at, tt))

pub stray_here : (p : Params) (n : ℕ) (journal : List Entry) (i : ℕ) (e : Entry) → i < length journal
    → ((d : Entry) → slice_index_or journal i d ≡ e) → at_its_end (links_of p) n e.what ≡ false → AreAtEnds p n (take i journal)
    → IsStrayIn p n journal i
stray_here p n journal i e low is at before = (
  e,
  slice_get-get_or journal i e low ∙ ap (λ (x : Entry). Some x) (is e),
  λ h. both_ways (at_its_end (links_of p) n e.what) at ((at_end p n e.what).1 h),
  before,
)

-- ---- streams of one link

-- the half of a link's receiver's life to which a message belongs
abbrev pub in_half : Option ℕ → ℕ → Dated Note → Bool
in_half back h d = half_of back d.beat == h

same_bool : (a b : Bool) → (a ≡ true → b ≡ true) → (b ≡ true → a ≡ true) → a ≡ b
same_bool true b f g = sym (f refl)
same_bool false true f g = g refl
same_bool false false f g = refl

filter_one : (test : Dated Note → Bool) (u : Bool) (d : Dated Note) → filter test (cond u (d ∷ []) []) ≡ cond u (cond (test d) (d ∷ []) []) []
filter_one test true d = refl
filter_one test false d = refl

-- one message of a beat
abbrev pub one_of : ℕ → Note → List (Dated Note)
one_of beat note = (record { beat = beat; item = note }) ∷ []

-- an entry of a link is of its stream exactly if it is of that half
of_stream : (c : Course) (a l beat h : ℕ) (note : Note) → h ≤ 1 → (u : Bool) → (a == l) ≡ u
    → cond (stream_of c a beat == 2 * l + h) (one_of beat note) []
    ≡ cond u (cond (half_of (back_to c l) beat == h) (one_of beat note) []) []
of_stream c a l beat h note low true same =
    ap (λ (t : Bool). cond t (one_of beat note) [])
    (same_bool (stream_of c a beat == 2 * l + h) (half_of (back_to c l) beat == h)
    (λ t.
    let e = eqb-true (stream_of c a beat) (2 * l + h) t in
    let link = eqb-true a l same in
    let half : half_of (back_to c a) beat ≡ half_of (back_to c l) beat = ap (λ (x : ℕ). half_of (back_to c x) beat) link in
    eq-eqb (half_of (back_to c l) beat) h (omega (arith, e, link, half)))
    (λ t.
    let e = eqb-true (half_of (back_to c l) beat) h t in
    let link = eqb-true a l same in
    let half : half_of (back_to c a) beat ≡ half_of (back_to c l) beat = ap (λ (x : ℕ). half_of (back_to c x) beat) link in
    eq-eqb (stream_of c a beat) (2 * l + h) (omega (arith, e, link, half))))
of_stream c a l beat h note low false other =
    ap (λ (t : Bool). cond t (one_of beat note) [])
    (ne_eqb (stream_of c a beat) (2 * l + h) (λ e. both_ways (a == l) other (eq-eqb a l (stream_is c a l beat h low e))))

sent_head : (c : Course) (l h beat : ℕ) (w : What) → h ≤ 1
    → sent_at c (2 * l + h) beat w ≡ filter (in_half (back_to c l) h) (sent_by l beat w)
sent_head c l h beat (what.Sent link note) low =
    of_stream c link.0 l beat h note low (link.0 == l) refl
    ∙ sym (filter_one (in_half (back_to c l) h) (link.0 == l) (record { beat = beat; item = note }))
sent_head c l h beat other low = refl

got_head : (c : Course) (l h beat : ℕ) (w : What) → h ≤ 1
    → got_at c (2 * l + h) beat w ≡ filter (in_half (back_to c l) h) (got_by l beat w)
got_head c l h beat (what.Got link note) low =
    of_stream c link.0 l beat h note low (link.0 == l) refl
    ∙ sym (filter_one (in_half (back_to c l) h) (link.0 == l) (record { beat = beat; item = note }))
got_head c l h beat other low = refl

sent_stream : (c : Course) (l h : ℕ) (es : List Entry) → h ≤ 1
    → all_sent_at c (2 * l + h) es ≡ filter (in_half (back_to c l) h) (sent_on l es)
unfolding sent_on
sent_stream c l h [] low = refl
sent_stream c l h (e ∷ es) low =
    ap (λ (q : List (Dated Note)). q ++ all_sent_at c (2 * l + h) es) (sent_head c l h e.stamp.beat e.what low)
    ∙ ap (λ (q : List (Dated Note)). filter (in_half (back_to c l) h) (sent_by l e.stamp.beat e.what) ++ q) (sent_stream c l h es low)
    ∙ sym (filter-append (in_half (back_to c l) h) (sent_by l e.stamp.beat e.what) (sent_on l es))

got_stream : (c : Course) (l h : ℕ) (es : List Entry) → h ≤ 1
    → all_got_at c (2 * l + h) es ≡ filter (in_half (back_to c l) h) (got_on l es)
unfolding got_on
got_stream c l h [] low = refl
got_stream c l h (e ∷ es) low =
    ap (λ (q : List (Dated Note)). q ++ all_got_at c (2 * l + h) es) (got_head c l h e.stamp.beat e.what low)
    ∙ ap (λ (q : List (Dated Note)). filter (in_half (back_to c l) h) (got_by l e.stamp.beat e.what) ++ q) (got_stream c l h es low)
    ∙ sym (filter-append (in_half (back_to c l) h) (got_by l e.stamp.beat e.what) (got_on l es))

-- ---- all journals and one of them

-- what only one journal has, all have
only_one : (f : Entry → List (Dated Note)) (journals : List (List Entry)) (k : ℕ) (journal : List Entry) → slice_get journals k ≡ Some journal
    → ((n : ℕ) (other : List Entry) → slice_get journals n ≡ Some other → (n ≡ k → ⊥) → flat_map f other ≡ [])
    → flat_map f (all_entries journals) ≡ flat_map f journal
only_one f [] k journal at none = absurd (cc)
only_one f (j ∷ js) zero journal at none =
    let same : j ≡ journal = cc in
    flat_map-append f j (all_entries js)
    ∙ ap (λ (q : List (Dated Note)). flat_map f j ++ q)
    (nothing f js (λ n other there. none (suc n) other there (λ e. absurd (omega (arith, e)))))
    ∙ append-nil (flat_map f j) ∙ ap (flat_map f) same
  where
    nothing : (g : Entry → List (Dated Note)) (xs : List (List Entry))
        → ((n : ℕ) (other : List Entry) → slice_get xs n ≡ Some other → flat_map g other ≡ []) → flat_map g (all_entries xs) ≡ []
    nothing g [] h = refl
    nothing g (x ∷ xs) h =
        flat_map-append g x (all_entries xs)
        ∙ ap (λ (q : List (Dated Note)). q ++ flat_map g (all_entries xs)) (h 0 x refl)
        ∙ nothing g xs (λ n other there. h (suc n) other there)
only_one f (j ∷ js) (suc k) journal at none =
    flat_map-append f j (all_entries js)
    ∙ ap (λ (q : List (Dated Note)). q ++ flat_map f (all_entries js)) (none 0 j refl (λ e. absurd (omega (arith, e))))
    ∙ only_one f js k journal at (λ n other there ne. none (suc n) other there (λ e. ne (omega (arith, e))))

-- the stream of a link is empty at another node
sent_none : (c : Course) (l h from to n : ℕ) (es : List Entry) → h ≤ 1 → ends_of (links_of c.plan.params) l ≡ Some (from, to) → (n ≡ from → ⊥)
    → AreAtEnds c.plan.params n es → all_sent_at c (2 * l + h) es ≡ []
sent_none c l h from to n [] low ends ne at = refl
sent_none c l h from to n (e ∷ es) low ends ne at =
    ap (λ (q : List (Dated Note)). q ++ all_sent_at c (2 * l + h) es) (head e.what at.0) ∙ sent_none c l h from to n es low ends ne at.1
  where
    head : (w : What) → IsAtItsEnd c.plan.params n w → sent_at c (2 * l + h) e.stamp.beat w ≡ []
    head (what.Sent link note) there =
        ap (λ (t : Bool). cond t (one_of e.stamp.beat note) [])
        (ne_eqb (stream_of c link.0 e.stamp.beat) (2 * l + h) (λ same.
        let link_is = stream_is c link.0 l e.stamp.beat h low same in
        let both : Some (n, there.0) ≡ Some (from, to) = sym there.1 ∙ ap (ends_of (links_of c.plan.params)) link_is ∙ ends in
        ne (ap (λ (o : Option (ℕ × ℕ)). (unwrap_or o (0, 0)).0) both)))
    head other there = refl

got_none : (c : Course) (l h from to n : ℕ) (es : List Entry) → h ≤ 1 → ends_of (links_of c.plan.params) l ≡ Some (from, to) → (n ≡ to → ⊥)
    → AreAtEnds c.plan.params n es → all_got_at c (2 * l + h) es ≡ []
got_none c l h from to n [] low ends ne at = refl
got_none c l h from to n (e ∷ es) low ends ne at =
    ap (λ (q : List (Dated Note)). q ++ all_got_at c (2 * l + h) es) (head e.what at.0) ∙ got_none c l h from to n es low ends ne at.1
  where
    head : (w : What) → IsAtItsEnd c.plan.params n w → got_at c (2 * l + h) e.stamp.beat w ≡ []
    head (what.Got link note) there =
        ap (λ (t : Bool). cond t (one_of e.stamp.beat note) [])
        (ne_eqb (stream_of c link.0 e.stamp.beat) (2 * l + h) (λ same.
        let link_is = stream_is c link.0 l e.stamp.beat h low same in
        let both : Some (there.0, n) ≡ Some (from, to) = sym there.1 ∙ ap (ends_of (links_of c.plan.params)) link_is ∙ ends in
        ne (ap (λ (o : Option (ℕ × ℕ)). (unwrap_or o (0, 0)).1) both)))
    head other there = refl

-- ---- a link carries

front_on : (most beats : ℕ) (life : Lifetime) (ss gs : List (Dated Note)) → AreFirstSent most ss gs
    → ((n : ℕ) (d : Dated Note) → slice_get ss n ≡ Some d → length gs ≤ n → MayBeLost most beats life d.beat) → AreFrontOn most beats life ss gs
front_on most beats life [] [] h lost = tt
front_on most beats life [] (g ∷ gs) h lost = absurd h
front_on most beats life (s ∷ ss) [] h lost =
    (lost 0 s refl (omega arith), front_on most beats life ss [] tt (λ n d at le. lost (suc n) d at (omega arith)))
front_on most beats life (s ∷ ss) (g ∷ gs) h lost =
    (h.0, h.1, h.2, front_on most beats life ss gs h.3 (λ n d at le. lost (suc n) d at (omega (arith, le))))

filters_same : (f g : Dated Note → Bool) → ((d : Dated Note) → f d ≡ g d) → (ds : List (Dated Note)) → filter f ds ≡ filter g ds
filters_same f g same [] = refl
filters_same f g same (d ∷ ds) =
    ap (λ (t : Bool). cond t (d ∷ filter f ds) (filter f ds)) (same d) ∙ ap (λ (q : List (Dated Note)). cond (g d) (d ∷ q) q) (filters_same f g same ds)

all_kept : (ds : List (Dated Note)) → filter (λ d. true) ds ≡ ds
all_kept [] = refl
all_kept (d ∷ ds) = ap (λ (q : List (Dated Note)). d ∷ q) (all_kept ds)

half_until : (back beat : ℕ) → (half_of (Some back) beat == 0) ≡ nat_lt beat back
half_until back beat = by (nat_le back beat) refl
  where
    by : (t : Bool) → nat_le back beat ≡ t → (cond t 1 0 == 0) ≡ nat_lt beat back
    by true e = sym (not_true (nat_lt beat back) (λ l. let low = ltb-true beat back l in let le = leb-true back beat e in absurd (omega (arith, low, le))))
      where
        not_true : (b : Bool) → (b ≡ true → ⊥) → b ≡ false
        not_true true h = absurd (h refl)
        not_true false h = refl
    by false e = sym (lt-ltb beat back (above (λ (h : back ≤ beat). both_ways (nat_le back beat) e (le-leb back beat h))))
      where
        above : (back ≤ beat → ⊥) → beat < back
        above n = omega (arith, n)

half_since : (back beat : ℕ) → (half_of (Some back) beat == 1) ≡ nat_le back beat
half_since back beat = by (nat_le back beat)
  where
    by : (t : Bool) → (cond t 1 0 == 1) ≡ t
    by true = refl
    by false = refl

-- by the halves of its receiver's life
by_halves : (most beats : ℕ) (life : Lifetime) (back : Option ℕ) (sent got : List (Dated Note))
    → ((h : ℕ) → h ≤ 1 → AreFrontOn most beats life (filter (in_half back h) sent) (filter (in_half back h) got))
    → AreCarriedBy most beats life back sent got
by_halves most beats life None sent got h =
    subst (λ (q : List (Dated Note)). AreFrontOn most beats life q got) (all_kept sent)
    (subst (λ (q : List (Dated Note)). AreFrontOn most beats life (filter (λ d. true) sent) q) (all_kept got) (h 0 (omega arith)))
by_halves most beats life (Some back) sent got h = (
  subst (λ (q : List (Dated Note)). AreFrontOn most beats life q (until back got)) (filters_same (in_half (Some back) 0) (λ d. nat_lt d.beat back) (λ d. half_until back d.beat) sent)
      (subst (λ (q : List (Dated Note)). AreFrontOn most beats life (filter (in_half (Some back) 0) sent) q)
      (filters_same (in_half (Some back) 0) (λ d. nat_lt d.beat back) (λ d. half_until back d.beat) got) (h 0 (omega arith))),
  subst (λ (q : List (Dated Note)). AreFrontOn most beats life q (since back got)) (filters_same (in_half (Some back) 1) (λ d. nat_le back d.beat) (λ d. half_since back d.beat) sent)
      (subst (λ (q : List (Dated Note)). AreFrontOn most beats life (filter (in_half (Some back) 1) sent) q)
      (filters_same (in_half (Some back) 1) (λ d. nat_le back d.beat) (λ d. half_since back d.beat) got) (h 1 (omega arith))),
)

-- the return of a link's receiver
back_is : (c : Course) (l from to : ℕ) → ends_of (links_of c.plan.params) l ≡ Some (from, to) → back_to c l ≡ back_of c to
back_is c l from to ends = by (ends_of (links_of c.plan.params) l) ends
  where
    by : (o : Option (ℕ × ℕ)) → o ≡ Some (from, to) → back_at_end c o ≡ back_of c to
    by None e = absurd (cc)
    by (Some x) e = ap (λ (o : Option (ℕ × ℕ)). back_of c (unwrap_or o (0, 0)).1) e

lost_is : (c : Course) (l from to beat : ℕ) → ends_of (links_of c.plan.params) l ≡ Some (from, to) → MayBeLostOn c l beat
    → MayBeLost c.plan.params.delay c.beats (lifetime_of c to) beat
lost_is c l from to beat ends h = subst (λ (o : Option (ℕ × ℕ)). MayBeLostTo c o beat) ends h

-- what all journals have of a link's half is what the link's own nodes have
pub sent_in_link : (k : Kept) (l h from to : ℕ) (sender : List Entry) → h ≤ 1 → AllAtEnds k.course.plan.params k.journals
    → ends_of (links_of k.course.plan.params) l ≡ Some (from, to) → slice_get k.journals from ≡ Some sender
    → all_sent_at k.course (2 * l + h) (all_entries k.journals) ≡ filter (in_half (back_of k.course to) h) (sent_on l sender)
sent_in_link k l h from to sender low at ends there =
    only_one (λ (e : Entry). sent_at k.course (2 * l + h) e.stamp.beat e.what) k.journals from sender there
    (λ n other is ne. sent_none k.course l h from to n other low ends ne (at n other is))
    ∙ sent_stream k.course l h sender low ∙ ap (λ (b : Option ℕ). filter (in_half b h) (sent_on l sender)) (back_is k.course l from to ends)

pub got_in_link : (k : Kept) (l h from to : ℕ) (receiver : List Entry) → h ≤ 1 → AllAtEnds k.course.plan.params k.journals
    → ends_of (links_of k.course.plan.params) l ≡ Some (from, to) → slice_get k.journals to ≡ Some receiver
    → all_got_at k.course (2 * l + h) (all_entries k.journals) ≡ filter (in_half (back_of k.course to) h) (got_on l receiver)
got_in_link k l h from to receiver low at ends here =
    only_one (λ (e : Entry). got_at k.course (2 * l + h) e.stamp.beat e.what) k.journals to receiver here
    (λ n other is ne. got_none k.course l h from to n other low ends ne (at n other is))
    ∙ got_stream k.course l h receiver low ∙ ap (λ (b : Option ℕ). filter (in_half b h) (got_on l receiver)) (back_is k.course l from to ends)

pub all_carried : (k : Kept) (got : StreamCounts) → AllAtEnds k.course.plan.params k.journals
    → TellsGot k.course (all_entries k.journals) got (all_entries k.journals) → NoneIsLost k.course got (all_entries k.journals) → IsCarriedRun k
all_carried k got at first lost = record {
  on_links = λ l from to sender receiver ends there here.
      let c = k.course in
      let p = c.plan.params in
      by_halves p.delay c.beats (lifetime_of c to) (back_of c to) (sent_on l sender) (got_on l receiver) (λ h low.
      subst (λ (q : List (Dated Note)). AreFrontOn p.delay c.beats (lifetime_of c to) q (filter (in_half (back_of c to) h) (got_on l receiver)))
      (sent_in_link k l h from to sender low at ends there)
      (subst (λ (q : List (Dated Note)). AreFrontOn p.delay c.beats (lifetime_of c to) (all_sent_at c (2 * l + h) (all_entries k.journals)) q)
      (got_in_link k l h from to receiver low at ends here)
      (front_on p.delay c.beats (lifetime_of c to) (all_sent_at c (2 * l + h) (all_entries k.journals)) (all_got_at c (2 * l + h) (all_entries k.journals))
      (first (2 * l + h)).first
      (λ n d is le. lost_is c l from to d.beat ends
      (lost l h low n d is (subst (λ (x : ℕ). x ≤ n) (sym (first (2 * l + h)).count) le))))));
  at_ends = at;
}

-- and back
pub lost_back : (most beats : ℕ) (life : Lifetime) (ss gs : List (Dated Note)) → AreFrontOn most beats life ss gs
    → (n : ℕ) (d : Dated Note) → slice_get ss n ≡ Some d → length gs ≤ n → MayBeLost most beats life d.beat
lost_back most beats life [] gs h n d at le = absurd (cc)
lost_back most beats life (s ∷ ss) [] h zero d at le =
    let same : s ≡ d = cc in
    subst (λ (x : Dated Note). MayBeLost most beats life x.beat) same h.0
lost_back most beats life (s ∷ ss) [] h (suc n) d at le = lost_back most beats life ss [] h.1 n d at (omega arith)
lost_back most beats life (s ∷ ss) (g ∷ gs) h zero d at le = absurd (omega (arith, le))
lost_back most beats life (s ∷ ss) (g ∷ gs) h (suc n) d at le = lost_back most beats life ss gs h.3 n d at (omega (arith, le))

pub halves_of : (most beats : ℕ) (life : Lifetime) (back : Option ℕ) (sent got : List (Dated Note)) → AreCarriedBy most beats life back sent got
    → (h : ℕ) → h ≤ 1 → AreFrontOn most beats life (filter (in_half back h) sent) (filter (in_half back h) got)
halves_of most beats life None sent got carried zero low =
    subst (λ (q : List (Dated Note)). AreFrontOn most beats life q (filter (λ d. true) got)) (sym (all_kept sent))
    (subst (λ (q : List (Dated Note)). AreFrontOn most beats life sent q) (sym (all_kept got)) carried)
halves_of most beats life None sent got carried (suc zero) low =
    subst (λ (q : List (Dated Note)). AreFrontOn most beats life q (filter (λ d. false) got)) (sym (none_kept sent))
    (subst (λ (q : List (Dated Note)). AreFrontOn most beats life [] q) (sym (none_kept got)) tt)
  where
    none_kept : (ds : List (Dated Note)) → filter (λ d. false) ds ≡ []
    none_kept [] = refl
    none_kept (d ∷ ds) = none_kept ds
halves_of most beats life (Some back) sent got carried zero low =
    subst (λ (q : List (Dated Note)). AreFrontOn most beats life q (filter (in_half (Some back) 0) got))
    (sym (filters_same (in_half (Some back) 0) (λ d. nat_lt d.beat back) (λ d. half_until back d.beat) sent))
    (subst (λ (q : List (Dated Note)). AreFrontOn most beats life (until back sent) q)
    (sym (filters_same (in_half (Some back) 0) (λ d. nat_lt d.beat back) (λ d. half_until back d.beat) got)) carried.0)
halves_of most beats life (Some back) sent got carried (suc zero) low =
    subst (λ (q : List (Dated Note)). AreFrontOn most beats life q (filter (in_half (Some back) 1) got))
    (sym (filters_same (in_half (Some back) 1) (λ d. nat_le back d.beat) (λ d. half_since back d.beat) sent))
    (subst (λ (q : List (Dated Note)). AreFrontOn most beats life (since back sent) q)
    (sym (filters_same (in_half (Some back) 1) (λ d. nat_le back d.beat) (λ d. half_since back d.beat) got)) carried.1)
halves_of most beats life back sent got carried (suc (suc h)) low = absurd (omega (arith, low))

-- ---- one journal more

pub ends_more : (p : Params) (journals : List (List Entry)) (n : ℕ) (journal : List Entry) → slice_get journals n ≡ Some journal
    → AreAtEnds p n journal → ((m : ℕ) (other : List Entry) → m < n → slice_get journals m ≡ Some other → AreAtEnds p m other)
    → (m : ℕ) (other : List Entry) → m < n + 1 → slice_get journals m ≡ Some other → AreAtEnds p m other
ends_more p journals n journal here at lower m other below there = ⊎_elim
    (λ (e : m ≡ n).
    let both : Some journal ≡ Some other = sym here ∙ subst (λ (k : ℕ). slice_get journals k ≡ Some other) e there in
    let same : journal ≡ other = cc in
    subst (λ (k : ℕ). AreAtEnds p k other) (sym e) (subst (λ (j : List Entry). AreAtEnds p n j) same at))
    (λ (ne : m ≡ n → ⊥). lower m other (omega (arith, below, ne)) there)
    (cases_eq m n)

pub all_ends : (p : Params) (journals : List (List Entry)) (n : ℕ) → length journals ≤ n
    → ((m : ℕ) (other : List Entry) → m < n → slice_get journals m ≡ Some other → AreAtEnds p m other) → AllAtEnds p journals
all_ends p journals n over lower m other there =
    let low = slice_get_within journals m other there in
    lower m other (omega (arith, over, low)) there

-- ---- the end of the walks

pub lost_decides : (k : Kept) (journals : List (List Entry)) (got : StreamCounts) (answer : Option Uncarried) → journals ≡ k.journals
    → AllAtEnds k.course.plan.params journals → TellsGot k.course (all_entries journals) got (all_entries journals)
    → MatchOption answer (NoneIsLost k.course got (all_entries journals)) (IsUncarriedAt k.course journals) → DecidesCarried k answer
lost_decides k journals got None is at first lost =
    all_carried k got (subst (AllAtEnds k.course.plan.params) is at)
    (subst (λ (js : List (List Entry)). TellsGot k.course (all_entries js) got (all_entries js)) is first)
    (subst (λ (js : List (List Entry)). NoneIsLost k.course got (all_entries js)) is lost)
lost_decides k journals got (Some found) is at first h =
    subst (λ (js : List (List Entry)). IsUncarriedAt k.course js found) is h
